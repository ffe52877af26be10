use Rattle.std.proofs.Common.{◌++◌, ap, ◌∙◌}
use Rattle.json_writing.specs.Drawings.{options_lines, draw_lines, status_lines, cursor_lines, info_lines, refresh_lines}
use Rattle.json_writing.proofs.Bytes.{grows_then, written_four}
use Rattle.json_writing.proofs.Parts.{drawing_bytes-parts}
use Rattle.json_writing.proofs.drawing_bytes.encode_drawing.Goals as goal

pub returns-clause-ok : goal.returns-clause-ok
returns-clause-ok c =
    let old = c.args.out.now.items in
    written_four old c.push_window.new.out.items c.push_cursor.new.out.items c.push_info.new.out.items c.push_text.new.out.items
    (options_lines c.args.drawing.now.first ++ (draw_lines c.args.drawing.now.lines c.args.drawing.now.default_face c.args.drawing.now.padding_face ++ status_lines c.args.drawing.now.status c.args.drawing.now.mode_line c.args.drawing.now.status_face)) (cursor_lines c.args.drawing.now.cursor) (info_lines c.args.drawing.now.info) refresh_lines
    c.in_ok-push_window.ensures.ok c.in_ok-push_cursor.ensures.ok c.in_ok-push_info.ensures.ok c.in_ok-push_text.ensures.ok
    ∙ ap (λ b. old ++ b) (drawing_bytes-parts c.args.drawing.now)

pub returns-clause-grows : goal.returns-clause-grows
returns-clause-grows c =
    grows_then _ _ _ c.in_ok-push_window.ensures.grows (grows_then _ _ _ c.in_ok-push_cursor.ensures.grows (grows_then _ _ _ c.in_ok-push_info.ensures.grows (c.in_ok-push_text.ensures.grows)))
