use Rattle.json_writing.specs.Drawings.{options_lines, draw_lines, status_lines}
use Rattle.json_writing.proofs.Bytes.{grows_then, written_three}
use Rattle.json_writing.proofs.drawing_bytes.push_window.Goals as goal

pub returns-clause-ok : goal.returns-clause-ok
returns-clause-ok c =
    written_three c.args.out.now.items c.push_options.new.out.items c.push_draw.new.out.items c.push_status.new.out.items
    (options_lines c.args.drawing.now.first) (draw_lines c.args.drawing.now.lines c.args.drawing.now.default_face c.args.drawing.now.padding_face) (status_lines c.args.drawing.now.status c.args.drawing.now.mode_line c.args.drawing.now.status_face)
    c.in_ok-push_options.ensures.ok c.in_ok-push_draw.ensures.ok c.in_ok-push_status.ensures.ok

pub returns-clause-grows : goal.returns-clause-grows
returns-clause-grows c =
    grows_then _ _ _ c.in_ok-push_options.ensures.grows (grows_then _ _ _ c.in_ok-push_draw.ensures.grows (c.in_ok-push_status.ensures.grows))
