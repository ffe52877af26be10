use Rattle.std.proofs.Common.{◌++◌, ◌∷◌, ap, ◌∙◌}
use Rattle.std.specs.Prelude.{codes}
use Rattle.json_writing.specs.Drawings.{face_text, line_text}
use Rattle.json_writing.proofs.Bytes.{grows_then, written_four}
use Rattle.json_writing.proofs.Parts.{status_lines-parts}
use Rattle.json_writing.proofs.drawing_bytes.push_status.Goals as goal

pub returns-clause-ok : goal.returns-clause-ok
returns-clause-ok c =
    let old = c.args.out.now.items in
    written_four old c.push_text.new.out.items c.push_line.new.out.items c.push_next_line.new.out.items c.push_last_face.new.out.items
    (codes "{\"jsonrpc\":\"2.0\",\"method\":\"draw_status\",\"params\":[") (line_text c.args.status.now) (44 ∷ line_text c.args.mode_line.now) (44 ∷ face_text c.args.face.now ++ codes "]}\n")
    c.in_ok-push_text.ensures.ok c.in_ok-push_line.ensures.ok c.in_ok-push_next_line.ensures.ok c.in_ok-push_last_face.ensures.ok
    ∙ ap (λ b. old ++ b) (status_lines-parts c.args.status.now c.args.mode_line.now c.args.face.now)

pub returns-clause-grows : goal.returns-clause-grows
returns-clause-grows c =
    grows_then _ _ _ c.in_ok-push_text.ensures.grows (grows_then _ _ _ c.in_ok-push_line.ensures.grows (grows_then _ _ _ c.in_ok-push_next_line.ensures.grows (c.in_ok-push_last_face.ensures.grows)))
