use Rattle.std.proofs.Common.{◌++◌, ◌∷◌, ap, ◌∙◌}
use Rattle.std.specs.Prelude.{codes}
use Rattle.json_writing.specs.Drawings.{face_text, lines_text}
use Rattle.json_writing.proofs.Bytes.{grows_then, written_four}
use Rattle.json_writing.proofs.Parts.{draw_lines-parts}
use Rattle.json_writing.proofs.drawing_bytes.push_draw.Goals as goal

pub returns-clause-ok : goal.returns-clause-ok
returns-clause-ok c =
    let old = c.args.out.now.items in
    written_four old c.push_text.new.out.items c.push_lines.new.out.items c.push_next_face.new.out.items c.push_last_face.new.out.items
    (codes "{\"jsonrpc\":\"2.0\",\"method\":\"draw\",\"params\":[") (lines_text c.args.lines.now) (44 ∷ face_text c.args.default_face.now) (44 ∷ face_text c.args.padding_face.now ++ codes "]}\n")
    c.in_ok-push_text.ensures.ok (c.in_ok-push_lines.ensures.ok ∙ ap (λ ls. c.push_text.new.out.items ++ lines_text ls) c.as_slice.ensures) c.in_ok-push_next_face.ensures.ok c.in_ok-push_last_face.ensures.ok
    ∙ ap (λ b. old ++ b) (draw_lines-parts c.args.lines.now c.args.default_face.now c.args.padding_face.now)

pub returns-clause-grows : goal.returns-clause-grows
returns-clause-grows c =
    grows_then _ _ _ c.in_ok-push_text.ensures.grows (grows_then _ _ _ c.in_ok-push_lines.ensures.grows (grows_then _ _ _ c.in_ok-push_next_face.ensures.grows (c.in_ok-push_last_face.ensures.grows)))
