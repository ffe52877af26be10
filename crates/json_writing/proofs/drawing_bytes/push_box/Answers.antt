use Rattle.std.proofs.Common.{◌++◌, ◌∷◌, ap, ◌∙◌}
use Rattle.std.specs.Prelude.{codes}
use Rattle.json_writing.specs.Drawings.{face_text, line_text, lines_text}
use Rattle.json_writing.proofs.Bytes.{grows_then, written_three}
use Rattle.json_writing.proofs.Parts.{box_lines-parts}
use Rattle.json_writing.proofs.drawing_bytes.push_box.Goals as goal

pub returns-clause-ok : goal.returns-clause-ok
returns-clause-ok c =
    let old = c.args.out.now.items in
    written_three old c.push_title.new.out.items c.push_content.new.out.items c.push_box_end.new.out.items
    (codes "{\"jsonrpc\":\"2.0\",\"method\":\"info_show\",\"params\":[" ++ line_text c.args.info.now.title) (44 ∷ lines_text c.args.info.now.content) (codes ",{\"column\":0,\"line\":0}," ++ (face_text c.args.info.now.face ++ codes ",\"prompt\"]}\n"))
    c.in_ok-push_title.ensures.ok c.in_ok-push_content.ensures.ok c.in_ok-push_box_end.ensures.ok
    ∙ ap (λ b. old ++ b) (box_lines-parts c.args.info.now)

pub returns-clause-grows : goal.returns-clause-grows
returns-clause-grows c =
    grows_then _ _ _ c.in_ok-push_title.ensures.grows (grows_then _ _ _ c.in_ok-push_content.ensures.grows (c.in_ok-push_box_end.ensures.grows))
