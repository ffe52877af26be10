use Rattle.std.proofs.Common.{◌++◌, ap, ◌∙◌}
use Rattle.std.specs.Prelude.{codes}
use Rattle.json_writing.specs.JsonText.{separated}
use Rattle.json_writing.specs.Drawings.{colour_text, attribute_texts}
use Rattle.json_writing.proofs.Bytes.{written_three}
use Rattle.json_writing.proofs.Parts.{face_text-parts}
use Rattle.json_writing.proofs.face_bytes.push_face.Goals as goal

pub returns-clause-ok : goal.returns-clause-ok
returns-clause-ok c =
    let old = c.args.out.now.items in
    let face = c.args.face.now in
    written_three old c.push_text.new.out.items c.push_attributes.new.out.items c.push_colours.new.out.items
    (codes "{\"attributes\":[") (separated (attribute_texts face.attributes)) (codes "],\"bg\":\"" ++ (colour_text face.bg ++ (codes "\",\"fg\":\"" ++ (colour_text face.fg ++ (codes "\",\"underline\":\"" ++ (colour_text face.underline ++ codes "\"}"))))))
    c.in_ok-push_text.ensures.ok c.in_ok-push_attributes.ensures.ok c.in_ok-push_colours.ensures.ok
    ∙ ap (λ b. old ++ b) (face_text-parts face)
