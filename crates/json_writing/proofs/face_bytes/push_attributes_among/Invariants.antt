use Rattle.std.proofs.Common.{◌≡◌, ◌==◌, ◌++◌, length, map, take}
use Rattle.std.specs.Prelude.{filter}
use Rattle.kak_faces.specs.Colours.{attribute_name, has_attribute}
use Rattle.json_writing.specs.Grows.{Grows}
use Rattle.json_writing.specs.JsonText.{plain_string, separated}
use Rattle.json_writing.proofs.face_bytes.push_attributes_among.Given as goal

abbrev pub invariant-loop-attribute : goal.invariant-loop-attribute
invariant-loop-attribute l =
    (l.out.items ≡ l.fn.out.items ++ separated (map (λ x. plain_string (attribute_name x)) (filter (has_attribute l.attributes) (take l.attribute-index l.candidates))))
    × (l.first ≡ (length (filter (has_attribute l.attributes) (take l.attribute-index l.candidates)) == 0))
    × Grows l.fn.out.items l.out.items
