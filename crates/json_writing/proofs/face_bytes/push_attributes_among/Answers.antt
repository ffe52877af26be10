use Rattle.std.proofs.Common.{◌≡◌, ℕ, ◌+◌, ◌==◌, List, ◌++◌, length, take, get_or, map, sym, ap, subst, ◌∙◌, true}
use Rattle.std.specs.Prelude.{filter}
use Rattle.kak_faces.specs.declared.colour.Attribute.{Attribute}
use Rattle.kak_faces.specs.declared.colour.Attribute.TheVariants.{Underline}
use Rattle.kak_faces.specs.Colours.{attribute_name, has_attribute}
use Rattle.json_writing.specs.Grows.{Grows}
use Rattle.json_writing.specs.JsonText.{plain_string, separated, comma_unless}
use Rattle.json_writing.proofs.Bytes.{grows_then, written_part, chosen-more, chosen-count, passed-over}
use Rattle.json_writing.proofs.face_bytes.push_attributes_among.Goals as goal
use Rattle.json_writing.proofs.face_bytes.push_attributes_among.Goals.{then-has+in_ok-push_comma+in_ok-push_attribute, else-has}

pub loop-attribute-preserved : goal.loop-attribute-preserved
loop-attribute-preserved c =
    let old = c.args.out.now.items in
    let i = c.loop-attribute.attribute-index in
    let xs = c.args.candidates.now in
    let p = has_attribute c.args.attributes in
    let f : Attribute → List ℕ = λ x. plain_string (attribute_name x) in
    elim c.if-has.branch [
      | then-has+in_ok-push_comma+in_ok-push_attribute w ↦
          let here : p (get_or xs i Underline) ≡ true = sym c.has.ensures ∙ w.if-has.true in
          let comma = w.in_ok-push_comma.ensures.ok ∙ ap (λ b. c.loop-attribute.out.items ++ comma_unless b) c.loop-attribute.invariant.1 in
          let written = written_part old c.loop-attribute.out.items w.push_comma.new.out.items w.push_attribute.new.out.items (separated (map f (filter p (take i xs)))) (separated (map f (filter p (take (i + 1) xs)))) (comma_unless (length (filter p (take i xs)) == 0)) (f (get_or xs i Underline))
          c.loop-attribute.invariant.0 comma w.in_ok-push_attribute.ensures.ok (chosen-more f p xs i Underline c.loop-attribute-test.true here) in (
            ap (λ v. v.items) w.out-is ∙ written,
            w.first-is ∙ chosen-count p xs i Underline c.loop-attribute-test.true here,
            subst (λ v. Grows old v.items) (sym w.out-is) (grows_then _ _ _ c.loop-attribute.invariant.2 (grows_then _ _ _ w.in_ok-push_comma.ensures.grows w.in_ok-push_attribute.ensures.grows)),
          )
      | else-has w ↦
          let over : filter p (take (i + 1) xs) ≡ filter p (take i xs) = passed-over p xs i Underline c.loop-attribute-test.true (sym c.has.ensures ∙ w.if-has.false) in (
            ap (λ v. v.items) w.out-is ∙ c.loop-attribute.invariant.0 ∙ ap (λ ys. old ++ separated (map f ys)) (sym over),
            w.first-is ∙ c.loop-attribute.invariant.1 ∙ ap (λ ys. length ys == 0) (sym over),
            subst (λ v. Grows old v.items) (sym w.out-is) c.loop-attribute.invariant.2,
          )
    ]
