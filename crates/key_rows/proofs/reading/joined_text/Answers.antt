use Rattle.std.proofs.Common.{◌++◌, ◌∷◌, [], ap, ap₂, sym, ◌∙◌, arith, List, ℕ}
use Rattle.std.specs.Str.{chars}
use Rattle.key_rows.proofs.SpacedLemmas.{joined-next}
use Rattle.key_rows.proofs.reading.joined_text.Goals as goal

pub loop-n-preserved : goal.loop-n-preserved
loop-n-preserved c =
    c.in_ok-extend_from_slice.ensures.ok
    ∙ ap₂ (λ (xs : List ℕ) (ys : List ℕ). xs ++ ys) (c.in_ok-push.ensures.ok ∙ ap (λ (xs : List ℕ). xs ++ 32 ∷ []) c.loop-n.invariant) (c.as_slice.ensures ∙ c.in_ok-string.ensures ∙ ap chars c.get-in-loop-n.ensures)
    ∙ sym (joined-next c.args.strings.now c.loop-n.n [] c.loop-n.auto.n (omega (arith, c.loop-n-test.true, c.len-n-end.ensures)))
