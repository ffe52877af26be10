use Rattle.std.proofs.Common.{◌++◌, ◌∷◌, [], ap, ap₂, sym, ◌∙◌, arith, List, ℕ}
use Rattle.std.specs.Prelude.{decimal}
use Rattle.key_rows.proofs.NumberLemmas.{numbers-next}
use Rattle.key_rows.proofs.reading.numbers.Goals as goal

pub loop-n-preserved : goal.loop-n-preserved
loop-n-preserved c =
    c.in_ok-push.ensures.ok ∙ ap₂ (λ (xs : List (List ℕ)) (w : List ℕ). xs ++ w ∷ []) c.loop-n.invariant (c.in_ok-format.ensures.ok ∙ ap decimal (omega arith)) ∙ sym (numbers-next 1 c.loop-n.n)
