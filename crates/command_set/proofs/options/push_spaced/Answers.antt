use Rattle.std.proofs.Common.{List, [], ◌∷◌, ◌++◌, ℕ, string_bytes, ap, ap₂, ◌∙◌, arith}
use Rattle.command_set.proofs.SpacedLemmas.{spaced-next}
use Rattle.command_set.proofs.options.push_spaced.Goals as goal

pub loop-n-preserved : goal.loop-n-preserved
loop-n-preserved c =
    c.in_ok-push_str-3.ensures.bytes
    ∙ ap₂ (λ (xs : List ℕ) (ys : List ℕ). xs ++ ys) (c.in_ok-push_str-2.ensures.bytes ∙ ap (λ (xs : List ℕ). xs ++ 32 ∷ []) c.loop-n.invariant) c.get-in-loop-n.ensures
    ∙ spaced-next (string_bytes c.args.text.now) c.args.words.now c.loop-n.n [] c.loop-n.auto.n (omega (arith, c.loop-n-test.true, c.len-n-end.ensures))
