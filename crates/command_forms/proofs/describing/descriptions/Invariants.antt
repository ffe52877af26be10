use Rattle.std.proofs.Common.{◌≡◌, ◌++◌, drop, map, string_bytes}
use Rattle.command_forms.specs.Results.{then_as}
use Rattle.command_forms.specs.Places.{descriptions}
use Rattle.command_forms.proofs.describing.descriptions.Given as goal

abbrev pub invariant-loop-word : goal.invariant-loop-word
invariant-loop-word l =
    then_as (λ ds. l.list.items ++ ds) (descriptions (map (λ w. string_bytes w) (drop l.word-index l.words))) ≡ descriptions (map (λ w. string_bytes w) l.words)
