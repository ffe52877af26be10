use Rattle.std.proofs.Common.{◌≡◌, drop, map, string_bytes, None}
use Rattle.command_forms.specs.Results.{then_as}
use Rattle.command_forms.specs.Switches.{behind_switches, taken}
use Rattle.command_forms.proofs.switches.take_switches.Given as goal

abbrev pub invariant-loop-i : goal.invariant-loop-i
invariant-loop-i l =
    then_as (behind_switches l.given.items) (taken l.owner l.waiting (map (λ w. string_bytes w) (drop l.i l.words))) ≡ taken l.owner None (map (λ w. string_bytes w) l.words)
