use Rattle.std.proofs.Common.{◌≡◌, ◌+◌, ◌-◌, ◌≤◌, length, map}
use Rattle.std.specs.Prelude.{chars}
use Rattle.text_model.specs.declared.TheConstants.{MAX_CHARS}
use Rattle.edit_ops.specs.Putting.{nth_string}
use Rattle.edit_ops.specs.Crowding.{strings_together}
use Rattle.edit_ops.proofs.crowding.are_crowded.Given as goal

-- what is left of the room, and how many characters each string beyond the strings has
abbrev pub invariant-loop-n : goal.invariant-loop-n
invariant-loop-n l = record {
  left : strings_together (map (λ w. chars w) l.strings) 0 l.count + l.room ≡ MAX_CHARS + strings_together (map (λ w. chars w) l.strings) l.n (l.count - l.n);
  beyond : length l.strings ≤ l.n → l.last ≡ length (nth_string (map (λ w. chars w) l.strings) l.n);
}
