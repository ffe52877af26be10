-- Worked examples of steps, which hold by computation.
use Rattle.std.specs.Prelude.{◌≡◌, ℕ, true, None, Some, codes}
use Rattle.list_model.specs.Ranges.{Range, only}
use Rattle.directions.specs.declared.direction.Direction.TheVariants.{Forward, Backward}
use Rattle.motion_keys.specs.Motions.{stepped}

-- a turned selection
abbrev pub turned_from : ℕ → ℕ → Range
turned_from a b = record { low = a; high = b; turned = true; target = None }

pub record Examples : Type 0 where
  pub forward : stepped (codes "ab\n") (only 0) Forward ≡ Some 1
  pub onto_the_newline : stepped (codes "ab\n") (only 1) Forward ≡ Some 2
  pub over_the_newline : stepped (codes "a\nb\n") (only 1) Forward ≡ Some 2
  pub not_past_the_end : stepped (codes "ab\n") (only 2) Forward ≡ None
  pub back : stepped (codes "ab\n") (only 1) Backward ≡ Some 0
  pub not_before_the_start : stepped (codes "ab\n") (only 0) Backward ≡ None
  pub from_the_cursor : stepped (codes "abcd\n") (turned_from 1 3) Backward ≡ Some 0
