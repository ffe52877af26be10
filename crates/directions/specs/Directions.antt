-- The two directions along a text or a list.
use Rattle.std.specs.Prelude.{Bool, true, false}
use Rattle.directions.specs.declared.direction.Direction.{Direction}
use Rattle.directions.specs.declared.direction.Direction.TheVariants.{Forward, Backward}

-- the direction toward the end, or else that toward the start
abbrev pub direction_of : Bool → Direction
direction_of true = Forward
direction_of false = Backward
