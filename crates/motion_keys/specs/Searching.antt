-- The nearest offset on a way whose character passes a test.
use Rattle.std.specs.Prelude.{ℕ, ◌==◌, ◌||◌, Bool, not, List}
use Rattle.std.specs.declared.option.Option.{Option}
use Rattle.kak_text.specs.declared.classes.Class.TheVariants.{Blank, Line}
use Rattle.kak_text.specs.Classes.{class_of, is_same}
use Rattle.directions.specs.declared.direction.Direction.{Direction}
use Rattle.directions.specs.declared.direction.Direction.TheVariants.{Forward, Backward}
use Rattle.motion_keys.specs.declared.searching.Test.{Test}
use Rattle.motion_keys.specs.declared.searching.Test.TheVariants.{Other, Solid, Is}
use Rattle.motion_keys.specs.Nearest.{least_from, greatest_to}
use Rattle.motion_keys.specs.Words.{is_other}

-- whether a character passes: one of another class, one that is neither a blank nor a newline, or this character
abbrev pub passes : Test → ℕ → Bool
passes (Other than kind) c = is_other kind than c
passes Solid c = not (is_same (class_of c) Blank || is_same (class_of c) Line)
passes (Is wanted) c = c == wanted

-- forward the least offset from an offset on at which a test passes, backward the greatest up to it
abbrev pub nearest : Direction → (ℕ → Bool) → List ℕ → ℕ → Option ℕ
nearest Forward test text o = least_from test text o
nearest Backward test text o = greatest_to test text o
