-- What follows a step that may fail.
use Rattle.std.specs.Prelude.{Result, Ok, Err}

-- the next step, where there was no error
abbrev pub then_with : {A B E : Type 0} → (A → Result B E) → Result A E → Result B E
then_with f (Ok x) = f x
then_with f (Err e) = Err e

-- a function of what came out, where there was no error
abbrev pub then_as : {A B E : Type 0} → (A → B) → Result A E → Result B E
then_as f (Ok x) = Ok (f x)
then_as f (Err e) = Err e
