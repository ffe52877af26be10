-- What is told of a reader that made its caller wait.
use Rattle.std.proofs.Common.{◌≡◌, ℕ, List, None, Some, Ok, Err, IfErr, refl, ap}
use Rattle.std.specs.declared.io.Error.{Error}
use Rattle.std.specs.declared.option.Option.{Option}
use Rattle.std.specs.declared.result.Result.{Result}
use Rattle.std.specs.Io.KnownBytes.{Keeps}
use Rattle.std.specs.IoError.{error_kind}
use Rattle.client_links.specs.Wires.{IsNotAtEnd, MayGoOn}
use Rattle.unix_links.specs.Pauses.{IsPause}
use Rattle.unix_links.specs.Streams.{told_since, StaysTold}

-- a reader of which nothing is told may wait at any time
pub untold-waits : (result : Result ℕ Error) → IfErr result (λ e. IsPause (error_kind e) → IsNotAtEnd None)
untold-waits (Ok count) = tt
untold-waits (Err error) = λ pause. tt

told-is : (bytes : List ℕ) → ◌≡◌ {A = Option (List ℕ)} (Some bytes) None → ⊥
told-is bytes e = cc

more-since : (first now : Option (List ℕ)) → IsNotAtEnd now → IsNotAtEnd (told_since first now)
more-since None now more = tt
more-since (Some bytes) now more = more

kept-since : (first old new : Option (List ℕ)) → StaysTold first old → Keeps old new → told_since first new ≡ told_since first old
kept-since None old new told kept = refl
kept-since (Some bytes) None new told kept = absurd (told (told-is bytes) refl)
kept-since (Some bytes) (Some xs) None told kept = absurd kept
kept-since (Some bytes) (Some xs) (Some ys) told kept = ap (λ k. Some k) kept

-- a link hears nothing where its reader waits, and isn't at its end then
pub waits : (first old new : Option (List ℕ)) → StaysTold first old → Keeps old new → IsNotAtEnd old
    → MayGoOn None (told_since first old) × ((◌≡◌ {A = Option (List ℕ)} None None) × (told_since first new ≡ told_since first old))
waits first old new told kept more = (more-since first old more, (refl, kept-since first old new told kept))
