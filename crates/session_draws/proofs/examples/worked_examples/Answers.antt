use Rattle.std.proofs.Common.{refl}
use Rattle.std.specs.Fmt.{digits}
use Rattle.session_draws.proofs.examples.worked_examples.Goals as goal

pub returns : goal.returns
unfolding digits
returns c = record { first_state = refl; first_number = refl; second_state = refl; second_number = refl; greatest_seed = refl; keys = refl; first_key = refl; last_key = refl; no_strikes = refl; one_strike = refl; some_strikes = refl; head = refl; sels = refl }
