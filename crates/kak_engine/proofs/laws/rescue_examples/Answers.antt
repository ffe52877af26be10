-- The examples hold by computation.
use Rattle.std.proofs.Common.{[], ◌∷◌, Some, refl}
use lib.Utf8.{encode}
use Rattle.kak_ports.specs.declared.sink.Put.TheVariants as put
use Rattle.kak_world.specs.Flat.{rest_of, with_rest}
use Rattle.command_set.specs.Files.{saved_bytes}
use Rattle.kak_engine.specs.RescueExamples.{scratch_due, notes_due}
use Rattle.kak_engine.proofs.RescueLemmas.{one-alone}
use Rattle.kak_engine.proofs.laws.rescue_examples.Goals as goal

pub returns : goal.returns
unfolding rest_of with_rest saved_bytes encode
returns c = record {
  nothing_typed = refl;
  saved = refl;
  typed_into = refl;
  two = refl;
  one_of_two = refl;
  half_moved = refl;
  its_form = refl;
  one_fails = λ old new h. record {
    attempts = record { due = scratch_due; answer = Some put.Failed } ∷ record { due = notes_due; answer = Some put.Done } ∷ [];
    each = refl;
    honest = h;
    done_is = refl;
    wanting_is = refl;
  };
  one_alone = λ done old new asked tried. one-alone scratch_due notes_due _ done old new asked tried;
}
