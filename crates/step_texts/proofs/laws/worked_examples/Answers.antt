-- The examples hold by computation.
use Rattle.std.proofs.Common.{refl}
use Rattle.step_texts.proofs.ExampleLemmas.{nothing-made, another-text, goes-on, breaks-off}
use Rattle.step_texts.proofs.laws.worked_examples.Goals as goal

pub returns : goal.returns
returns c = record {
  first = refl;
  behind_none = refl;
  behind_one = refl;
  behind_both = refl;
  other = refl;
  edited = refl;
  moved = refl;
  none_began = refl;
  nothing = nothing-made;
  another = another-text;
  goes_on = goes-on;
  breaks_off = λ g. breaks-off g.0;
}
