use Rattle.list_shelf.proofs.CaughtLemmas.{caught-is, caught-none, caught-parts}
use Rattle.list_shelf.proofs.LagLemmas.{seen-held, seen-is, up-own, brought-lags, brought-seen}
use Rattle.list_shelf.proofs.laws.lists_may_wait.Goals as goal

pub returns : goal.returns
returns c = record {
  once_for_each = caught-is;
  in_parts = caught-parts;
  through_none = caught-none;
  held = seen-held;
  eager = seen-is;
  as_it_stands = λ text log lag l up. up-own text log lag up l;
  up_to_date = λ text log lag l. (brought-lags text log lag l, brought-seen text log lag l);
}
