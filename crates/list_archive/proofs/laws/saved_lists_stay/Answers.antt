use Rattle.std.proofs.Common.{refl}
use Rattle.change_list.specs.Logs.{stamp_of}
use Rattle.list_shelf.specs.declared.lag.Lag.{Lag}
use Rattle.list_archive.proofs.StayLemmas.{left-keeps, stays-apart, parted-keeps}
use Rattle.list_archive.proofs.KeepLemmas.{key-ends, leaving-keeps}
use Rattle.list_archive.proofs.laws.saved_lists_stay.Goals as goal

pub returns : goal.returns
returns c = record {
  nothing = λ text shelf. record { stands = record { saved = tt; trails = tt; marks = tt }; is = refl };
  saved = λ text who shelf a some kept. record { stands = record { saved = some; trails = kept.trails; marks = kept.marks }; is = refl };
  dropped = λ text shelf a kept. record { stands = record { saved = tt; trails = kept.trails; marks = kept.marks }; is = refl };
  another_list = λ text who s shelf a some st kept. left-keeps text who (λ (lag : Lag). let x : Lag = record { stamp = stamp_of shelf.log; sels = s } in x) shelf a some st kept;
  parted = parted-keeps;
  kept = key-ends;
  another_main = λ text who n shelf a some apart st kept. stays-apart text who (λ (lag : Lag). let x : Lag = record { stamp = lag.stamp; sels = record { list = lag.sels.list; main = n } } in x) shelf a some apart st kept;
  client_leaves = λ text who shelf a st kept. leaving-keeps text who shelf a kept;
}
