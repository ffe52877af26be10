use Rattle.change_list.specs.Logs.{stamp_of}
use Rattle.list_shelf.proofs.StandLemmas.{least-all}
use Rattle.list_shelf.proofs.StoreLemmas.{others-stay, others-for, own-up, fills, begins, within, least-some, trim-stamp}
use Rattle.list_shelf.proofs.UpLemmas.{up-replaced, up-main, up-corner, up-added, up-left, up-trimmed, up-entered, is-trimmed}
use Rattle.list_shelf.proofs.laws.lists_stand.Goals as goal

pub returns : goal.returns
returns c = record {
  others = others-stay;
  up = own-up;
  up_replaced = up-replaced;
  up_other_main = up-main;
  up_other_corner = up-corner;
  up_added = up-added;
  up_dropped = up-left;
  up_trimmed = up-trimmed;
  up_entered = up-entered;
  below_the_limit = fills;
  noted_for = others-for;
  at_the_limit = begins;
  within_the_limit = within;
  trimmed_least = λ shelf. least-all (stamp_of shelf.log) shelf.rows;
  trimmed_to_one = λ shelf. least-some (stamp_of shelf.log) shelf.rows;
  trimmed_stamp = trim-stamp;
  trimmed = is-trimmed;
}
