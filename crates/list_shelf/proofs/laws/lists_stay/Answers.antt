use Rattle.std.proofs.Common.{refl}
use Rattle.list_shelf.specs.Shelves.{no_row}
use Rattle.list_shelf.proofs.FollowLemmas.{renewed-rows}
use Rattle.list_shelf.proofs.StandLemmas.{brought-rows, replaced-rows, main-rows, added-rows, left-rows, read-row, all-held, trimmed-stands, corner-rows, entered-stands}
use Rattle.list_shelf.proofs.laws.lists_stay.Goals as goal

pub returns : goal.returns
returns c = record {
  empty = λ text limit. record { stands = tt; lists_are = refl };
  brought_up = λ text holder shelf st. brought-rows text shelf.log holder shelf.rows st;
  begun_again = λ text shelf st. renewed-rows text shelf.log shelf.rows st;
  trimmed = trimmed-stands;
  replaced = λ text holder s shelf h held st. replaced-rows text shelf.log holder s shelf.rows h held st;
  other_main = λ text holder n shelf some up there st. main-rows text shelf.log holder n (no_row holder) shelf.rows some up there st;
  added = λ text holder s corner shelf h held st. added-rows text shelf.log holder s corner shelf.rows h held st;
  other_corner = λ text holder corner shelf st. corner-rows text shelf.log holder corner shelf.rows st;
  entered = entered-stands;
  dropped = λ text holder shelf st. left-rows text shelf.log holder shelf.rows st;
  read = λ text holder shelf other some up st. read-row text shelf.log holder (no_row holder) other shelf.rows some up st;
  settled = λ text shelf st. all-held text shelf.log shelf.rows st;
}
