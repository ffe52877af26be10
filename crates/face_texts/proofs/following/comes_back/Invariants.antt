-- Whether the name is come to is decided from the text that was reached on.
use Rattle.std.proofs.Common.{◌≡◌, ◌-◌, ◌≤◌, length}
use Rattle.std.specs.List.{list_any}
use Rattle.face_texts.specs.Tables.{is_based_on, chain, comes_back}
use Rattle.face_texts.proofs.following.comes_back.Given as goal

abbrev pub invariant-loop : goal.invariant-loop
invariant-loop l = record {
  few : l.counter ≤ length l.rows;
  rest : list_any (is_based_on l.name) (chain (length l.rows - l.counter) l.rows l.at) ≡ comes_back l.rows l.name l.text;
}
