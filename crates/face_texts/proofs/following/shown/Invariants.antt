-- What is seen of the texts from the one that was reached on, through those before it.
use Rattle.std.proofs.Common.{◌≡◌, ◌-◌, ◌≤◌, length}
use Rattle.face_texts.specs.Tables.{chain, face_of, shown}
use Rattle.face_texts.specs.Covers.{face_through}
use Rattle.face_texts.proofs.following.shown.Given as goal

abbrev pub invariant-loop : goal.invariant-loop
invariant-loop l = record {
  few : l.counter ≤ length l.rows;
  seen : face_through l.cover (face_of (chain (length l.rows - l.counter) l.rows l.at)) ≡ shown l.rows l.text;
}
