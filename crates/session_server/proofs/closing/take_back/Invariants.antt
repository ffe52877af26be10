use Rattle.std.proofs.Common.{◌≡◌, ◌++◌, length, map, All}
use Rattle.std.specs.Prelude.{IfOk}
use Rattle.std.specs.Vec.Iter.{into_iter_items, into_iter_len}
use Rattle.session_turns.specs.Growth.{Begins}
use Rattle.session_server.specs.Hosting.{noted, serving_end, KeepsMark}
use Rattle.session_server.proofs.closing.take_back.Given as goal

-- the passes so far were given back
abbrev pub invariant-loop-ended : goal.invariant-loop-ended
invariant-loop-ended g l = record {
  place : l.keeper.place ≡ l.fn.keeper.place;
  made : l.keeper.made ≡ l.fn.keeper.made;
  begins : Begins l.keeper.seen l.fn.keeper.seen;
  mark : KeepsMark l.fn.keeper.mark l.keeper.mark;
  results : into_iter_items l.initial.ended-iterator ≡ l.yielded ++ into_iter_items l.ended-iterator;
  left : into_iter_len l.ended-iterator ≡ length (into_iter_items l.ended-iterator);
  given : l.keeper.given ≡ l.fn.keeper.given ++ map noted l.yielded;
  ends : IfOk l.ends (λ ends. ends.items ≡ map serving_end l.yielded);
  places : All (λ r. r.1.place ≡ l.fn.keeper.place) (into_iter_items l.ended-iterator);
}
