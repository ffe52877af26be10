use Rattle.std.specs.Prelude.{◌≡◌, ◌++◌, length, map, Some}
use Rattle.std.specs.Vec.Iter.{into_iter_items, into_iter_len}
use Rattle.ui_board.proofs.board.Board.of.Given as goal

abbrev pub invariant-loop-ui : goal.invariant-loop-ui
invariant-loop-ui g l = record {
  all : l.yielded ++ into_iter_items l.ui-iterator ≡ l.fn.uis.items;
  left : into_iter_len l.ui-iterator ≡ length (into_iter_items l.ui-iterator);
  boxes : l.seats.items ≡ map Some l.yielded;
}
