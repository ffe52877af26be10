use Rattle.std.proofs.Common.{rules, ◌≡◌}
use Rattle.ui_board.specs.Boards.{free_seat}
use Rattle.ui_board.proofs.BoardLemmas.{seated-at}
use Rattle.ui_board.proofs.board.Board.seat.Goals as goal

pub returns-clause-there : goal.returns-clause-there
returns-clause-there g c =
    let number : c.in-Ok.n ≡ free_seat c.args.self.now.seats.items = search rules in
    seated-at c.args.ui c.in-Ok.n c.args.self.now.seats.items c.put.new.seats.items number c.in_ok-put.ensures.ok
