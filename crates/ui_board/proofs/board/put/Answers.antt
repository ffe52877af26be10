use Rattle.std.proofs.Common.{Some, refl, ◌∙◌, ◌<◌, ◌≤◌, length, arith}
use Rattle.tables.proofs.TableLemmas.{put-at, put-past}
use Rattle.ui_board.specs.Boards.{is_free}
use Rattle.ui_board.proofs.board.put.Goals as goal

pub returns-then-at-len-clause-ok : goal.returns-then-at-len-clause-ok
returns-then-at-len-clause-ok g c =
    let inside : c.args.at < length c.args.seats.now.items = omega arith in
    put-at is_free (Some c.args.ui) c.args.seats.now.items c.args.seats.now.items c.args.at refl c.requires inside

pub returns-clause-ok : goal.returns-clause-ok
returns-clause-ok g c =
    let past : length c.args.seats.now.items ≤ c.args.at = omega arith in
    c.in_ok-push.ensures.items
    ∙ put-past is_free (Some c.args.ui) c.args.seats.now.items c.args.seats.now.items c.args.at refl c.requires past
