use Rattle.compact_chars.proofs.TurnLemmas.{laid_twice}
use Rattle.compact_chars.proofs.turns.lay_both.Goals as goal

pub returns : goal.returns
returns g c =
    laid_twice c.args.row.now c.lay.new.row c.lay-2.new.row c.args.first.now c.args.second.now c.args.at c.requires c.lay.ensures c.lay-2.ensures
