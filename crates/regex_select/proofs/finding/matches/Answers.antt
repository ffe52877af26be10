use Rattle.regex_select.proofs.SoughtLemmas.{way-inside, way-ranges}
use Rattle.regex_select.proofs.MadeLemmas.{way-written}
use Rattle.regex_select.proofs.finding.matches.Goals as goal

pub returns-clause-inside : goal.returns-clause-inside
returns-clause-inside g c =
    way-inside c.args.lines.now c.args.direction c.in_ok-list.list.items _ (way-written c.args.direction c.in_ok-list.list.items c.as_mut_slice.result.now c.order.new.list c.as_mut_slice.ensures.value c.order.ensures) c.in_ok-list.ensures.inside

pub returns-clause-ranges : goal.returns-clause-ranges
returns-clause-ranges g c =
    way-ranges c.args.lines.now c.args.direction c.in_ok-list.list.items _ _ (way-written c.args.direction c.in_ok-list.list.items c.as_mut_slice.result.now c.order.new.list c.as_mut_slice.ensures.value c.order.ensures) c.in_ok-list.ensures.ranges
