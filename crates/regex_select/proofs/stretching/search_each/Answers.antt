use Rattle.regex_select.proofs.WayLemmas.{back-in-order}
use Rattle.regex_select.specs.Ways.{searched_at}
use Rattle.regex_select.proofs.stretching.search_each.Goals as goal

pub returns : goal.returns
returns c = back-in-order (searched_at c.args.search c.args.matches.now) c.args.search.direction c.args.list.now c.order.new.list c.search_on.new.list c.order-2.new.list c.order.ensures c.search_on.ensures c.order-2.ensures
