use Rattle.std.proofs.Common.{◌∙◌}
use Rattle.regex_select.specs.Searching.{all_matches}
use Rattle.regex_select.proofs.SoughtLemmas.{held-goes-on}
use Rattle.regex_select.proofs.MadeLemmas.{made-held, made-selected, each-made}
use Rattle.regex_select.proofs.finding.search.Goals as goal

pub search_each-requires-clause-order : goal.search_each-requires-clause-order
search_each-requires-clause-order g c = held-goes-on c.args.lines.now c.args.search.direction c.args.sels.now c.as_mut_slice.result.now c.requires.held (c.as_mut_slice.ensures.value ∙ c.in_ok-list.ensures.ok ∙ c.as_slice.ensures.value)

pub returns-clause-held : goal.returns-clause-held
returns-clause-held g c =
    let made = each-made c.args.lines.now c.args.search (all_matches (g.P.Pattern.source c.args.pattern.now) c.args.lines.now) c.args.sels.now c.in_ok-matches.matches.items c.as_slice-2.result.now c.in_ok-list.list.items c.as_mut_slice.result.now c.search_each.new.list c.main.result c.requires.held
    c.in_ok-matches.ensures.inside c.in_ok-matches.ensures.ranges (c.in_ok-list.ensures.ok ∙ c.as_slice.ensures.value) c.as_mut_slice.ensures.value c.as_slice-2.ensures c.main.ensures.value c.search_each.ensures in
    made-held c.args.lines.now _ _ c.main.result c.in_ok-settled.field-0 made c.in_ok-settled.ensures

pub returns-clause-searches : goal.returns-clause-searches
returns-clause-searches g c =
    let made = each-made c.args.lines.now c.args.search (all_matches (g.P.Pattern.source c.args.pattern.now) c.args.lines.now) c.args.sels.now c.in_ok-matches.matches.items c.as_slice-2.result.now c.in_ok-list.list.items c.as_mut_slice.result.now c.search_each.new.list c.main.result c.requires.held
    c.in_ok-matches.ensures.inside c.in_ok-matches.ensures.ranges (c.in_ok-list.ensures.ok ∙ c.as_slice.ensures.value) c.as_mut_slice.ensures.value c.as_slice-2.ensures c.main.ensures.value c.search_each.ensures in
    made-selected c.args.lines.now _ _ c.main.result c.in_ok-settled.field-0 made c.in_ok-settled.ensures
