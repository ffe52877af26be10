use Rattle.std.proofs.Common.{◌∙◌}
use Rattle.selection_set.proofs.HeldLemmas.{main-sel}
use Rattle.regex_select.specs.Searching.{all_matches, sought}
use Rattle.regex_select.proofs.MadeLemmas.{made-held, made-selected, added-made}
use Rattle.regex_select.proofs.finding.add_match.Goals as goal

pub sought-requires-clause-inside : goal.sought-requires-clause-inside
sought-requires-clause-inside g c = (main-sel c.args.lines.now c.args.sels.now c.main.result c.at.result c.main.ensures.value c.at.ensures c.requires.held).inside

pub returns-clause-held : goal.returns-clause-held
returns-clause-held g c =
    let made = added-made c.args.lines.now (sought c.args.direction (all_matches (g.P.Pattern.source c.args.pattern.now) c.args.lines.now)) c.args.sels.now c.in_ok-list.list.items c.push.new.list.items c.len-count.result c.at.result c.in_ok-found.found c.requires.held
    (main-sel c.args.lines.now c.args.sels.now c.main.result c.at.result c.main.ensures.value c.at.ensures c.requires.held) c.in_ok-found.ensures.inside c.in_ok-found.ensures.seeks (c.in_ok-list.ensures.ok ∙ c.as_slice.ensures.value) c.in_ok-push.ensures c.len-count.ensures.value in
    made-held c.args.lines.now _ _ c.len-count.result c.in_ok-settled.field-0 made c.in_ok-settled.ensures

pub returns-clause-adds : goal.returns-clause-adds
returns-clause-adds g c =
    let made = added-made c.args.lines.now (sought c.args.direction (all_matches (g.P.Pattern.source c.args.pattern.now) c.args.lines.now)) c.args.sels.now c.in_ok-list.list.items c.push.new.list.items c.len-count.result c.at.result c.in_ok-found.found c.requires.held
    (main-sel c.args.lines.now c.args.sels.now c.main.result c.at.result c.main.ensures.value c.at.ensures c.requires.held) c.in_ok-found.ensures.inside c.in_ok-found.ensures.seeks (c.in_ok-list.ensures.ok ∙ c.as_slice.ensures.value) c.in_ok-push.ensures c.len-count.ensures.value in
    made-selected c.args.lines.now _ _ c.len-count.result c.in_ok-settled.field-0 made c.in_ok-settled.ensures
