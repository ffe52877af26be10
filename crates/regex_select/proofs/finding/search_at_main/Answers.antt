use Rattle.std.proofs.Common.{◌∙◌, sym, ap, subst}
use Rattle.selection_set.proofs.HeldLemmas.{main-sel}
use Rattle.regex_select.specs.Searching.{all_matches, reached, searched}
use Rattle.selection_set.specs.Inside.{range_of, IsInside}
use Rattle.regex_select.proofs.SoughtLemmas.{reached-inside, reached-range}
use Rattle.regex_select.proofs.MadeLemmas.{made-held, made-selected, main-made}
use Rattle.regex_select.proofs.finding.search_at_main.Goals as goal

pub sought-requires-clause-inside : goal.sought-requires-clause-inside
sought-requires-clause-inside g c = (main-sel c.args.lines.now c.args.sels.now c.main-main.result c.at-sel.result c.main-main.ensures.value c.at-sel.ensures c.requires.held).inside

pub returns-clause-held : goal.returns-clause-held
returns-clause-held g c =
    let made = main-made c.args.lines.now (searched c.args.search (all_matches (g.P.Pattern.source c.args.pattern.now) c.args.lines.now)) c.args.sels.now c.in_ok-list.list.items c.deref_mut.result.now c.main-main.result c.at-sel.result c.reached.result c.requires.held
    (main-sel c.args.lines.now c.args.sels.now c.main-main.result c.at-sel.result c.main-main.ensures.value c.at-sel.ensures c.requires.held) (subst (IsInside c.args.lines.now) (sym c.reached.ensures) (reached-inside c.args.lines.now c.args.search.extend c.at-sel.result c.in_ok-found.found (main-sel c.args.lines.now c.args.sels.now c.main-main.result c.at-sel.result c.main-main.ensures.value c.at-sel.ensures c.requires.held).inside c.in_ok-found.ensures.inside))
    (ap (range_of c.args.lines.now) c.reached.ensures ∙ reached-range c.args.lines.now c.args.search.extend c.at-sel.result c.in_ok-found.found (main-sel c.args.lines.now c.args.sels.now c.main-main.result c.at-sel.result c.main-main.ensures.value c.at-sel.ensures c.requires.held).inside c.in_ok-found.ensures.inside ∙ ap (reached c.args.search.extend (range_of c.args.lines.now c.at-sel.result)) c.in_ok-found.ensures.seeks) (c.in_ok-list.ensures.ok ∙ c.as_slice.ensures.value) c.deref_mut.ensures.value c.main-main.ensures.value in
    made-held c.args.lines.now _ _ c.main-main.result c.in_ok-settled.field-0 made c.in_ok-settled.ensures

pub returns-clause-searches : goal.returns-clause-searches
returns-clause-searches g c =
    let made = main-made c.args.lines.now (searched c.args.search (all_matches (g.P.Pattern.source c.args.pattern.now) c.args.lines.now)) c.args.sels.now c.in_ok-list.list.items c.deref_mut.result.now c.main-main.result c.at-sel.result c.reached.result c.requires.held
    (main-sel c.args.lines.now c.args.sels.now c.main-main.result c.at-sel.result c.main-main.ensures.value c.at-sel.ensures c.requires.held) (subst (IsInside c.args.lines.now) (sym c.reached.ensures) (reached-inside c.args.lines.now c.args.search.extend c.at-sel.result c.in_ok-found.found (main-sel c.args.lines.now c.args.sels.now c.main-main.result c.at-sel.result c.main-main.ensures.value c.at-sel.ensures c.requires.held).inside c.in_ok-found.ensures.inside))
    (ap (range_of c.args.lines.now) c.reached.ensures ∙ reached-range c.args.lines.now c.args.search.extend c.at-sel.result c.in_ok-found.found (main-sel c.args.lines.now c.args.sels.now c.main-main.result c.at-sel.result c.main-main.ensures.value c.at-sel.ensures c.requires.held).inside c.in_ok-found.ensures.inside ∙ ap (reached c.args.search.extend (range_of c.args.lines.now c.at-sel.result)) c.in_ok-found.ensures.seeks) (c.in_ok-list.ensures.ok ∙ c.as_slice.ensures.value) c.deref_mut.ensures.value c.main-main.ensures.value in
    made-selected c.args.lines.now _ _ c.main-main.result c.in_ok-settled.field-0 made c.in_ok-settled.ensures
