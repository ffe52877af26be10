use Rattle.std.proofs.Common.{◌≡◌, List, ℕ, true, false, sym, subst}
use Rattle.list_model.specs.Settling.{each_settled}
use Rattle.regex_select.specs.Searching.{sought, searched, main_settled}
use Rattle.command_set.specs.Finishing.{list_used}
use Rattle.command_set.specs.Refusing.{IsListOf}
use Rattle.command_set.proofs.UseLemmas.{found-row}
use Rattle.command_set.proofs.finishing.list_used.Goals as goal

pub returns-in-Search-clause-lists : goal.returns-in-Search-clause-lists
returns-in-Search-clause-lists g c =
    let who = c.args.who in
    let flat = c.args.world.now.flat in
    let source : List ℕ = g.P.Pattern.source c.args.pattern.now in
    let found = found-row source (λ ms s. each_settled (searched (record { direction = c.in-Search.direction; extend = false }) ms) s) c.search.result who flat c.lines-lines.result.now c.sels-sels.result.now c.lines-lines.ensures c.sels-sels.ensures.sels
    c.search.ensures.searches c.search.ensures.some c.search.ensures.refused in
    subst (λ w. IsListOf c.search.result (list_used w source who flat) who flat) (sym c.in-Search.is) found

pub returns-in-Reach-clause-lists : goal.returns-in-Reach-clause-lists
returns-in-Reach-clause-lists g c =
    let who = c.args.who in
    let flat = c.args.world.now.flat in
    let source : List ℕ = g.P.Pattern.source c.args.pattern.now in
    let found = found-row source (λ ms s. each_settled (searched (record { direction = c.in-Reach.direction; extend = true }) ms) s) c.search-in-Reach.result who flat c.lines-lines.result.now c.sels-sels.result.now c.lines-lines.ensures c.sels-sels.ensures.sels
    c.search-in-Reach.ensures.searches c.search-in-Reach.ensures.some c.search-in-Reach.ensures.refused in
    subst (λ w. IsListOf c.search-in-Reach.result (list_used w source who flat) who flat) (sym c.in-Reach.is) found

pub returns-in-Step-clause-lists : goal.returns-in-Step-clause-lists
returns-in-Step-clause-lists g c =
    let who = c.args.who in
    let flat = c.args.world.now.flat in
    let source : List ℕ = g.P.Pattern.source c.args.pattern.now in
    let found = found-row source (λ ms s. main_settled (sought c.in-Step.direction ms) s) c.search_main.result who flat c.lines-lines.result.now c.sels-sels.result.now c.lines-lines.ensures c.sels-sels.ensures.sels
    c.search_main.ensures.searches c.search_main.ensures.some c.search_main.ensures.refused in
    subst (λ w. IsListOf c.search_main.result (list_used w source who flat) who flat) (sym c.in-Step.is) found
