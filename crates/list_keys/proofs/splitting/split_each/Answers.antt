use Rattle.std.proofs.Common.{◌≡◌, ◌<◌, ◌-◌, length, flat_map, Some, refl, sym, ap, ◌∙◌, arith}
use Rattle.std.proofs.lemmas.List.{length-map}
use Rattle.selection_set.specs.Inside.{range_of}
use Rattle.selection_set.specs.Listing.{ranges_of}
use Rattle.list_keys.specs.Cuts.{split_by}
use Rattle.list_keys.proofs.RowLemmas.{given-selected}
use Rattle.list_keys.proofs.splitting.split_each.Goals as goal

pub returns-in_ok-parts-in-Some-clause-divides : goal.returns-in_ok-parts-in-Some-clause-divides
returns-in_ok-parts-in-Some-clause-divides c =
    let ranges : ranges_of c.args.lines.now c.in_ok-list-in-Some.list.items ≡ flat_map (split_by c.args.how c.args.lines.now) (ranges_of c.args.lines.now c.args.sels.now.list) = c.in_ok-list-in-Some.ensures.ranges ∙ ap (λ l. flat_map (split_by c.args.how c.args.lines.now) (ranges_of c.args.lines.now l)) c.as_slice-in-Some.ensures.value in
    let all : length (flat_map (split_by c.args.how c.args.lines.now) (ranges_of c.args.lines.now c.args.sels.now.list)) ≡ c.in-Some.count = ap (λ l. length (flat_map (split_by c.args.how c.args.lines.now) (ranges_of c.args.lines.now l))) (sym c.as_slice.ensures.value) ∙ sym c.in-Some.ensures.value in
    let below : c.in-Some.count - 1 < length c.in_ok-list-in-Some.list.items = omega (arith, all, ap length ranges, length-map c.in_ok-list-in-Some.list.items (range_of c.args.lines.now), c.in-Some.ensures.some, ap length c.as_slice.ensures.value, c.requires.settled.main_is, length-map c.args.sels.now.list (range_of c.args.lines.now)) in
    ap Some (given-selected c.args.lines.now _ c.in_ok-list-in-Some.list.items (c.in-Some.count - 1) (record { list = flat_map (split_by c.args.how c.args.lines.now) (ranges_of c.args.lines.now c.args.sels.now.list); main = length (flat_map (split_by c.args.how c.args.lines.now) (ranges_of c.args.lines.now c.args.sels.now.list)) - 1 }) c.in_ok-parts-in-Some.parts
    refl c.in_ok-list-in-Some.ensures.inside ranges (ap (λ n. n - 1) (sym all)) below c.in_ok-parts-in-Some.ensures.settles)
