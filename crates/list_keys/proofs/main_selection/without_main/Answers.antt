use Rattle.std.proofs.Common.{rules, ◌≡◌, ◌+◌, ◌-◌, ◌==◌, length, Some, sym, ap, ap₂, ◌∙◌, arith}
use Rattle.std.specs.Prelude.{if◌then◌else◌}
use Rattle.std.proofs.lemmas.List.{length-map}
use Rattle.selection_set.specs.Inside.{range_of}
use Rattle.selection_set.specs.Listing.{ranges_of}
use Rattle.list_keys.proofs.EachLemmas.{rest_of, rest-inside, rest-ranges, rest-length}
use Rattle.list_keys.proofs.RowLemmas.{given-held, given-selected, some-settled}
use Rattle.list_keys.proofs.main_selection.without_main.Goals as goal

pub returns-in_err-list-clause-too_many : goal.returns-in_err-list-clause-too_many
returns-in_err-list-clause-too_many c = (search rules, λ m. absurd (omega (arith, m, length-map c.args.sels.now.list (range_of c.args.lines.now), c.len-count.ensures.valid.few)))

pub returns-clause-held : goal.returns-clause-held
returns-clause-held c = given-held c.args.lines.now _ (rest_of c.args.sels.now.list c.args.sels.now.main) c.place_left-place.result c.in_ok-others.others c.in_ok-list.ensures.items (rest-inside c.args.lines.now c.args.sels.now.list c.args.sels.now.main c.requires.inside) c.in_ok-others.ensures.settles

pub returns-clause-drops : goal.returns-clause-drops
returns-clause-drops c =
    let rest : length (rest_of c.args.sels.now.list c.args.sels.now.main) + 1 ≡ length c.args.sels.now.list = rest-length c.args.sels.now.list c.args.sels.now.main (omega (arith, c.requires.settled.main_is, length-map c.args.sels.now.list (range_of c.args.lines.now))) in
    let count : length (ranges_of c.args.lines.now c.args.sels.now.list) ≡ length c.args.sels.now.list = length-map c.args.sels.now.list (range_of c.args.lines.now) in
    let ranges : ranges_of c.args.lines.now (rest_of c.args.sels.now.list c.args.sels.now.main) ≡ rest_of (ranges_of c.args.lines.now c.args.sels.now.list) c.args.sels.now.main = rest-ranges c.args.lines.now c.args.sels.now.list c.args.sels.now.main in
    let some : length (ranges_of c.args.lines.now (rest_of c.args.sels.now.list c.args.sels.now.main)) ≡ length (rest_of c.args.sels.now.list c.args.sels.now.main) = length-map (rest_of c.args.sels.now.list c.args.sels.now.main) (range_of c.args.lines.now) in
    ap Some (given-selected c.args.lines.now _ (rest_of c.args.sels.now.list c.args.sels.now.main) c.place_left-place.result (record { list = rest_of (ranges_of c.args.lines.now c.args.sels.now.list) c.args.sels.now.main; main = if c.args.sels.now.main == 0 then length (ranges_of c.args.lines.now c.args.sels.now.list) - 2 else c.args.sels.now.main - 1 })
    c.in_ok-others.others c.in_ok-list.ensures.items (rest-inside c.args.lines.now c.args.sels.now.list c.args.sels.now.main c.requires.inside) ranges
    (c.place_left-place.ensures.value ∙ ap₂ (λ m n. if m == 0 then n - 2 else m - 1) c.main.ensures.value (c.len-count.ensures.value ∙ sym count))
    (omega (arith, c.place_left-place.ensures.below, c.len-count.ensures.value, rest, ap length c.in_ok-list.ensures.items)) c.in_ok-others.ensures.settles)
    ∙ sym (some-settled (rest_of (ranges_of c.args.lines.now c.args.sels.now.list) c.args.sels.now.main) (if c.args.sels.now.main == 0 then length (ranges_of c.args.lines.now c.args.sels.now.list) - 2 else c.args.sels.now.main - 1) (omega (arith, c.place_left-place.ensures.below, c.len-count.ensures.value, rest, some, ap length ranges)))
