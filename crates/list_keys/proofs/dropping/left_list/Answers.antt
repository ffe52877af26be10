use Rattle.std.proofs.Common.{◌≡◌, ◌++◌, length, filter_map, is_some, true, false, ap, ◌∙◌, arith}
use Rattle.std.proofs.lemmas.List.{length-map}
use Rattle.selection_set.specs.Inside.{range_of}
use Rattle.selection_set.specs.Listing.{ranges_of}
use Rattle.selection_set.specs.Held.{selected, main_of}
use Rattle.list_keys.specs.Cuts.{cut_by}
use Rattle.list_keys.proofs.EachLemmas.{made-whole}
use Rattle.list_keys.proofs.RowLemmas.{main-found, main-below, made-before, left-place, dropped-place}
use Rattle.list_keys.proofs.dropping.left_list.Goals as goal

pub returns-then-is_some-clause-ranges : goal.returns-then-is_some-clause-ranges
returns-then-is_some-clause-ranges c =
    made-whole c.args.lines.now (cut_by c.args.how c.args.lines.now) c.as_slice-all.result.now c.main-main.result c.cut_sel-own.result c.push_cuts.new.list.items c.push_found.new.list.items c.push_cuts-2.new.list.items (ranges_of c.args.lines.now c.in_ok-list.list.items) (main-below c.args.lines.now c.args.sels.now c.as_slice-all.result.now c.main-main.result c.requires c.as_slice-all.ensures.value c.main-main.ensures.value) c.cut_sel-own.ensures.cuts c.push_cuts.ensures.ranges c.push_found.ensures.items c.push_cuts-2.ensures.ranges
    ∙ ap (λ l. ranges_of c.args.lines.now l ++ filter_map (cut_by c.args.how c.args.lines.now) (ranges_of c.args.lines.now c.as_slice-all.result.now)) c.in_ok-list.ensures.items
    ∙ ap (λ l. filter_map (cut_by c.args.how c.args.lines.now) (ranges_of c.args.lines.now l)) c.as_slice-all.ensures.value

pub returns-then-is_some-clause-main : goal.returns-then-is_some-clause-main
returns-then-is_some-clause-main c =
    let made : is_some (cut_by c.args.how c.args.lines.now (main_of (selected c.args.lines.now c.args.sels.now))) ≡ true = main-found c.args.lines.now (cut_by c.args.how c.args.lines.now) c.args.sels.now c.as_slice-all.result.now c.main-main.result c.cut_sel-own.result c.is_some.result true c.requires c.as_slice-all.ensures.value c.main-main.ensures.value c.cut_sel-own.ensures.cuts c.is_some.ensures c.if-is_some.true in
    omega (
      arith,
      c.len-place.ensures.value,
      made-before c.args.lines.now (cut_by c.args.how c.args.lines.now) c.args.sels.now c.as_slice-all.result.now c.main-main.result c.in_ok-list.list.items c.push_cuts.new.list.items c.as_slice-all.ensures.value c.main-main.ensures.value c.push_cuts.ensures.ranges,
      ap length c.in_ok-list.ensures.items,
      left-place (cut_by c.args.how c.args.lines.now) (selected c.args.lines.now c.args.sels.now) made,
    )

pub returns-clause-ranges : goal.returns-clause-ranges
returns-clause-ranges c =
    made-whole c.args.lines.now (cut_by c.args.how c.args.lines.now) c.as_slice-all.result.now c.main-main.result c.cut_sel-own.result c.push_cuts.new.list.items c.push_found.new.list.items c.push_cuts-2.new.list.items (ranges_of c.args.lines.now c.in_ok-list.list.items) (main-below c.args.lines.now c.args.sels.now c.as_slice-all.result.now c.main-main.result c.requires c.as_slice-all.ensures.value c.main-main.ensures.value) c.cut_sel-own.ensures.cuts c.push_cuts.ensures.ranges c.push_found.ensures.items c.push_cuts-2.ensures.ranges
    ∙ ap (λ l. ranges_of c.args.lines.now l ++ filter_map (cut_by c.args.how c.args.lines.now) (ranges_of c.args.lines.now c.as_slice-all.result.now)) c.in_ok-list.ensures.items
    ∙ ap (λ l. filter_map (cut_by c.args.how c.args.lines.now) (ranges_of c.args.lines.now l)) c.as_slice-all.ensures.value

pub returns-clause-main : goal.returns-clause-main
returns-clause-main c =
    let made : is_some (cut_by c.args.how c.args.lines.now (main_of (selected c.args.lines.now c.args.sels.now))) ≡ false = main-found c.args.lines.now (cut_by c.args.how c.args.lines.now) c.args.sels.now c.as_slice-all.result.now c.main-main.result c.cut_sel-own.result c.is_some.result false c.requires c.as_slice-all.ensures.value c.main-main.ensures.value c.cut_sel-own.ensures.cuts c.is_some.ensures c.if-is_some.false in
    let ranges : ranges_of c.args.lines.now c.push_cuts-2.new.list.items ≡ filter_map (cut_by c.args.how c.args.lines.now) (ranges_of c.args.lines.now c.args.sels.now.list) =
    made-whole c.args.lines.now (cut_by c.args.how c.args.lines.now) c.as_slice-all.result.now c.main-main.result c.cut_sel-own.result c.push_cuts.new.list.items c.push_found.new.list.items c.push_cuts-2.new.list.items (ranges_of c.args.lines.now c.in_ok-list.list.items) (main-below c.args.lines.now c.args.sels.now c.as_slice-all.result.now c.main-main.result c.requires c.as_slice-all.ensures.value c.main-main.ensures.value) c.cut_sel-own.ensures.cuts c.push_cuts.ensures.ranges c.push_found.ensures.items c.push_cuts-2.ensures.ranges
    ∙ ap (λ l. ranges_of c.args.lines.now l ++ filter_map (cut_by c.args.how c.args.lines.now) (ranges_of c.args.lines.now c.as_slice-all.result.now)) c.in_ok-list.ensures.items
    ∙ ap (λ l. filter_map (cut_by c.args.how c.args.lines.now) (ranges_of c.args.lines.now l)) c.as_slice-all.ensures.value
    in
    omega (arith, c.saturating_sub-last.ensures, c.len.ensures.value, ap length ranges, length-map c.push_cuts-2.new.list.items (range_of c.args.lines.now), dropped-place (cut_by c.args.how c.args.lines.now) (selected c.args.lines.now c.args.sels.now) made)
