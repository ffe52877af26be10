use Rattle.std.proofs.Common.{Bool, length, filter, sym, ap, ap₂, subst, ◌∙◌, arith}
use Rattle.std.proofs.lemmas.Bool.{eqb-true}
use Rattle.std.proofs.lemmas.List.{length-map, nil_from_length}
use Rattle.list_model.specs.Ranges.{Range}
use Rattle.selection_set.specs.Inside.{range_of}
use Rattle.selection_set.specs.Listing.{AreInside, ranges_of}
use Rattle.selection_set.specs.Held.{selected}
use Rattle.regex_select.specs.Rows.{is_kept, main_kept}
use Rattle.regex_select.specs.Flags.{count_set, place_set}
use Rattle.regex_select.proofs.EachLemmas.{given-held, given-selected}
use Rattle.regex_select.proofs.FlagLemmas.{kept-ranges, kept-count, flagged-few, flagged-inside, place-kept}
use Rattle.regex_select.proofs.keeping.keep.Goals as goal

pub returns-then-is_empty-clause-refused : goal.returns-then-is_empty-clause-refused
returns-then-is_empty-clause-refused g c =
    let ranges = kept-ranges c.args.lines.now (is_kept c.args.matching (g.P.Pattern.source c.args.pattern.now) c.args.lines.now) c.args.sels.now.list c.in_ok-list.list.items c.as_slice.result.now (c.as_slice.ensures.value ∙ c.in_ok-flags.ensures) c.in_ok-list.ensures in
    nil_from_length _ (omega (arith, ap length ranges, length-map c.in_ok-list.list.items (range_of c.args.lines.now), eqb-true (length c.in_ok-list.list.items) 0 (sym c.is_empty.ensures ∙ c.if-is_empty.true)))

pub main_place-main-requires-clause-all : goal.main_place-main-requires-clause-all
main_place-main-requires-clause-all g c =
    c.len.ensures.value ∙ kept-count c.args.lines.now (is_kept c.args.matching (g.P.Pattern.source c.args.pattern.now) c.args.lines.now) c.args.sels.now.list c.in_ok-list.list.items c.as_slice.result.now (c.as_slice.ensures.value ∙ c.in_ok-flags.ensures) c.in_ok-list.ensures
    ∙ ap count_set (c.as_slice.ensures.value ∙ sym c.as_slice-2.ensures.value)

pub settled-requires-clause-few : goal.settled-requires-clause-few
settled-requires-clause-few g c = omega (arith, ap length c.in_ok-list.ensures, flagged-few c.as_slice.result.now c.args.sels.now.list, c.main.ensures.valid.few)

pub returns-clause-held : goal.returns-clause-held
returns-clause-held g c =
    given-held c.args.lines.now c.in_ok-list.list.items c.main_place-main.result c.in_ok-settled.field-0 (subst (AreInside c.args.lines.now) (sym c.in_ok-list.ensures) (flagged-inside c.args.lines.now c.as_slice.result.now c.args.sels.now.list c.requires.inside)) c.in_ok-settled.ensures

pub returns-clause-keeps : goal.returns-clause-keeps
returns-clause-keeps g c =
    let test : Range → Bool = is_kept c.args.matching (g.P.Pattern.source c.args.pattern.now) c.args.lines.now in
    given-selected c.args.lines.now c.in_ok-list.list.items c.main_place-main.result
    (record { list = filter test (ranges_of c.args.lines.now c.args.sels.now.list); main = main_kept test (selected c.args.lines.now c.args.sels.now) }) c.in_ok-settled.field-0
    (subst (AreInside c.args.lines.now) (sym c.in_ok-list.ensures) (flagged-inside c.args.lines.now c.as_slice.result.now c.args.sels.now.list c.requires.inside))
    (kept-ranges c.args.lines.now test c.args.sels.now.list c.in_ok-list.list.items c.as_slice.result.now (c.as_slice.ensures.value ∙ c.in_ok-flags.ensures) c.in_ok-list.ensures)
    (c.main_place-main.ensures.value ∙ ap₂ place_set (c.as_slice-2.ensures.value ∙ c.in_ok-flags.ensures) c.main.ensures.value ∙ place-kept test (selected c.args.lines.now c.args.sels.now) c.requires.settled.main_is)
    (omega (arith, c.main_place-main.ensures.below, c.len.ensures.value)) c.in_ok-settled.ensures

pub returns-clause-some : goal.returns-clause-some
returns-clause-some g c =
    let ranges = kept-ranges c.args.lines.now (is_kept c.args.matching (g.P.Pattern.source c.args.pattern.now) c.args.lines.now) c.args.sels.now.list c.in_ok-list.list.items c.as_slice.result.now (c.as_slice.ensures.value ∙ c.in_ok-flags.ensures) c.in_ok-list.ensures in
    omega (arith, ap length ranges, length-map c.in_ok-list.list.items (range_of c.args.lines.now), c.main_place-main.ensures.below, c.len.ensures.value)
