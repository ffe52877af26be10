use Rattle.std.proofs.Common.{◌≡◌, ◌<◌, ◌-◌, List, length, flat_map, ap, ◌∙◌, arith}
use Rattle.std.proofs.lemmas.List.{length-map}
use Rattle.std.proofs.lemmas.Result.{err_from_is_err_and}
use Rattle.list_model.specs.Ranges.{Range}
use Rattle.selection_set.specs.Inside.{range_of}
use Rattle.selection_set.specs.Listing.{ranges_of}
use Rattle.selection_set.proofs.HeldLemmas.{zero_sel, nth-inside}
use Rattle.regex_select.specs.Rows.{selected_chars}
use Rattle.regex_select.specs.Taking.{taken_by, taken_in}
use Rattle.regex_select.proofs.EachLemmas.{given-selected}
use Rattle.regex_select.proofs.MatchedLemmas.{matched-whole, matched-within, pushed-matched, room-cause, not-none}
use Rattle.regex_select.proofs.matching.select.Goals as goal

pub spans-requires : goal.spans-requires
spans-requires g c = nth-inside c.args.lines.now c.args.sels.now.list c.loop-n.n c.at-sel.result c.requires.inside (omega (arith, c.loop-n-test.true, c.len-n-end.ensures.value)) c.at-sel.ensures

pub push_taken-requires-clause-inside : goal.push_taken-requires-clause-inside
push_taken-requires-clause-inside g c = nth-inside c.args.lines.now c.args.sels.now.list c.loop-n.n c.at-sel.result c.requires.inside (omega (arith, c.loop-n-test.true, c.len-n-end.ensures.value)) c.at-sel.ensures

pub returns-in_err-push_taken-clause-refused : goal.returns-in_err-push_taken-clause-refused
returns-in_err-push_taken-clause-refused g c =
    let text = c.args.lines.now in
    let f : Range → List Range = taken_in c.args.what (g.P.Pattern.source c.args.pattern.now) text in
    let below : c.loop-n.n < length c.args.sels.now.list = omega (arith, c.loop-n-test.true, c.len-n-end.ensures.value) in
    let own : taken_by c.args.what (selected_chars text (range_of text c.at-sel.result)) (range_of text c.at-sel.result).low c.as_slice.result.now ≡ f (range_of text c.at-sel.result) = ap (taken_by c.args.what (selected_chars text (range_of text c.at-sel.result)) (range_of text c.at-sel.result).low) (c.as_slice.ensures.value ∙ c.in_ok-matches.ensures) in
    let p = err_from_is_err_and c.from_residual-in_err-push_taken.result c.from_residual-in_err-push_taken.ensures.1 in
    rw (p.1, p.2) (room-cause _ _ _ (omega (arith, ap length own, ap length c.loop-n.invariant.ranges, length-map c.loop-n.list.items (range_of text), matched-within text f c.args.sels.now.list c.loop-n.n zero_sel c.at-sel.result below (c.at-sel.ensures zero_sel))) c.in_err-push_taken.ensures.refused)

pub loop-n-preserved : goal.loop-n-preserved
loop-n-preserved g c =
    let text = c.args.lines.now in
    let f : Range → List Range = taken_in c.args.what (g.P.Pattern.source c.args.pattern.now) text in
    let below : c.loop-n.n < length c.args.sels.now.list = omega (arith, c.loop-n-test.true, c.len-n-end.ensures.value) in
    let own : taken_by c.args.what (selected_chars text (range_of text c.at-sel.result)) (range_of text c.at-sel.result).low c.as_slice.result.now ≡ f (range_of text c.at-sel.result) = ap (taken_by c.args.what (selected_chars text (range_of text c.at-sel.result)) (range_of text c.at-sel.result).low) (c.as_slice.ensures.value ∙ c.in_ok-matches.ensures) in
    record {
      inside = c.in_ok-push_taken.ensures.inside;
      ranges = pushed-matched text f c.args.sels.now.list c.loop-n.list.items c.push_taken.new.list.items c.loop-n.n zero_sel c.at-sel.result _ below (c.at-sel.ensures zero_sel) own c.loop-n.invariant.ranges c.in_ok-push_taken.ensures.ranges;
      few = c.in_ok-push_taken.ensures.few;
    }

pub returns-clause-selects : goal.returns-clause-selects
returns-clause-selects g c =
    let text = c.args.lines.now in
    let f : Range → List Range = taken_in c.args.what (g.P.Pattern.source c.args.pattern.now) text in
    let ranges : ranges_of text c.loop-n.list.items ≡ flat_map f (ranges_of text c.args.sels.now.list) = c.loop-n.invariant.ranges ∙ matched-whole text f c.args.sels.now.list c.loop-n.n (omega (arith, c.loop-n-test.false, c.len-n-end.ensures.value)) in
    let main : c.len-main.result - 1 ≡ length (flat_map f (ranges_of text c.args.sels.now.list)) - 1 = omega (arith, c.len-main.ensures.value, ap length ranges, length-map c.loop-n.list.items (range_of text)) in
    given-selected text c.loop-n.list.items (c.len-main.result - 1) (record { list = flat_map f (ranges_of text c.args.sels.now.list); main = length (flat_map f (ranges_of text c.args.sels.now.list)) - 1 }) c.in_ok-settled.field-0
    c.loop-n.invariant.inside ranges main (omega (arith, c.len-main.ensures.value, not-none (length c.loop-n.list.items) c.is_empty.result c.is_empty.ensures c.if-is_empty.false)) c.in_ok-settled.ensures
