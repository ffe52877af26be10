use Rattle.std.proofs.Common.{◌≡◌, ◌+◌, true, false, drop, get_or, sym, ap, ◌∙◌}
use Rattle.std.specs.Prelude.{nat_le, ◌||◌}
use Rattle.text_model.specs.Texts.{offset, last_place}
use Rattle.selection_set.proofs.HeldLemmas.{zero_sel, all-at}
use Rattle.selection_set.specs.Inside.{IsInside}
use Rattle.selection_set.specs.Listing.{ranges_of}
use Rattle.key_rows.specs.Entering.{reaches_end}
use Rattle.key_rows.proofs.EndLemmas.{reaches-by, reaches-next}
use Rattle.key_rows.proofs.entries.reaches_end.Goals as goal

pub returns-then-is_at_most : goal.returns-then-is_at_most
returns-then-is_at_most c =
    let sel = get_or c.args.sels.now c.loop-sel.sel-index zero_sel in
    let inside = all-at (IsInside c.args.lines.now) c.args.sels.now c.loop-sel.sel-index zero_sel c.loop-sel-test.true c.requires in
    let here : nat_le (last_place c.args.lines.now) (offset c.args.lines.now sel.high) ≡ true =
    sym (reaches-by c.args.lines.now c.last_place-last.result sel c.last_place-last.ensures.place c.last_place-last.ensures.last inside) ∙ sym c.is_at_most.ensures ∙ c.if-is_at_most.true in
    sym (c.loop-sel.invariant ∙ reaches-next c.args.lines.now c.args.sels.now c.loop-sel.sel-index zero_sel c.loop-sel-test.true ∙ ap (λ b. b || reaches_end c.args.lines.now (ranges_of c.args.lines.now (drop (c.loop-sel.sel-index + 1) c.args.sels.now))) here)

pub loop-sel-preserved : goal.loop-sel-preserved
loop-sel-preserved c =
    let sel = get_or c.args.sels.now c.loop-sel.sel-index zero_sel in
    let inside = all-at (IsInside c.args.lines.now) c.args.sels.now c.loop-sel.sel-index zero_sel c.loop-sel-test.true c.requires in
    let here : nat_le (last_place c.args.lines.now) (offset c.args.lines.now sel.high) ≡ false =
    sym (reaches-by c.args.lines.now c.last_place-last.result sel c.last_place-last.ensures.place c.last_place-last.ensures.last inside) ∙ sym c.is_at_most.ensures ∙ c.if-is_at_most.false in
    c.loop-sel.invariant ∙ reaches-next c.args.lines.now c.args.sels.now c.loop-sel.sel-index zero_sel c.loop-sel-test.true ∙ ap (λ b. b || reaches_end c.args.lines.now (ranges_of c.args.lines.now (drop (c.loop-sel.sel-index + 1) c.args.sels.now))) here
