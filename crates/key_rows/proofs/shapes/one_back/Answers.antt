use Rattle.std.proofs.Common.{◌≡◌, true, sym, ◌∙◌, inl, inr}
use Rattle.std.specs.Prelude.{◌⊎◌}
use Rattle.text_model.specs.Coords.{is_at_most}
use Rattle.key_rows.proofs.BackLemmas.{back-stays, back-goes, back-inside}
use Rattle.key_rows.proofs.shapes.one_back.Goals.{then-sel-via-then-sel, then-sel-via-else-sel+then-is_at_most}
use Rattle.key_rows.proofs.shapes.one_back.Goals as goal

pub returns-then-sel-clause-back : goal.returns-then-sel-clause-back
returns-then-sel-clause-back c =
    let stays : (c.args.sel.turned ≡ true) ⊎ (is_at_most c.args.sel.high c.args.sel.low ≡ true) =
    elim c.then-sel.branch [
      | then-sel-via-then-sel w ↦ inl w.if-sel.true
      | then-sel-via-else-sel+then-is_at_most w ↦ inr (sym w.is_at_most.ensures ∙ w.if-is_at_most.true)
    ] in
    back-stays c.args.lines.now c.args.sel c.requires stays

pub returns-in-Some-clause-inside : goal.returns-in-Some-clause-inside
returns-in-Some-clause-inside c = back-inside c.args.lines.now c.args.sel c.in-Some.high c.requires (sym c.is_at_most.ensures ∙ c.if-is_at_most.false) c.in-Some.ensures.prev.0 c.in-Some.ensures.prev.1

pub returns-in-Some-clause-back : goal.returns-in-Some-clause-back
returns-in-Some-clause-back c = back-goes c.args.lines.now c.args.sel c.in-Some.high c.requires c.if-sel.false (sym c.is_at_most.ensures ∙ c.if-is_at_most.false) c.in-Some.ensures.prev.1
