use Rattle.std.proofs.Common.{ℕ, List, ◌+◌, not, length, ap, sym, subst, ◌∙◌, inl, inr}
use Rattle.text_model.specs.Texts.{offset}
use Rattle.text_model.specs.Changes.{changed}
use Rattle.undo_model.specs.Steps.{IsStep}
use Rattle.buffer_store.specs.Stored.{turn, KeptFits}
use Rattle.buffer_store.proofs.MakingLemmas.{made-turns_back, back-fits, weaker_on_ok}
use Rattle.buffer_store.proofs.making.take_back.Goals as goal

pub turn-requires-clause-begin : goal.turn-requires-clause-begin
turn-requires-clause-begin c = (made-turns_back c.args.lines.now c.args.change.now c.requires).begin_in

pub turn-requires-clause-end : goal.turn-requires-clause-end
turn-requires-clause-end c =
    elim (made-turns_back c.args.lines.now c.args.change.now c.requires).last_in [
      | inl e ↦ inl e
      | inr w ↦ inr (w.0, w.1 ∙ ap (λ s. offset c.args.lines.now c.args.change.now.shift.begin + length s) (sym c.as_slice.ensures))
    ]

pub turn-requires-clause-step : goal.turn-requires-clause-step
turn-requires-clause-step c =
    let P : List ℕ → Type 0 = λ s. IsStep c.args.lines.now (turn (not c.args.change.now.shift.insert) (offset c.args.lines.now c.args.change.now.shift.begin) s) in
    subst P (sym c.as_slice.ensures) (made-turns_back c.args.lines.now c.args.change.now c.requires).step

pub returns-clause-fits : goal.returns-clause-fits
returns-clause-fits c =
    let k = c.args.change.now in
    let P : List ℕ → Type 0 = λ t. KeptFits t k in
    weaker_on_ok c.turn.result _ (KeptFits c.turn.new.lines k) (λ e. subst P (sym (e ∙ ap (λ s. changed c.args.lines.now (turn (not k.shift.insert) (offset c.args.lines.now k.shift.begin) s)) c.as_slice.ensures)) (back-fits c.args.lines.now k c.requires)) c.turn.ensures.text
