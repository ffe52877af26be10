use Rattle.std.proofs.Common.{◌+◌, length, ap, sym, ◌∙◌, inl, inr}
use Rattle.text_model.specs.Texts.{offset}
use Rattle.buffer_store.proofs.MakingLemmas.{fits-turns}
use Rattle.buffer_store.proofs.making.make.Goals as goal

pub turn-requires-clause-begin : goal.turn-requires-clause-begin
turn-requires-clause-begin c = (fits-turns c.args.lines.now c.args.change.now c.requires).begin_in

pub turn-requires-clause-end : goal.turn-requires-clause-end
turn-requires-clause-end c =
    elim (fits-turns c.args.lines.now c.args.change.now c.requires).last_in [
      | inl e ↦ inl e
      | inr w ↦ inr (w.0, w.1 ∙ ap (λ s. offset c.args.lines.now c.args.change.now.shift.begin + length s) (sym c.as_slice.ensures))
    ]
