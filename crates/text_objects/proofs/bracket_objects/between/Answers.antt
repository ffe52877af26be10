use Rattle.std.proofs.Common.{refl, sym, ◌∙◌}
use Rattle.text_objects.proofs.InsideLemmas.{none-behind, ends-inside, ends-crossed, nothing-ends}
use Rattle.text_objects.proofs.bracket_objects.between.Goals as goal

pub returns-in_err-anchor : goal.returns-in_err-anchor
returns-in_err-anchor c = record { gives = nothing-ends c.args.lines.now c.from_residual.result _ c.from_residual.ensures (none-behind c.args.lines.now c.args.pair.anchor c.args.pair.cursor c.requires.cursor (c.in_err-anchor.ensures.none.0 refl)) }

pub returns-then-is_at_most : goal.returns-then-is_at_most
returns-then-is_at_most c = record { gives = ends-inside c.args.lines.now c.args.pair.anchor c.args.pair.cursor c.in_ok-anchor.anchor c.in_ok-cursor.cursor c.in_ok-anchor.ensures.next.0 c.in_ok-cursor.ensures.prev.0 c.in_ok-anchor.ensures.next.1 c.in_ok-cursor.ensures.prev.1 (sym c.is_at_most.ensures ∙ c.if-is_at_most.true) }

pub returns : goal.returns
returns c = record { gives = ends-crossed c.args.lines.now c.args.pair.anchor c.args.pair.cursor c.in_ok-anchor.anchor c.in_ok-cursor.cursor c.in_ok-anchor.ensures.next.0 c.in_ok-cursor.ensures.prev.0 c.in_ok-anchor.ensures.next.1 c.in_ok-cursor.ensures.prev.1 (sym c.is_at_most.ensures ∙ c.if-is_at_most.false) }
