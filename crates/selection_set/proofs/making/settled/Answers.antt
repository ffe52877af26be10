use Rattle.std.proofs.Common.{◌≡◌, true, false, sym, ap, ◌∙◌}
use Rattle.std.proofs.lemmas.Bool.{false≢true}
use Rattle.selection_set.specs.Numbering.{in_order}
use Rattle.selection_set.proofs.InOrderLemmas.{ordered-lows, lows-ordered}
use Rattle.selection_set.proofs.PairLemmas.{settles-parts}
use Rattle.selection_set.proofs.making.settled.Goals as goal

pub returns-then-not-is_in_order-clause-in_order : goal.returns-then-not-is_in_order-clause-in_order
returns-then-not-is_in_order-clause-in_order c = λ text h o.
    let tested : c.is_in_order.result ≡ true = c.is_in_order.ensures ∙ ap in_order c.as_slice.ensures ∙ lows-ordered text c.args.list.items h o in
    absurd (false≢true (sym c.if-not-is_in_order.true ∙ tested))

pub returns-clause-settles : goal.returns-clause-settles
returns-clause-settles c = λ text h.
    let tested : in_order c.args.list.items ≡ true = sym (c.is_in_order.ensures ∙ ap in_order c.as_slice.ensures) ∙ c.if-not-is_in_order.false in
    settles-parts c.of_list-sels.result c.settle.new.self c.args.list.items c.args.main c.of_list-sels.ensures c.settle.ensures.settles text h (ordered-lows text c.args.list.items h tested)
