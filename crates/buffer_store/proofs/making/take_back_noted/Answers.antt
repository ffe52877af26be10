use Rattle.buffer_store.specs.Stored.{flat_back}
use Rattle.std.proofs.Common.{◌++◌, ◌∷◌, [], ◌∙◌, ap}
use Rattle.buffer_store.proofs.TraceLemmas.{behind-taken_back, behind-some, after-step}
use Rattle.buffer_store.proofs.making.take_back_noted.Goals as goal

pub mark_of-mark-requires : goal.mark_of-mark-requires
mark_of-mark-requires c =
    behind-some _ _ _ _ (behind-taken_back c.args.lines.now c.take_back.new.lines c.args.change.now c.in_ok-shift.shift c.requires c.in_ok-shift.ensures.text c.in_ok-shift.ensures.shift)

pub returns-clause-ok : goal.returns-clause-ok
returns-clause-ok c =
    let k = c.args.change.now in
    let b = behind-taken_back c.args.lines.now c.take_back.new.lines k c.in_ok-shift.shift c.requires c.in_ok-shift.ensures.text c.in_ok-shift.ensures.shift in
    after-step c.args.lines.now c.take_back.new.lines (flat_back c.args.lines.now k) c.args.shifts.now.items _ c.args.marks.now.items _ c.in_ok-shift.shift c.mark_of-mark.result b (c.mark_of-mark.ensures c.args.lines.now (flat_back c.args.lines.now k) b) (c.push_reserved.ensures.items ∙ ap (λ ss. ss ++ c.in_ok-shift.shift ∷ []) c.in_ok-reserve.ensures.items) (c.push_reserved-2.ensures.items ∙ ap (λ ms. ms ++ c.mark_of-mark.result ∷ []) c.in_ok-reserve-2.ensures.items)
