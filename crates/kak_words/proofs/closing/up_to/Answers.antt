use Rattle.std.proofs.Common.{◌+◌, false, drop, ap, ◌∙◌, sym}
use Rattle.kak_words.specs.declared.placed.Placed.{Placed}
use Rattle.kak_words.specs.Closing.{up_to}
use Rattle.kak_words.proofs.ClosingLemmas.{before_all, up_to-other, up_to-doubled, up_to-closed}
use Rattle.kak_words.proofs.closing.up_to.Goals as goal

-- what an item past the end counts as
none : Placed
none = record { at = 0; c = 0 }

pub loop-i-preserved-then-p-mark : goal.loop-i-preserved-then-p-mark
unfolding none
loop-i-preserved-then-p-mark c =
    let was = ap (λ b. before_all c.loop-i.inside.items (up_to c.args.mark b (drop c.loop-i.i c.args.text.now))) c.if-not-pending.false in
    up_to-doubled c.args.mark c.args.text.now c.loop-i.i none c.loop-i.inside.items c.push.new.self.items (up_to c.args.mark false c.args.text.now) c.loop-i-test.true c.if-p-mark.true c.in_ok-push.ensures.items (sym was ∙ c.loop-i.invariant)

pub returns-then-pending-clause-found : goal.returns-then-pending-clause-found
unfolding none
returns-then-pending-clause-found c =
    let was = ap (λ b. before_all c.loop-i.inside.items (up_to c.args.mark b (drop c.loop-i.i c.args.text.now))) c.if-pending.true in
    up_to-closed c.args.mark c.args.text.now c.loop-i.i none c.loop-i.inside.items c.split_at.result.1.now (up_to c.args.mark false c.args.text.now) c.loop-i-test.true c.if-p-mark.false c.split_at.ensures.back (sym was ∙ c.loop-i.invariant)

pub loop-i-preserved : goal.loop-i-preserved
unfolding none
loop-i-preserved c =
    let was = ap (λ b. before_all c.loop-i.inside.items (up_to c.args.mark b (drop c.loop-i.i c.args.text.now))) c.if-pending.false in
    let now = ap (λ b. before_all c.push-in-loop-i.new.self.items (up_to c.args.mark b (drop (c.loop-i.i + 1) c.args.text.now))) c.if-pending.false in
    now ∙ up_to-other c.args.mark c.args.text.now c.loop-i.i none c.loop-i.inside.items c.push-in-loop-i.new.self.items (up_to c.args.mark false c.args.text.now) c.loop-i-test.true c.if-p-mark.false c.in_ok-push-2.ensures.items (sym was ∙ c.loop-i.invariant)
