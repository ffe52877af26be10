use Rattle.std.proofs.Common.{◌≡◌, ◌+◌, suc, drop, get_or, slice_set, refl, sym, ap, subst, ◌∙◌, arith}
use Rattle.selection_set.proofs.HeldLemmas.{zero_sel}
use Rattle.selection_map.specs.Reaching.{through}
use Rattle.selection_map.specs.Behind.{meets_few, CanGoPast}
use Rattle.selection_map.proofs.BackLemmas.{shifts-many}
use Rattle.selection_map.proofs.PastLemmas.{IsGoingOn, going-past, going-more, going-not, going-all, past-length}
use Rattle.selection_map.proofs.behind.carry_on.Goals as goal

pub loop-n-init : goal.loop-n-init
loop-n-init c = record { going = record { many = shifts-many c.args.shifts.now c.args.sels.now c.requires.behind; gone = refl; few = refl }; count = refl }

pub past-requires : goal.past-requires
past-requires c =
    let next : suc c.loop-n.n ≡ c.loop-n.n + 1 = omega arith in
    subst (λ l. CanGoPast l (get_or c.loop-n.sels c.loop-n.n zero_sel)) (ap (λ k. drop k c.args.shifts.now) next ∙ sym c.split_at.ensures.back)
    (going-past c.args.shifts.now c.args.sels.now c.loop-n.sels c.loop-n.n zero_sel c.requires.behind c.requires.rise (omega (arith, c.loop-n-test.true)) c.loop-n.invariant.going)

pub returns-in_default-clause-few : goal.returns-in_default-clause-few
returns-in_default-clause-few c =
    let next : c.loop-n.n + 1 ≡ suc c.loop-n.n = omega arith in
    let rest : c.split_at.result.1.now ≡ drop (suc c.loop-n.n) c.args.shifts.now = c.split_at.ensures.back ∙ ap (λ k. drop k c.args.shifts.now) next in
    going-not c.args.shifts.now c.args.sels.now c.loop-n.sels c.loop-n.n zero_sel (omega (arith, c.loop-n-test.true))
    (c.in_default.ensures.few ∙ ap (λ l. meets_few 2 l (get_or c.loop-n.sels c.loop-n.n zero_sel)) rest) c.loop-n.invariant.going

pub loop-n-preserved : goal.loop-n-preserved
loop-n-preserved c =
    let next : c.loop-n.n + 1 ≡ suc c.loop-n.n = omega arith in
    let rest : c.split_at.result.1.now ≡ drop (suc c.loop-n.n) c.args.shifts.now = c.split_at.ensures.back ∙ ap (λ k. drop k c.args.shifts.now) next in
    let going : IsGoingOn c.args.shifts.now c.args.sels.now (slice_set c.loop-n.sels c.loop-n.n c.in-Some.moved) (suc c.loop-n.n) =
    going-more c.args.shifts.now c.args.sels.now c.loop-n.sels c.loop-n.n c.in-Some.moved zero_sel (omega (arith, c.loop-n-test.true)) (c.in-Some.ensures.through ∙ ap (λ l. through l (get_or c.loop-n.sels c.loop-n.n zero_sel)) rest)
    (c.in-Some.ensures.few ∙ ap (λ l. meets_few 2 l (get_or c.loop-n.sels c.loop-n.n zero_sel)) rest) c.loop-n.invariant.going in
    record { going = rw next going; count = past-length c.args.shifts.now c.args.sels.now _ (suc c.loop-n.n) going }

pub returns-clause-carried : goal.returns-clause-carried
returns-clause-carried c = λ e. going-all c.args.shifts.now c.args.sels.now c.loop-n.sels c.loop-n.n (omega (arith, c.loop-n-test.false)) c.loop-n.invariant.going
