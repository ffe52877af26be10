use Rattle.std.proofs.Common.{◌≡◌, suc, ◌+◌, ◌-◌, length, sym, ap, ◌∙◌, arith}
use Rattle.kak_world.specs.Flat.{first_free, least_free, numbers_of}
use Rattle.kak_world.proofs.ClientLemmas.{free-on, free-here, any-number}
use Rattle.kak_world.proofs.clients.free_number.Goals as goal

pub loop-number-preserved : goal.loop-number-preserved
loop-number-preserved c =
    let e : suc (length c.args.rows.now - (c.loop-number.number + 1)) ≡ length c.args.rows.now - c.loop-number.number = omega arith in
    free-on (length c.args.rows.now - (c.loop-number.number + 1)) c.loop-number.number (numbers_of c.args.rows.now) (least_free (numbers_of c.args.rows.now))
    (sym (any-number c.loop-number.number c.args.rows.now) ∙ sym c.is_taken.ensures ∙ c.if-not-is_taken.false)
    (ap (λ k. first_free k c.loop-number.number (numbers_of c.args.rows.now)) e ∙ c.loop-number.invariant)

pub returns-then-not-is_taken : goal.returns-then-not-is_taken
returns-then-not-is_taken c =
    let e : suc (length c.args.rows.now - (c.loop-number.number + 1)) ≡ length c.args.rows.now - c.loop-number.number = omega arith in
    free-here (length c.args.rows.now - (c.loop-number.number + 1)) c.loop-number.number (numbers_of c.args.rows.now) (least_free (numbers_of c.args.rows.now))
    (sym (any-number c.loop-number.number c.args.rows.now) ∙ sym c.is_taken.ensures ∙ c.if-not-is_taken.true)
    (ap (λ k. first_free k c.loop-number.number (numbers_of c.args.rows.now)) e ∙ c.loop-number.invariant)

pub returns : goal.returns
returns c =
    let same : length c.args.rows.now ≡ c.loop-number.number = omega arith in
    let none : 0 ≡ length c.args.rows.now - c.loop-number.number = omega arith in
    same ∙ ap (λ k. first_free k c.loop-number.number (numbers_of c.args.rows.now)) none ∙ c.loop-number.invariant
