use Rattle.std.proofs.Common.{rules, ℕ, ◌/◌, ◌<◌, length, sym, subst, subst₂, arith}
use Rattle.selection_map.specs.Catching.{IsCatchable}
use Rattle.move_marks.specs.Marking.{AreOfChanges}
use Rattle.move_marks.proofs.MarkedLemmas.{of-first, of-rest, shifts-many}
use Rattle.move_marks.proofs.LeftLemmas.{IsLeftFor, AreHalves, one-left, first-catchable, halves-are, halves-few, halves-ok}
use Rattle.move_marks.proofs.leaving.+list_of.Goals as goal

pub returns-then-marks-eq1-clause-settles : goal.returns-then-marks-eq1-clause-settles
returns-then-marks-eq1-clause-settles t c = one-left c.args.marks.now c.args.shifts.now _ c.one.result c.if-marks-eq1.true c.one.ensures

pub split_at-requires-2 : goal.split_at-requires-2
split_at-requires-2 t c = omega (arith, shifts-many c.args.marks.now c.args.shifts.now c.requires.marked)

pub list_of-requires : goal.list_of-requires
list_of-requires t c =
    let half : ℕ = length c.args.marks.now / 2 in
    let less : length c.split_at.result.0.now < length c.args.marks.now = omega (arith, c.split_at.ensures.front_len, c.requires.some) in (
      search (rules, less),
      (
        omega (arith, c.split_at.ensures.front_len, c.requires.some, c.if-marks-eq1.false),
        (
          omega (arith, c.split_at.ensures.front_len, c.requires.few),
          subst₂ AreOfChanges (sym c.split_at.ensures.front) (sym c.split_at-2.ensures.front) (of-first half c.args.marks.now c.args.shifts.now c.requires.marked),
        ),
      ),
    )

pub catch_up-requires : goal.catch_up-requires
catch_up-requires t c =
    let half : ℕ = length c.args.marks.now / 2 in
    subst (λ ss. IsCatchable ss c.in_ok-first.first) (sym c.split_at-2.ensures.back)
    (first-catchable half c.args.marks.now c.args.shifts.now c.in_ok-first.first c.requires.marked
    (subst₂ (λ ms ss. IsLeftFor ms ss c.in_ok-first.first) c.split_at.ensures.front c.split_at-2.ensures.front c.in_ok-first.ensures.settles))

pub list_of-requires-2 : goal.list_of-requires-2
list_of-requires-2 t c =
    let half : ℕ = length c.args.marks.now / 2 in
    let less : length c.split_at.result.1.now < length c.args.marks.now = omega (arith, c.split_at.ensures.back_len, c.requires.some, c.if-marks-eq1.false) in (
      search (rules, less),
      (
        omega (arith, c.split_at.ensures.back_len, c.requires.some, c.if-marks-eq1.false),
        (
          omega (arith, c.split_at.ensures.back_len, c.requires.few),
          subst₂ AreOfChanges (sym c.split_at.ensures.back) (sym c.split_at-2.ensures.back) (of-rest half c.args.marks.now c.args.shifts.now c.requires.marked),
        ),
      ),
    )

pub both-requires : goal.both-requires
both-requires t c =
    let half : ℕ = length c.args.marks.now / 2 in
    let halves : AreHalves half c.args.marks.now c.args.shifts.now c.in_ok-first.first c.catch_up.new.sels c.in_ok-second.second =
    halves-are half c.args.marks.now _ _ c.args.shifts.now _ _ c.in_ok-first.first c.catch_up.new.sels c.in_ok-second.second c.split_at.ensures.front c.split_at.ensures.back c.split_at-2.ensures.front c.split_at-2.ensures.back
    (omega (arith, c.requires.some, c.if-marks-eq1.false)) (omega (arith, c.requires.some)) c.in_ok-first.ensures.settles c.catch_up.ensures.caught c.in_ok-second.ensures.settles in
    omega (arith, c.requires.few, halves-few half c.args.marks.now c.args.shifts.now c.in_ok-first.first c.catch_up.new.sels c.in_ok-second.second c.requires.marked halves)

pub returns-clause-settles : goal.returns-clause-settles
returns-clause-settles t c =
    let half : ℕ = length c.args.marks.now / 2 in
    let halves : AreHalves half c.args.marks.now c.args.shifts.now c.in_ok-first.first c.catch_up.new.sels c.in_ok-second.second =
    halves-are half c.args.marks.now _ _ c.args.shifts.now _ _ c.in_ok-first.first c.catch_up.new.sels c.in_ok-second.second c.split_at.ensures.front c.split_at.ensures.back c.split_at-2.ensures.front c.split_at-2.ensures.back
    (omega (arith, c.requires.some, c.if-marks-eq1.false)) (omega (arith, c.requires.some)) c.in_ok-first.ensures.settles c.catch_up.ensures.caught c.in_ok-second.ensures.settles in
    halves-ok c.both.result half c.args.marks.now c.args.shifts.now c.in_ok-first.first c.catch_up.new.sels c.in_ok-second.second halves c.both.ensures.settles

pub returns-clause-few : goal.returns-clause-few
returns-clause-few t c = λ h.
    let half : ℕ = length c.args.marks.now / 2 in
    let halves : AreHalves half c.args.marks.now c.args.shifts.now c.in_ok-first.first c.catch_up.new.sels c.in_ok-second.second =
    halves-are half c.args.marks.now _ _ c.args.shifts.now _ _ c.in_ok-first.first c.catch_up.new.sels c.in_ok-second.second c.split_at.ensures.front c.split_at.ensures.back c.split_at-2.ensures.front c.split_at-2.ensures.back
    (omega (arith, c.requires.some, c.if-marks-eq1.false)) (omega (arith, c.requires.some)) c.in_ok-first.ensures.settles c.catch_up.ensures.caught c.in_ok-second.ensures.settles in
    c.both.ensures.few (omega (arith, h, halves-few half c.args.marks.now c.args.shifts.now c.in_ok-first.first c.catch_up.new.sels c.in_ok-second.second c.requires.marked halves))
