use Rattle.std.proofs.Common.{◌≡◌, refl, sym, ap, ◌∙◌, Err, arith}
use Rattle.std.proofs.lemmas.Result.{err_from_is_err_and}
use Rattle.kak_world.specs.declared.ask.EditError.TheVariants.{NoMemory}
use Rattle.kak_world.specs.Rows.{RowEnd}
use Rattle.kak_world.proofs.AnswerLemmas.{error-of}
use Rattle.normal_keys.specs.Repeating.{once}
use Rattle.normal_keys.specs.Wanting.{before_run, is_part_of_once}
use Rattle.normal_keys.proofs.RunLemmas.{run-first, run-more, run-spent, more-fails, next-begins, reached-next, further-part}
use Rattle.normal_keys.proofs.FewLemmas.{run-few, run-stays, unit-few, unit-stays}
use Rattle.normal_keys.proofs.runs.run_often.Goals as goal

pub loop-init : goal.loop-init
loop-init g c = record {
  left = run-first (once c.args.what c.args.prefix.register c.args.who) c.args.world.now.flat _ c.args.prefix.count c.in_ok-run_once.ensures.row;
  reached = sym (ap (λ (e : RowEnd). e.world) c.in_ok-run_once.ensures.row);
  stays = run-stays c.args.what c.args.prefix.register c.args.who c.args.world.now.flat _ c.requires c.in_ok-run_once.ensures.row;
  few = λ a h. run-few c.args.what c.args.prefix.register c.args.who c.args.world.now.flat _ a c.requires c.in_ok-run_once.ensures.row h;
}

pub returns-then-not-take_unit-clause-row : goal.returns-then-not-take_unit-clause-row
returns-then-not-take_unit-clause-row g c =
    run-spent (once c.args.what c.args.prefix.register c.args.who) c.loop.world.flat c.take_unit.new.self.flat c.loop.counter c.args.prefix.count _ c.loop-test.true (c.if-not-take_unit.ensures.none refl).0 (c.if-not-take_unit.ensures.none refl).1 c.loop.invariant.left

pub run_once-requires-in-loop : goal.run_once-requires-in-loop
run_once-requires-in-loop g c = unit-stays c.args.who c.loop.world.flat c.take_unit.new.self.flat (c.if-not-take_unit.ensures.taken refl).1 c.loop.invariant.stays

pub loop-preserved : goal.loop-preserved
loop-preserved g c = record {
  left =
      run-more (once c.args.what c.args.prefix.register c.args.who) c.loop.world.flat c.take_unit.new.self.flat c.run_once-in-loop.new.world.flat c.loop.counter c.args.prefix.count _ c.loop-test.true
      (c.if-not-take_unit.ensures.taken refl).0 (c.if-not-take_unit.ensures.taken refl).1 c.in_ok-run_once-2.ensures.row c.loop.invariant.left;
  reached =
      reached-next (once c.args.what c.args.prefix.register c.args.who) c.args.world.now.flat c.take_unit.new.self.flat _ c.loop.counter
      (next-begins (once c.args.what c.args.prefix.register c.args.who) c.args.world.now.flat c.loop.world.flat c.take_unit.new.self.flat c.loop.counter (omega (arith, c.loop.auto.counter)) (c.if-not-take_unit.ensures.taken refl).0 (c.if-not-take_unit.ensures.taken refl).1 c.loop.invariant.reached)
      c.in_ok-run_once-2.ensures.row;
  stays = run-stays c.args.what c.args.prefix.register c.args.who c.take_unit.new.self.flat _ (unit-stays c.args.who c.loop.world.flat c.take_unit.new.self.flat (c.if-not-take_unit.ensures.taken refl).1 c.loop.invariant.stays) c.in_ok-run_once-2.ensures.row;
  few = λ a h. run-few c.args.what c.args.prefix.register c.args.who c.take_unit.new.self.flat _ a (unit-stays c.args.who c.loop.world.flat c.take_unit.new.self.flat (c.if-not-take_unit.ensures.taken refl).1 c.loop.invariant.stays) c.in_ok-run_once-2.ensures.row (unit-few c.args.who c.loop.world.flat c.take_unit.new.self.flat (c.if-not-take_unit.ensures.taken refl).1 (c.loop.invariant.few a h));
}

pub returns-in_err-run_once-2-clause-row : goal.returns-in_err-run_once-2-clause-row
returns-in_err-run_once-2-clause-row g c =
    let p = err_from_is_err_and c.from_residual-in_err-run_once-2.result c.from_residual-in_err-run_once-2.ensures.1 in
    rw (p.1, p.2)
    (more-fails (once c.args.what c.args.prefix.register c.args.who) c.in_err-run_once-2.field-0.0 c.loop.world.flat c.take_unit.new.self.flat c.run_once-in-loop.new.world.flat c.loop.counter c.args.prefix.count _ c.loop-test.true
    (c.if-not-take_unit.ensures.taken refl).0 (c.if-not-take_unit.ensures.taken refl).1 c.loop.invariant.left c.in_err-run_once-2.ensures.row)

pub returns-in_err-run_once-2-clause-wanting : goal.returns-in_err-run_once-2-clause-wanting
returns-in_err-run_once-2-clause-wanting g c =
    let p = err_from_is_err_and c.from_residual-in_err-run_once-2.result c.from_residual-in_err-run_once-2.ensures.1 in
    let begins : c.take_unit.new.self.flat ≡ before_run c.loop.counter (once c.args.what c.args.prefix.register c.args.who) c.args.world.now.flat =
    next-begins (once c.args.what c.args.prefix.register c.args.who) c.args.world.now.flat c.loop.world.flat c.take_unit.new.self.flat c.loop.counter (omega (arith, c.loop.auto.counter)) (c.if-not-take_unit.ensures.taken refl).0 (c.if-not-take_unit.ensures.taken refl).1 c.loop.invariant.reached in
    rw (p.1, p.2)
    (λ h. further-part c.args.prefix.count c.loop.counter (once c.args.what c.args.prefix.register c.args.who) (is_part_of_once c.args.what c.args.prefix.register c.args.who) c.args.world.now.flat c.take_unit.new.self.flat c.run_once-in-loop.new.world.flat c.loop-test.true begins
    (c.in_err-run_once-2.ensures.wanting (ap Err (ap (error-of NoMemory) h))))
