use Rattle.std.proofs.Common.{◌≡◌, ◌≤◌, length, sym, ◌∙◌, arith, inl, inr}
use Rattle.std.proofs.lemmas.Bool.{cases_lt}
use Rattle.face_grounds.proofs.RunLemmas.{some_run, none-ahead, skipped}
use Rattle.face_grounds.proofs.overlay.finish.Goals as goal

pub loop-now-preserved : goal.loop-now-preserved
loop-now-preserved c =
    let place : c.in_ok-now.now.place ≡ _ = c.in_ok-now.ensures.place some_run in
    let up : c.loop-now.now.place ≤ c.in_ok-now.now.place = omega (arith, place) in
    record {
      from = omega (arith, up, c.loop-now.invariant.from);
      ahead = λ a. c.in_ok-now.ensures.ahead (c.loop-now.invariant.ahead a);
      drawn = λ seen d a s. c.in_ok-now.ensures.drawn seen (c.loop-now.invariant.drawn seen d a s) (c.loop-now.invariant.ahead a)
          (λ n h l. s n (omega (arith, h, c.loop-now.invariant.from)));
    }

pub returns : goal.returns
returns c seen d a s n =
    let all : length c.args.runs.now ≤ c.loop-now.now.run = omega (arith, c.loop-now-test.false) in
    let drawn = c.loop-now.invariant.drawn seen d a s in
    elim (cases_lt n c.loop-now.now.place) [
      | inl lt ↦ drawn.faces n c.args.rest lt
      | inr ge ↦ skipped c.loop-now.out.items c.args.rest c.loop-now.now.place n drawn.ends ge
          ∙ sym (none-ahead c.args.runs.now c.args.rest c.loop-now.now.run n all)
          ∙ c.loop-now.invariant.ahead a n ge
          ∙ s n (omega (arith, ge, c.loop-now.invariant.from))
    ]
