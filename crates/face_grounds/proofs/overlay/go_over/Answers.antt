use Rattle.std.proofs.Common.{◌≡◌, ◌≤◌, refl, ◌∙◌, arith}
use Rattle.face_grounds.proofs.RunLemmas.{seen-here, some_run}
use Rattle.face_grounds.proofs.overlay.go_over.Goals as goal

pub loop-out-preserved : goal.loop-out-preserved
loop-out-preserved c =
    let w = c.loop-out-test.ensures.within refl in
    let place : c.in_ok-now.now.place ≡ _ = c.in_ok-now.ensures.place some_run in
    let up : c.loop-out.now.place ≤ c.in_ok-now.now.place = omega (arith, place) in
    let to : c.in_ok-now.now.place ≤ c.args.to = omega (arith, place, w.ends some_run, c.loop-out.invariant.within) in
    record {
      from = omega (arith, up, c.loop-out.invariant.from);
      within = to;
      ahead = λ a. c.in_ok-now.ensures.ahead (c.loop-out.invariant.ahead a);
      drawn = λ seen d a s. c.in_ok-now.ensures.drawn seen (c.loop-out.invariant.drawn seen d a s) (c.loop-out.invariant.ahead a)
          (λ n h l. s n (omega (arith, h, c.loop-out.invariant.from)) (omega (arith, l, to)));
    }

pub returns-clause-drawn : goal.returns-clause-drawn
returns-clause-drawn c seen d a s =
    let behind = c.ends_within.ensures.behind c.loop-out-test.false in
    c.in_ok-push_run.ensures seen (c.loop-out.invariant.drawn seen d a s)
    (λ n h l. c.under.ensures
    ∙ seen-here seen c.args.over c.args.runs.now c.args.rest _ c.loop-out.now.run c.loop-out.now.place c.args.to (c.loop-out.invariant.ahead a)
    (λ m p q. s m (omega (arith, p, c.loop-out.invariant.from)) q)
    (λ m p q. c.face_here.ensures m c.args.to behind q) n h l)
