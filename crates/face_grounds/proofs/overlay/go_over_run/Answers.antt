use Rattle.std.proofs.Common.{◌∙◌, arith}
use Rattle.face_grounds.proofs.RunLemmas.{here, seen-here}
use Rattle.face_grounds.proofs.overlay.go_over_run.Goals as goal

pub returns-clause-drawn : goal.returns-clause-drawn
returns-clause-drawn c seen d a s =
    c.in_ok-push_run.ensures seen d (λ n h l. c.under.ensures
    ∙ seen-here seen c.args.over c.args.runs.now c.args.rest _ c.args.reach.run c.args.reach.place c.max-end.result a s
    (λ m p q. here c.args.runs.now c.args.rest c.args.reach.run m _ c.requires (omega (arith, c.max-end.ensures))) n h l)
