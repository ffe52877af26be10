use Rattle.std.proofs.Common.{subst, sym}
use Rattle.face_grounds.specs.Laying.{IsDrawn}
use Rattle.face_grounds.proofs.RunLemmas.{drawn-more}
use Rattle.face_grounds.proofs.overlay.push_run.Goals as goal

pub returns : goal.returns
returns c seen d f = subst (λ rs. IsDrawn seen c.args.end rs) (sym c.in_ok-push.ensures.items) (drawn-more seen c.args.out.now.items c.args.begin c.args.end c.args.face c.requires d f)
