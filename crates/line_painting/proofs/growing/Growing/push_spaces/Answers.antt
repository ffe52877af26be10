use Rattle.std.proofs.Common.{replicate}
use Rattle.std.proofs.lemmas.Result.{on_ok_weaker}
use Rattle.line_painting.proofs.RunLemmas.{grown-pushed}
use Rattle.line_painting.proofs.growing.Growing.push_spaces.Goals as goal

pub returns : goal.returns
returns c =
    on_ok_weaker c.add_times.result
    (λ e. grown-pushed c.self.inside.done.items c.self.inside.face c.self.inside.waiting c.add_times.new.chars (replicate c.args.count 32) c.args.self.now e c.self.view_is)
    c.add_times.ensures
