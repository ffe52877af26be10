use Rattle.std.proofs.Common.{sym, ◌∙◌}
use Rattle.line_painting.proofs.RunLemmas.{faced-same}
use Rattle.line_painting.proofs.growing.Growing.set_face.Goals as goal

pub returns-then-is_same : goal.returns-then-is_same
returns-then-is_same c = faced-same c.self.inside.done.items c.self.inside.face c.args.face c.self.inside.waiting c.args.self.now (sym c.is_same.ensures ∙ c.if-is_same.true) c.self.view_is
