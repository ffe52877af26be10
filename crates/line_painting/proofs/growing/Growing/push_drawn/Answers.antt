use Rattle.std.proofs.lemmas.Result.{on_ok_weaker}
use Rattle.line_painting.specs.Painting.{drawn_chars}
use Rattle.line_painting.proofs.RunLemmas.{grown-pushed}
use Rattle.line_painting.proofs.growing.Growing.push_drawn.Goals as goal

pub returns : goal.returns
returns c =
    on_ok_weaker c.add_drawn.result
    (λ e. grown-pushed c.self.inside.done.items c.self.inside.face c.self.inside.waiting c.add_drawn.new.chars (drawn_chars c.args.drawn) c.args.self.now e c.self.view_is)
    c.add_drawn.ensures
