use Rattle.std.proofs.Common.{ap, ◌∙◌}
use Rattle.window_view.specs.View.{followed}
use Rattle.window_view.specs.Sizes.{corner_of}
use Rattle.kak_world.specs.Flat.{with_corner}
use Rattle.kak_world.proofs.world.World.follow.Goals as goal

pub returns : goal.returns
returns g c =
    c.set_corner.ensures
    ∙ ap (λ p. with_corner c.args.who p c.args.self.now.flat)
    (c.corner.ensures ∙ ap corner_of (c.follow.ensures ∙ ap (λ v. followed v c.args.line c.args.column c.args.width c.args.gutter) c.window-window.ensures))
