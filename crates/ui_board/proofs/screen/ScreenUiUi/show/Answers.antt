use Rattle.std.proofs.Common.{[], ap, sym, ◌∙◌}
use Rattle.ui_board.specs.Told.{Drawn, screen_text}
use Rattle.ui_board.proofs.ScreenLemmas.{screen-more}
use Rattle.ui_board.proofs.screen.ScreenUiUi.show.Goals as goal

pub invariant_of-self-2 : goal.invariant_of-self-2
invariant_of-self-2 c =
    c.in_ok-take_drawing.ensures.shown
    ∙ sym (screen-more [] c.self.inside.notes (Drawn c.args.drawing.now))
    ∙ ap screen_text (sym c.in_ok-take_drawing.ensures.noted)
