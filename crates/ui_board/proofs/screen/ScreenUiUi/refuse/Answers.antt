use Rattle.std.proofs.Common.{[], ap, sym, ◌∙◌}
use Rattle.ui_board.specs.Told.{Refused, screen_text}
use Rattle.ui_board.proofs.ScreenLemmas.{screen-more}
use Rattle.ui_board.proofs.screen.ScreenUiUi.refuse.Goals as goal

pub invariant_of-self-2 : goal.invariant_of-self-2
invariant_of-self-2 c =
    c.self.invariant
    ∙ sym (screen-more [] c.self.inside.notes (Refused c.args.refusal))
    ∙ ap screen_text (sym c.in_ok-push.ensures.ok)
