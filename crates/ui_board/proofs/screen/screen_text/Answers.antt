use Rattle.std.proofs.Common.{◌++◌, List, ℕ, ap, sym, ◌∙◌}
use Rattle.ui_board.specs.Screens.{screen_line_bytes}
use Rattle.ui_board.proofs.ScreenLemmas.{given-more}
use Rattle.ui_board.proofs.screen.screen_text.Goals as goal

pub loop-line-preserved : goal.loop-line-preserved
loop-line-preserved c =
    c.in_ok-push_line.ensures
    ∙ ap (λ (bytes : List ℕ). bytes ++ screen_line_bytes c.line-item.result) c.loop-line.invariant
    ∙ sym (given-more screen_line_bytes c.args.lines.now c.loop-line.line-index c.line-item.result c.loop-line-test.true c.line-item.is)
