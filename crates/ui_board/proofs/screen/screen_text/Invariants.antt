use Rattle.std.proofs.Common.{◌≡◌, string_bytes, take}
use Rattle.ui_board.specs.Screens.{screen_bytes}
use Rattle.ui_board.proofs.screen.screen_text.Given as goal

abbrev pub invariant-loop-line : goal.invariant-loop-line
invariant-loop-line l = string_bytes l.text ≡ screen_bytes (take l.line-index l.lines)
