use Rattle.std.proofs.Common.{◌≡◌, take}
use Rattle.ui_board.specs.Screens.{contents_of}
use Rattle.ui_board.proofs.screen.contents_of.Given as goal

abbrev pub invariant-loop-atom : goal.invariant-loop-atom
invariant-loop-atom l = l.chars.items ≡ contents_of (take l.atom-index l.atoms)
