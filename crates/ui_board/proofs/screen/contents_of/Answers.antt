use Rattle.std.proofs.Common.{◌++◌, List, ℕ, ap₂, sym, ◌∙◌}
use Rattle.ui_board.proofs.ScreenLemmas.{given-more}
use Rattle.ui_board.proofs.screen.contents_of.Goals as goal

pub loop-atom-preserved : goal.loop-atom-preserved
loop-atom-preserved c =
    c.in_ok-extend_from_slice.ensures.items
    ∙ ap₂ (λ (xs : List ℕ) (ys : List ℕ). xs ++ ys) c.loop-atom.invariant c.as_slice.ensures
    ∙ sym (given-more (λ atom. atom.contents) c.args.atoms.now c.loop-atom.atom-index c.atom-item.result c.loop-atom-test.true c.atom-item.is)
