-- Bounds of the coordinates of ways, which are those of texts.
use Rattle.selection_map.specs.declared.reach.ShiftReach.{ShiftReach}
use Rattle.selection_map.specs.Carrying.{IsSmall}

-- the coordinates of a way, within what a text may have
pub record IsSmallReach (w : ShiftReach) : Type 0 where
  pub from : IsSmall w.from
  pub onto : IsSmall w.onto
  pub put : IsSmall w.put
