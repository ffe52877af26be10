-- The first place of a text, and the selection there.
use Rattle.std.proofs.Common.{ℕ, List, None, false, arith}
use Rattle.text_model.specs.Coords.{origin}
use Rattle.text_model.specs.Texts.{IsText, IsPlace}
use Rattle.text_model.proofs.PlaceLemmas.{IsPlace-coord_at}
use Rattle.selection_set.specs.declared.sel.Sel.{Sel}
use Rattle.selection_set.specs.Inside.{IsInside}

-- a text has a first character
pub first_is_place : (text : List ℕ) → IsText text → IsPlace text origin
first_is_place text t = IsPlace-coord_at text 0 t.some

-- the selection of the first character
abbrev pub first_sel : Sel
first_sel = record { low = record { line = 0; column = 0 }; high = record { line = 0; column = 0 }; turned = false; target = None }

pub first-inside : (text : List ℕ) → IsText text → IsInside text first_sel
first-inside text t = record { low = first_is_place text t; high = first_is_place text t; ordered = omega arith }
