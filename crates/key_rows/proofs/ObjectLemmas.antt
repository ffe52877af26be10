-- The selection of an object.
use Rattle.std.proofs.Common.{◌≡◌, List, ℕ, None, Some, sym, ap, ◌∙◌}
use Rattle.std.specs.Prelude.{option_map, unwrap_or}
use Rattle.std.specs.declared.option.Option.{Option}
use Rattle.list_model.specs.Ranges.{Range}
use Rattle.selection_set.specs.declared.sel.Pair.{Pair}
use Rattle.selection_set.specs.Inside.{range_of, IsInside}
use Rattle.selection_set.specs.Listing.{sel_of_pair}
use Rattle.motion_keys.specs.Words.{Ends, EndsAre}
use Rattle.motion_keys.specs.Finding.{between_ends}
use Rattle.motion_keys.proofs.FoundLemmas.{ends-ranges, pair-found}

-- it lies inside the text
pub object-inside : (text : List ℕ) (pair : Pair) (found : Option Ends) → EndsAre text (Some pair) found → IsInside text (sel_of_pair pair)
object-inside text pair found h = (pair-found text pair (option_map between_ends found) (ends-ranges text (Some pair) found h)).0

-- and is the range between the ends that were found
pub object-range : (text : List ℕ) (pair : Pair) (found : Option Ends) (r : Range) → EndsAre text (Some pair) found → range_of text (sel_of_pair pair) ≡ unwrap_or (option_map between_ends found) r
object-range text pair found r h = ap (λ o. unwrap_or o r) (sym (pair-found text pair (option_map between_ends found) (ends-ranges text (Some pair) found h)).1)

-- where there is none, the selection stays
pub no-object : (found : Option Ends) (r : Range) → found ≡ None → r ≡ unwrap_or (option_map between_ends found) r
no-object found r h = sym (ap (λ o. unwrap_or (option_map between_ends o) r) h)
