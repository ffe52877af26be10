-- Lists of selections as the ranges that they are in a text.
use Rattle.std.proofs.Common.{◌≡◌, ℕ, zero, suc, ◌<◌, List, [], ◌∷◌, length, get_or, None, false, sym, ap, ap₂, subst, ◌∙◌, arith}
use Rattle.std.specs.List.{AllByRecursion}
use Rattle.std.proofs.lemmas.List.{length-map, get_or-map}
use Rattle.list_model.specs.Ranges.{Range, Selected, IsRange, only}
use Rattle.list_model.specs.Settling.{settled}
use Rattle.list_model.proofs.ListLemmas.{place_of_below}
use Rattle.list_model.proofs.SortLemmas.{settled-settles}
use Rattle.list_model.proofs.UniqueLemmas.{settled-unique}
use Rattle.list_model.proofs.MoveLemmas.{apart-ordered, is_settled_list}
use Rattle.selection_set.specs.declared.sel.Sel.{Sel}
use Rattle.selection_set.specs.Inside.{range_of, IsInside}
use Rattle.selection_set.specs.Listing.{Listed, ranges_of, AreInside, LowsDontFall, IsSettledIn}
use Rattle.selection_set.specs.Held.{selected, IsHeld, main_of}

-- what is settled is held
pub settled-held : (text : List ℕ) (given : List Range) (main : ℕ) (s : Listed) → IsSettledIn text given main s → IsHeld text s
settled-held text given main s h = record { inside = h.inside; settled = is_settled_list given (ranges_of text s.list) main s.main h.settled }

-- and it is the settled list
pub selected-is : (text : List ℕ) (given : Selected) (s : Listed) → AllByRecursion IsRange given.list → given.main < length given.list → IsSettledIn text given.list given.main s → selected text s ≡ settled given
selected-is text given s r h k =
    let same : (ranges_of text s.list ≡ (settled given).list) × (s.main ≡ (settled given).main) =
    settled-unique given.list (ranges_of text s.list) (settled given).list given.main s.main (settled given).main r k.settled (settled-settles given r (place_of_below given.list given.main h)) in
    let P : List Range → ℕ → Selected = λ l n. record { list = l; main = n } in
    ap₂ P same.0 same.1

-- the first characters of a list that is held don't fall
pub held-order : (text : List ℕ) (s : Listed) → IsHeld text s → LowsDontFall (ranges_of text s.list)
held-order text s h = apart-ordered (ranges_of text s.list) h.settled.ranges h.settled.apart

-- what all elements have, the one at a place has
pub all-at : {X : Type 0} (P : X → Type 0) (xs : List X) (n : ℕ) (d : X) → n < length xs → AllByRecursion P xs → P (get_or xs n d)
all-at P [] n d h a = absurd (omega arith)
all-at P (x ∷ xs) zero d h a = a.0
all-at P (x ∷ xs) (suc n) d h a = all-at P xs n d (omega arith) a.1

-- any selection
abbrev pub zero_sel : Sel
zero_sel = record { low = record { line = 0; column = 0 }; high = record { line = 0; column = 0 }; turned = false; target = None }

-- the n-th selection of a list that is inside a text, and its range
pub nth-inside : (text : List ℕ) (s : List Sel) (n : ℕ) (at : Sel) → AreInside text s → n < length s → ((d : Sel) → at ≡ get_or s n d) → IsInside text at
nth-inside text s n at h l g = subst (IsInside text) (sym (g zero_sel)) (all-at (IsInside text) s n zero_sel l h)

pub nth-range : (text : List ℕ) (s : List Sel) (n : ℕ) (at : Sel) (d : Range) → n < length s → ((e : Sel) → at ≡ get_or s n e) → range_of text at ≡ get_or (ranges_of text s) n d
nth-range text s n at d l g = ap (range_of text) (g zero_sel) ∙ sym (get_or-map (range_of text) s n zero_sel d l)

-- the main selection of a list that is held, where it was read by its place
pub record IsMain (text : List ℕ) (s : Listed) (sel : Sel) : Type 0 where
  pub inside : IsInside text sel
  pub same : range_of text sel ≡ main_of (selected text s)

pub main-sel : (text : List ℕ) (s : Listed) (main : ℕ) (sel : Sel) → main ≡ s.main → ((d : Sel) → sel ≡ get_or s.list main d) → IsHeld text s → IsMain text s sel
main-sel text s main sel m e h =
    let below : main < length s.list = omega (arith, m, h.settled.main_is, length-map s.list (range_of text)) in
    record {
      inside = nth-inside text s.list main sel h.inside below e;
      same = nth-range text s.list main sel (only 0) below e ∙ ap (λ n. get_or (ranges_of text s.list) n (only 0)) m;
    }

-- a list of one selection is held
pub one-held : (text : List ℕ) (sel : Sel) (s : Listed) → s ≡ record { list = sel ∷ []; main = 0 } → IsInside text sel → IsHeld text s
one-held text sel s e h =
    subst (IsHeld text) (sym e) (record { inside = (h, tt); settled = record { main_is = omega arith; ranges = (h.ordered, tt); apart = (tt, tt) } })

-- and is its range
pub one-selected : (text : List ℕ) (sel : Sel) (s : Listed) (r : Range) → s ≡ record { list = sel ∷ []; main = 0 } → range_of text sel ≡ r → selected text s ≡ record { list = r ∷ []; main = 0 }
one-selected text sel s r e f = ap (selected text) e ∙ ap (λ (x : Range). let t : Selected = record { list = x ∷ []; main = 0 } in t) f
