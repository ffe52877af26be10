-- Selections that a motion leads to, by coordinates and by offsets.
use Rattle.std.proofs.Common.{◌≡◌, ℕ, Bool, true, false, List, [], ◌∷◌, get_or, Option, None, Some, refl, sym, ap, ap₂, subst, ◌∙◌, arith}
use Rattle.std.specs.Prelude.{if◌then◌else◌, option_map, IsNone, IfSome}
use Rattle.text_model.specs.declared.coords.Coord.{Coord}
use Rattle.text_model.specs.Texts.{offset, IsPlace}
use Rattle.list_model.specs.Ranges.{Range, only, anchor, cursor}
use Rattle.selection_set.specs.declared.sel.Sel.{Sel}
use Rattle.selection_set.specs.declared.sel.Pair.{Pair}
use Rattle.selection_set.specs.Inside.{range_of, IsInside, cursor_at, anchor_at}
use Rattle.selection_set.specs.Listing.{range_between, range_of_pair, IsPairInside, sel_of_pair}
use Rattle.selection_set.proofs.PairLemmas.{pairs-inside, pairs-ranges}
use Rattle.selection_set.proofs.CursorLemmas.{cursor-range_of, cursor-place}
use Rattle.motion_keys.specs.Places.{OffsetsAre}
use Rattle.motion_keys.specs.Words.{Ends, EndsAre}
use Rattle.motion_keys.specs.Jumps.{RangesAre}
use Rattle.motion_keys.specs.Finding.{between_ends, IsFound}

pub pair-inside : (text : List ℕ) (pair : Pair) → IsPairInside text pair → IsInside text (sel_of_pair pair)
pair-inside text pair h = (pairs-inside text (pair ∷ []) (h, tt)).0

pub pair-range : (text : List ℕ) (pair : Pair) → IsPairInside text pair → range_of text (sel_of_pair pair) ≡ range_of_pair text pair
pair-range text pair h = ap (λ l. get_or l 0 (only 0)) (pairs-ranges text (pair ∷ []) (h, tt))

-- the selection between two ends that were found
pub pair-found : (text : List ℕ) (pair : Pair) (range : Option Range) → RangesAre text (Some pair) range → IsFound text (Some (sel_of_pair pair)) range
pair-found text pair range h = (pair-inside text pair h.0, h.1 ∙ ap Some (sym (pair-range text pair h.0)))

-- ends that were found make a range
pub ends-ranges : (text : List ℕ) (pair : Option Pair) (ends : Option Ends) → EndsAre text pair ends → RangesAre text pair (option_map between_ends ends)
ends-ranges text None ends h = ap (option_map between_ends) h
ends-ranges text (Some pair) ends h = (record { anchor = h.0; cursor = h.1 }, ap (option_map between_ends) h.2)

-- the selection of a place that was found
pub alone-found : (text : List ℕ) (at : Coord) (o : Option ℕ) → OffsetsAre text (Some at) o → IsFound text (Some (record { low = at; high = at; turned = false; target = None })) (option_map only o)
alone-found text at o h = (record { low = h.0; high = h.0; ordered = omega arith }, ap (option_map only) h.1)

-- what a vertical move found
pub vertical-found : (text : List ℕ) (sel : Option Sel) (range : Option Range) → (IsNone sel → range ≡ None) → IfSome sel (λ s. range ≡ Some (range_of text s)) → IfSome sel (λ s. IsInside text s) → IsFound text sel range
vertical-found text None range n s i = n refl
vertical-found text (Some sel) range n s i = (i, s)

-- the same where the cursor's offset is known by its place
pub offset-found : (text : List ℕ) (sel : Sel) (at : Coord) (place : Option Coord) (f : ℕ → Option ℕ) → at ≡ cursor_at sel → OffsetsAre text place (f (offset text at)) → OffsetsAre text place (f (cursor (range_of text sel)))
offset-found text sel at place f e h = let P : Option ℕ → Type 0 = OffsetsAre text place in subst P (ap f (ap (offset text) e ∙ sym (cursor-range_of text sel))) h

-- with the ends changed over, the anchor is the cursor
abbrev swapped : Sel → Sel
swapped sel = record sel { low = sel.high; high = sel.low }

place_of_anchor : (text : List ℕ) (t : Bool) (a b : Coord) → IsPlace text a → IsPlace text b → IsPlace text (if t then a else b)
place_of_anchor text true a b p q = p
place_of_anchor text false a b p q = q

pub anchor-range_of : (text : List ℕ) (sel : Sel) → anchor (range_of text sel) ≡ offset text (anchor_at sel)
anchor-range_of text sel = cursor-range_of text (swapped sel)

pub anchor-place : (text : List ℕ) (sel : Sel) → IsInside text sel → IsPlace text (anchor_at sel)
anchor-place text sel h = place_of_anchor text sel.turned sel.high sel.low h.high h.low

-- the pair of a selection's anchor and another one's cursor
abbrev pub stretched : Sel → Sel → Pair
stretched sel found = record { anchor = anchor_at sel; cursor = cursor_at found }

pub stretched-inside : (text : List ℕ) (sel found : Sel) → IsInside text sel → IsInside text found → IsPairInside text (stretched sel found)
stretched-inside text sel found h k = record { anchor = anchor-place text sel h; cursor = cursor-place text found k }

-- the same places, with another target
retarget-inside : (text : List ℕ) (s : Sel) (target : Option ℕ) → IsInside text s → IsInside text (record s { target = target })
retarget-inside text s target h = record { low = h.low; high = h.high; ordered = h.ordered }

-- a selection that was made of these ends
made : (sel found s : Sel) (a b : Coord) → a ≡ anchor_at sel → b ≡ cursor_at found → s ≡ sel_of_pair (record { anchor = a; cursor = b }) → s ≡ sel_of_pair (stretched sel found)
made sel found s a b e f g = g ∙ ap₂ (λ x y. let p : Pair = record { anchor = x; cursor = y } in sel_of_pair p) e f

pub extended-inside : (text : List ℕ) (sel found s : Sel) (a b : Coord) → a ≡ anchor_at sel → b ≡ cursor_at found → s ≡ sel_of_pair (record { anchor = a; cursor = b })
    → IsInside text sel → IsInside text found → IsInside text (record s { target = found.target })
extended-inside text sel found s a b e f g h k =
    subst (λ (t : Sel). IsInside text (record t { target = found.target })) (sym (made sel found s a b e f g))
    (retarget-inside text (sel_of_pair (stretched sel found)) found.target (pair-inside text (stretched sel found) (stretched-inside text sel found h k)))

pub extended-range : (text : List ℕ) (sel found s : Sel) (a b : Coord) → a ≡ anchor_at sel → b ≡ cursor_at found → s ≡ sel_of_pair (record { anchor = a; cursor = b })
    → IsInside text sel → IsInside text found → range_of text (record s { target = found.target }) ≡ record (range_between (anchor (range_of text sel)) (cursor (range_of text found))) { target = found.target }
extended-range text sel found s a b e f g h k =
    ap (λ (t : Sel). let r : Range = record (range_of text t) { target = found.target } in r) (made sel found s a b e f g)
    ∙ ap (λ (r : Range). let q : Range = record r { target = found.target } in q) (pair-range text (stretched sel found) (stretched-inside text sel found h k))
    ∙ ap₂ (λ x y. let r : Range = record (range_between x y) { target = found.target } in r) (sym (anchor-range_of text sel)) (sym (cursor-range_of text found))
