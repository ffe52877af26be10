-- The sweep by coordinates is the sweep by offsets, so it settles a list that is inside a text and in order there.
use Rattle.std.proofs.Common.{◌≡◌, ℕ, ◌<◌, Bool, true, false, List, [], ◌∷◌, length, refl, sym, ap, subst₂, ◌∙◌, arith, inl}
use Rattle.std.specs.Prelude.{if◌then◌else◌, nat_le}
use Rattle.std.specs.List.{AllByRecursion}
use Rattle.std.proofs.lemmas.List.{length-map}
use Rattle.text_model.specs.declared.coords.Coord.{Coord}
use Rattle.text_model.specs.Coords.{is_at_most}
use Rattle.text_model.specs.Texts.{offset, IsPlace}
use Rattle.text_model.proofs.PlaceLemmas.{is_at_most-offset}
use Rattle.list_model.specs.Ranges.{Range, IsRange}
use Rattle.list_model.specs.Settling.{ranges, joined_range, swept, swept_place}
use Rattle.list_model.specs.Settled.{IsSettled}
use Rattle.list_model.proofs.ListLemmas.{all_map, all_weaker, place_of_below}
use Rattle.list_model.proofs.SettledLemmas.{swept_is_settled, joined_holds_first}
use Rattle.list_model.proofs.EmbedLemmas.{Embeds, all_swept, swept_embeds, place_embeds, swept_no_longer, place_below}
use Rattle.selection_set.specs.declared.sel.Sel.{Sel}
use Rattle.selection_set.specs.Inside.{range_of, IsInside}
use Rattle.selection_set.specs.Listing.{Listed, IsList, ranges_of, AreInside, LowsDontFall, IsSettledIn}
use Rattle.selection_set.specs.Sweeping.{joined_sel, by_coords, swept_sels, swept_sels_place, swept_listed}

order-offsets : (text : List ℕ) (a b : Coord) → IsPlace text a → IsPlace text b → is_at_most a b ≡ nat_le (offset text a) (offset text b)
order-offsets text a b p q = is_at_most-offset text a b (inl p) (inl q)

choice-offset : (text : List ℕ) (t u : Bool) (a b : Coord) → t ≡ u → offset text (if t then a else b) ≡ (if u then offset text a else offset text b)
choice-offset text t u a b e = choice t ∙ ap (λ v. if v then offset text a else offset text b) e
  where
    choice : (v : Bool) → offset text (if v then a else b) ≡ (if v then offset text a else offset text b)
    choice true = refl
    choice false = refl

choice-place : (text : List ℕ) (t : Bool) (a b : Coord) → IsPlace text a → IsPlace text b → IsPlace text (if t then a else b)
choice-place text true a b p q = p
choice-place text false a b p q = q

-- two joined by coordinates are the ranges joined
range_of-joined : (text : List ℕ) (a b : Sel) → IsInside text a → IsInside text b → range_of text (joined_sel a b) ≡ joined_range (range_of text a) (range_of text b)
range_of-joined text a b h k =
    ap (λ (o : ℕ). let r : Range = record { low = offset text a.low; high = o; turned = a.turned; target = a.target } in r) (choice-offset text (is_at_most a.high b.high) (nat_le (offset text a.high) (offset text b.high)) b.high a.high (order-offsets text a.high b.high h.high k.high))

joined-inside : (text : List ℕ) (a b : Sel) → IsInside text a → IsInside text b → IsInside text (joined_sel a b)
joined-inside text a b h k = record {
  low = h.low;
  high = choice-place text (is_at_most a.high b.high) b.high a.high k.high h.high;
  ordered = omega (arith, h.ordered, joined_holds_first (range_of text a) (range_of text b), ap (λ (r : Range). r.high) (range_of-joined text a b h k));
}

pub coords-embed : (text : List ℕ) → Embeds by_coords ranges (range_of text) (IsInside text)
coords-embed text = record {
  due = λ a b h k. order-offsets text b.low a.high k.low h.high;
  join = range_of-joined text;
  stays = joined-inside text;
}

pub ranges-swept : (text : List ℕ) (list : List Sel) → AreInside text list → ranges_of text (swept_sels list) ≡ swept (ranges_of text list)
ranges-swept text [] h = refl
ranges-swept text (s ∷ ss) h = swept_embeds by_coords ranges (range_of text) (IsInside text) (coords-embed text) s ss h.0 h.1

pub place-swept : (text : List ℕ) (list : List Sel) (n : ℕ) → AreInside text list → swept_sels_place list n ≡ swept_place (ranges_of text list) n
place-swept text [] n h = refl
place-swept text (s ∷ ss) n h = place_embeds by_coords ranges (range_of text) (IsInside text) (coords-embed text) s ss n h.0 h.1

inside-swept : (text : List ℕ) (list : List Sel) → AreInside text list → AreInside text (swept_sels list)
inside-swept text [] h = h
inside-swept text (s ∷ ss) h = all_swept by_coords ranges (range_of text) (IsInside text) (coords-embed text) s ss h.0 h.1

pub ranges-inside : (text : List ℕ) (list : List Sel) → AreInside text list → AllByRecursion IsRange (ranges_of text list)
ranges-inside text list h = all_map IsRange (range_of text) list (all_weaker (IsInside text) (λ s. IsRange (range_of text s)) (λ s i. i.ordered) list h)

-- the sweep of a list whose lows don't fall settles it
pub swept-settles : (text : List ℕ) (s : Listed) → s.main < length s.list → AreInside text s.list → LowsDontFall (ranges_of text s.list) → IsSettledIn text (ranges_of text s.list) s.main (swept_listed s)
swept-settles text s m h o = record {
  inside = inside-swept text s.list h;
  settled =
      (let P : List Range → ℕ → Type 0 = λ ys p. IsSettled (ranges_of text s.list) s.main ys p in
      subst₂ P (sym (ranges-swept text s.list h)) (sym (place-swept text s.list s.main h)) (swept_is_settled (ranges_of text s.list) s.main (ranges-inside text s.list h) o (place_of_below (ranges_of text s.list) s.main (omega (arith, length-map s.list (range_of text))))));
}

-- a swept list is one that may be kept
pub swept-list : (list : List Sel) (main : ℕ) → IsList list main → IsList (swept_sels list) (swept_sels_place list main)
swept-list [] main h = absurd (omega (arith, h.main_is))
swept-list (s ∷ ss) main h = record {
  main_is = place_below by_coords s ss main;
  few = omega (arith, h.few, swept_no_longer by_coords s ss);
}
