-- Lists that searches make, and what they are when they are settled.
use Rattle.std.proofs.Common.{◌≡◌, ℕ, ◌<◌, List, [], ◌∷◌, ◌++◌, length, set, map, refl, sym, ap, ap₂, subst, ◌∙◌, arith}
use Rattle.std.specs.List.{refill}
use Rattle.std.proofs.lemmas.List.{map-append, length-map, map-set, length-set, length-reverse, length-append}
use Rattle.list_model.specs.Ranges.{Range, Selected}
use Rattle.list_model.specs.Settling.{settled}
use Rattle.selection_set.specs.declared.sel.Sel.{Sel}
use Rattle.selection_set.specs.Inside.{range_of, IsInside}
use Rattle.selection_set.specs.Listing.{Listed, ranges_of, AreInside, IsSettledIn}
use Rattle.selection_set.specs.Held.{selected, IsHeld, main_of}
use Rattle.selection_set.proofs.HeldLemmas.{IsMain}
use Rattle.selection_set.proofs.InOrderLemmas.{refilled}
use Rattle.directions.specs.declared.direction.Direction.{Direction}
use Rattle.directions.specs.declared.direction.Direction.TheVariants.{Forward, Backward}
use Rattle.regex_select.specs.declared.way.Search.{Search}
use Rattle.regex_select.specs.Searching.{on_the_way, searched}
use Rattle.regex_select.specs.Ways.{searched_at}
use Rattle.regex_select.proofs.EachLemmas.{given-held, given-selected}
use Rattle.regex_select.proofs.SoughtLemmas.{set-inside, push-inside, each-inside, each-ranges}

-- a list that is to be settled, by the ranges that it is
pub record IsMade (text : List ℕ) (given : Selected) (list : List Sel) (main : ℕ) : Type 0 where
  pub inside : AreInside text list
  pub ranges : ranges_of text list ≡ given.list
  pub main_is : main ≡ given.main
  pub below : main < length list

pub made-held : (text : List ℕ) (given : Selected) (list : List Sel) (main : ℕ) (s : Listed) → IsMade text given list main → ((t : List ℕ) → AreInside t list → IsSettledIn t (ranges_of t list) main s) → IsHeld text s
made-held text given list main s h settles = given-held text list main s h.inside settles

pub made-selected : (text : List ℕ) (given : Selected) (list : List Sel) (main : ℕ) (s : Listed) → IsMade text given list main → ((t : List ℕ) → AreInside t list → IsSettledIn t (ranges_of t list) main s) → selected text s ≡ settled given
made-selected text given list main s h settles = given-selected text list main given s h.inside h.ranges h.main_is h.below settles

-- ---- lists that were written to

pub length-way : {X : Type 0} (direction : Direction) (xs : List X) → length (on_the_way direction xs) ≡ length xs
length-way Forward xs = refl
length-way Backward xs = length-reverse xs

pub way-written : (direction : Direction) (xs there new : List Sel) → there ≡ xs → new ≡ on_the_way direction there → refill (length xs) xs new ≡ on_the_way direction xs
way-written direction xs there new e f =
    let is : new ≡ on_the_way direction xs = f ∙ ap (on_the_way direction) e in
    refilled xs new (ap length is ∙ length-way direction xs) ∙ is

-- ---- what is made of a list

pub each-made : (text : List ℕ) (search : Search) (rs : List Range) (s : Listed) (ms slice items there new : List Sel) (main : ℕ) → IsHeld text s → AreInside text ms → ranges_of text ms ≡ on_the_way search.direction rs → items ≡ s.list → there ≡ items → slice ≡ ms → main ≡ s.main → new ≡ map (searched_at search slice) there
    → IsMade text (record { list = map (searched search rs) (ranges_of text s.list); main = s.main }) (refill (length items) items new) main
each-made text search rs s ms slice items there new main h k e i t m a n =
    let is : new ≡ map (searched_at search ms) s.list = n ∙ ap₂ (λ xs ys. map (searched_at search xs) ys) m (t ∙ i) in
    let same : length new ≡ length items = ap length is ∙ length-map s.list (searched_at search ms) ∙ ap length (sym i) in
    let made : refill (length items) items new ≡ map (searched_at search ms) s.list = refilled items new same ∙ is in
    record {
      inside = subst (AreInside text) (sym made) (each-inside text search ms s.list h.inside k);
      ranges = ap (ranges_of text) made ∙ each-ranges text search ms rs s.list h.inside k e;
      main_is = a;
      below = omega (arith, a, h.settled.main_is, length-map s.list (range_of text), ap length made, length-map s.list (searched_at search ms));
    }

pub main-made : (text : List ℕ) (f : Range → Range) (s : Listed) (items there : List Sel) (main : ℕ) (sel found : Sel) → IsHeld text s → IsMain text s sel → IsInside text found → range_of text found ≡ f (range_of text sel) → items ≡ s.list → there ≡ items → main ≡ s.main
    → IsMade text (record { list = set (ranges_of text s.list) s.main (f (main_of (selected text s))); main = s.main }) (refill (length items) items (set there main found)) main
main-made text f s items there main sel found h i k r e t a =
    let same : length (set there main found) ≡ length items = length-set there main found ∙ ap length t in
    let made : refill (length items) items (set there main found) ≡ set s.list s.main found = refilled items (set there main found) same ∙ ap₂ (λ xs n. set xs n found) (t ∙ e) a in
    record {
      inside = subst (AreInside text) (sym made) (set-inside text s.list s.main found h.inside k);
      ranges = ap (ranges_of text) made ∙ map-set (range_of text) s.list s.main found ∙ ap (set (ranges_of text s.list) s.main) (r ∙ ap f i.same);
      main_is = a;
      below = omega (arith, a, h.settled.main_is, length-map s.list (range_of text), ap length made, length-set s.list s.main found);
    }

pub added-made : (text : List ℕ) (f : Range → Range) (s : Listed) (items after : List Sel) (count : ℕ) (sel found : Sel) → IsHeld text s → IsMain text s sel → IsInside text found → range_of text found ≡ f (range_of text sel) → items ≡ s.list → after ≡ items ++ found ∷ [] → count ≡ length s.list
    → IsMade text (record { list = ranges_of text s.list ++ f (main_of (selected text s)) ∷ []; main = length (ranges_of text s.list) }) after count
added-made text f s items after count sel found h i k r e p a =
    let made : after ≡ s.list ++ found ∷ [] = p ∙ ap (λ xs. xs ++ found ∷ []) e in
    record {
      inside = subst (AreInside text) (sym made) (push-inside text s.list found h.inside k);
      ranges = ap (ranges_of text) made ∙ map-append (range_of text) s.list (found ∷ []) ∙ ap (λ x. ranges_of text s.list ++ x ∷ []) (r ∙ ap f i.same);
      main_is = a ∙ sym (length-map s.list (range_of text));
      below = omega (arith, a, ap length made, length-append s.list (found ∷ []));
    }
