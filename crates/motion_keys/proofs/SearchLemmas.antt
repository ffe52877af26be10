-- Going over a text place by place, until one passes a test.
use Rattle.std.proofs.Common.{◌≡◌, ℕ, ◌+◌, ◌-◌, ◌<◌, ◌↔◌, Bool, true, false, List, length, Option, None, Some, refl, sym, ap, subst, ◌∙◌, arith}
use Rattle.std.specs.Prelude.{IsNone, IfSome, option_map}
use Rattle.text_model.specs.declared.coords.Coord.{Coord}
use Rattle.text_model.specs.Texts.{offset, IsPlace, last_place}
use Rattle.text_model.proofs.PlaceLemmas.{offset-below}
use Rattle.directions.specs.declared.direction.Direction.TheVariants.{Forward, Backward}
use Rattle.motion_keys.specs.declared.char_moves.Until.TheVariants.{Before}
use Rattle.motion_keys.specs.Extremes.{least_between, IsLeastOrNone, IsGreatestOrNone}
use Rattle.motion_keys.specs.Places.{OffsetsAre}
use Rattle.motion_keys.specs.Jumps.{holds, next_with, last_with, char_place}
use Rattle.motion_keys.proofs.ExtremeLemmas.{least-here, least-later, least-none, least-is, greatest-is}

-- the next place passes
pub next-passes : (test : ℕ → Bool) (text : List ℕ) (at b : Coord) → IsPlace text b → offset text b ≡ offset text at + 1 → test (offset text b) ≡ true → least_between test (offset text at + 1) (length text) ≡ Some (offset text b)
next-passes test text at b p e t =
    ap (λ n. least_between test n (length text)) (sym e) ∙ least-here test (offset text b) (length text) (offset-below text b p) t

-- it doesn't, so the search goes on behind it
pub next-fails : (test : ℕ → Bool) (text : List ℕ) (at b : Coord) → IsPlace text b → offset text b ≡ offset text at + 1 → test (offset text b) ≡ false → least_between test (offset text at + 1) (length text) ≡ least_between test (offset text b + 1) (length text)
next-fails test text at b p e t =
    ap (λ n. least_between test n (length text)) (sym e) ∙ least-later test (offset text b) (length text) (offset-below text b p) t

-- there is no next place
pub next-ends : (test : ℕ → Bool) (text : List ℕ) (at : Coord) → offset text at ≡ last_place text → least_between test (offset text at + 1) (length text) ≡ None
next-ends test text at e = least-none test (offset text at + 1) (length text) (omega arith)

-- the place before one that was found ahead of another, and behind one that was found before it
pub before-found : (text : List ℕ) (c o : ℕ) (at : Coord) (found : Option Coord) → next_with text c o ≡ Some (offset text at) → (IsNone found ↔ (offset text at ≡ 0)) → IfSome found (λ b. IsPlace text b × (offset text b + 1 ≡ offset text at)) → OffsetsAre text found (char_place text o c Forward Before)
before-found text c o at None f n s =
    let zero_at : offset text at ≡ 0 = n.0 refl in
    let least : IsLeastOrNone (holds text c) (o + 1) (length text) (Some (offset text at)) = subst (IsLeastOrNone (holds text c) (o + 1) (length text)) f (least-is (holds text c) (o + 1) (length text)) in
    absurd (omega (arith, least.inside.0))
before-found text c o at (Some b) f n s =
    (s.0, ap (option_map (λ m. m - 1)) f ∙ ap Some (let e : offset text at - 1 ≡ offset text b = omega (arith, s.1) in e))

pub behind-found : (text : List ℕ) (c o : ℕ) (at : Coord) (found : Option Coord) → o < length text → last_with text c o ≡ Some (offset text at) → (IsNone found ↔ (offset text at ≡ last_place text)) → IfSome found (λ b. IsPlace text b × (offset text b ≡ offset text at + 1)) → OffsetsAre text found (char_place text o c Backward Before)
behind-found text c o at None l f n s =
    let at_end : offset text at ≡ last_place text = n.0 refl in
    let greatest : IsGreatestOrNone (holds text c) o (Some (offset text at)) = subst (IsGreatestOrNone (holds text c) o) f (greatest-is (holds text c) o) in
    absurd (omega (arith, greatest.inside))
behind-found text c o at (Some b) l f n s =
    (s.0, ap (option_map (λ m. m + 1)) f ∙ ap Some (sym s.1))
