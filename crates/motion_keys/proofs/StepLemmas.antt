-- A step by one character, by coordinates and by offsets.
use Rattle.std.proofs.Common.{◌≡◌, ℕ, ◌<◌, ◌≤◌, ◌+◌, ◌-◌, ◌↔◌, List, length, None, Some, refl, arith}
use Rattle.std.specs.Prelude.{IsNone, IfSome}
use Rattle.std.specs.declared.option.Option.{Option}
use Rattle.std.proofs.lemmas.Bool.{lt-ltb, le-ltb}
use Rattle.text_model.specs.declared.coords.Coord.{Coord}
use Rattle.text_model.specs.Texts.{offset, IsPlace, last_place}
use Rattle.text_model.proofs.PlaceLemmas.{offset-below}
use Rattle.directions.specs.declared.direction.Direction.TheVariants.{Forward}
use Rattle.motion_keys.specs.Motions.{offset_beside}
use Rattle.motion_keys.specs.Places.{OffsetsAre}

-- the next place is at the next offset
pub next-offsets : (text : List ℕ) (o : ℕ) (found : Option Coord) → o < length text → (IsNone found ↔ (o ≡ last_place text))
    → IfSome found (λ b. IsPlace text b × (offset text b ≡ o + 1)) → OffsetsAre text found (offset_beside text o Forward)
next-offsets text o None l n s = let e : o ≡ length text - 1 = n.0 refl in let m : length text ≤ o + 1 = omega arith in rw (le-ltb (o + 1) (length text) m) refl
next-offsets text o (Some b) l n s =
    let m : o + 1 < length text = omega (arith, offset-below text b (s.0), s.1) in
    (s.0, rw (lt-ltb (o + 1) (length text) m, s.1) refl)
