-- What a box is told.
use Rattle.std.proofs.Common.{◌≡◌, ℕ, List, [], ◌∷◌, ◌++◌, refl, sym, ap, ◌∙◌, subst, append-nil, append_assoc}
use Rattle.std.specs.Prelude.{false, Option, Some, None, option_map, is_none}
use Rattle.std.proofs.lemmas.List.{set-get_or}
use Rattle.std.specs.Io.KnownBytes.{Appends}
use Rattle.ui_board.specs.Told.{Told, Shown, telling, told_bytes, json_lines}
use Rattle.ui_board.specs.Boards.{OthersStay}
use Rattle.session_lines.specs.Stops.{NoneFailed}
use Rattle.session_replay.specs.Boxes.{box_outlet, kind_in, told_in}

-- the lines of what is told come behind those of all that was told before
lines-append : (told : List Told) (what : Told) → json_lines (told ++ what ∷ []) ≡ json_lines told ++ told_bytes what
lines-append [] what = append-nil (told_bytes what)
lines-append (first ∷ told) what = ap (λ r. told_bytes first ++ r) (lines-append told what) ∙ sym (append_assoc (told_bytes first) (json_lines told) (told_bytes what))

told-some : (what : Told) (old : Option Shown) → Appends (box_outlet old).told (box_outlet (option_map (telling what) old)).told (told_bytes what)
told-some what None = tt
told-some what (Some shown) = lines-append shown.told what

-- a box that was told a thing was told all of it, and no fault was counted
pub box-tells : (what : Told) (bytes : List ℕ) (old new : Option Shown) → bytes ≡ told_bytes what → new ≡ option_map (telling what) old → Appends (box_outlet old).told (box_outlet new).told bytes × NoneFailed (box_outlet old) (box_outlet new)
box-tells what bytes old new d e = (rw d (subst (λ q. Appends (box_outlet old).told (box_outlet q).told (told_bytes what)) (sym e) (told-some what old)), refl)

kind-stays : (what : Told) (old : Option Shown) → kind_in (option_map (telling what) old) ≡ kind_in old
kind-stays what None = refl
kind-stays what (Some shown) = refl

pub box-kind : (what : Told) (old new : Option Shown) → new ≡ option_map (telling what) old → kind_in new ≡ kind_in old
box-kind what old new e = ap kind_in e ∙ kind-stays what old

-- what a box was told, where it was told more
pub told-more : (s t : Option Shown) (out : List ℕ) → is_none s ≡ false → Appends (box_outlet s).told (box_outlet t).told out → told_in t ≡ told_in s ++ out
told-more None t out there a = cc
told-more (Some shown) None out there a = absurd a
told-more (Some shown) (Some later) out there a = a

-- where there is a box, there is what it has shown
pub shown-there : {B : Type 0} (shown : B → Shown) (box : Option B) → is_none box ≡ false → is_none (option_map shown box) ≡ false
shown-there shown None there = there
shown-there shown (Some box) there = refl

-- a board that wasn't touched
pub others-still : {B : Type 0} (n : ℕ) (seats : List (Option B)) → OthersStay n seats seats
others-still n seats = sym (set-get_or seats n None)
