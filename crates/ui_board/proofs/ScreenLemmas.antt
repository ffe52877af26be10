-- What stands on a screen behind one thing more, and one more element of a list.
use Rattle.std.proofs.Common.{◌≡◌, ℕ, ◌+◌, ◌<◌, List, [], ◌∷◌, ◌++◌, length, take, get_or, refl, sym, ap, ◌∙◌, append-nil}
use Rattle.std.specs.List.{flat_map}
use Rattle.std.proofs.lemmas.List.{take_more}
use Rattle.std.proofs.lemmas.List.Concat.{flat_map-append}
use Rattle.ui_board.specs.Told.{Told, screen_after, screen_behind}

pub screen-more : (before : List ℕ) (told : List Told) (what : Told) → screen_behind before (told ++ what ∷ []) ≡ screen_after (screen_behind before told) what
screen-more before [] what = refl
screen-more before (first ∷ more) what = screen-more (screen_after before first) more what

-- what the elements of a list give, with one more of them
pub given-more : {A : Type 0} (f : A → List ℕ) (xs : List A) (i : ℕ) (x : A) → i < length xs → x ≡ get_or xs i x → flat_map f (take (i + 1) xs) ≡ flat_map f (take i xs) ++ f x
given-more f xs i x h e =
    ap (flat_map f) (take_more xs i x h ∙ ap (λ y. take i xs ++ y ∷ []) (sym e))
    ∙ flat_map-append f (take i xs) (x ∷ [])
    ∙ ap (λ (b : List ℕ). flat_map f (take i xs) ++ b) (append-nil (f x))
