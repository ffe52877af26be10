-- What is at the seats after one was taken, told something or left.
use Rattle.std.proofs.Common.{◌≡◌, ◌≢◌, ◌<◌, inl, inr, ℕ, zero, suc, List, [], ◌∷◌, length, refl, ap, ◌∙◌, arith}
use Rattle.std.specs.Prelude.{Option, Some, None}
use Rattle.std.proofs.lemmas.Bool.{cases_lt}
use Rattle.std.proofs.lemmas.List.{get_or_past, set_past, get_or-set_same, get_or-set_other}
use Rattle.ui_board.specs.Told.{Shown}
use Rattle.ui_board.specs.Boards.{seat_at, IsTaken, free_seat, seated, left_at, OthersStay}

-- the box that took the free seat is there
pub seated-box : {B : Type 0} (box : B) (seats : List (Option B)) → seat_at (free_seat seats) (seated box seats) ≡ Some box
seated-box box [] = refl
seated-box box (None ∷ seats) = refl
seated-box box (Some other ∷ seats) = seated-box box seats

pub seated-at : {B : Type 0} (box : B) (n : ℕ) (old new : List (Option B)) → n ≡ free_seat old → new ≡ seated box old → seat_at n new ≡ Some box
seated-at box n old new number is = ap (λ k. seat_at k new) number ∙ ap (λ s. seat_at (free_seat old) s) is ∙ seated-box box old

pub free-seat : (seats : List (Option Shown)) → seat_at (free_seat seats) seats ≡ None
free-seat [] = refl
free-seat (None ∷ seats) = refl
free-seat (Some box ∷ seats) = free-seat seats

pub below-free : (n : ℕ) (seats : List (Option Shown)) → n < free_seat seats → IsTaken n seats
below-free n [] h = absurd (omega arith)
below-free n (None ∷ seats) h = absurd (omega arith)
below-free zero (Some box ∷ seats) h = refl
below-free (suc n) (Some box ∷ seats) h = below-free n seats (omega arith)

pub seated-others : (n : ℕ) (box : Shown) (seats : List (Option Shown)) → n ≢ free_seat seats → seat_at n (seated box seats) ≡ seat_at n seats
seated-others zero box [] ne = absurd (ne refl)
seated-others (suc n) box [] ne = refl
seated-others zero box (None ∷ seats) ne = absurd (ne refl)
seated-others (suc n) box (None ∷ seats) ne = refl
seated-others zero box (Some other ∷ seats) ne = refl
seated-others (suc n) box (Some other ∷ seats) ne = seated-others n box seats (λ e. ne (ap suc e))

pub left-free : (n : ℕ) (seats : List (Option Shown)) → seat_at n (left_at n seats) ≡ None
left-free n seats =
    elim (cases_lt n (length seats)) [
      | inl inside ↦ get_or-set_same seats n None None inside
      | inr past ↦ ap (λ s. seat_at n s) (set_past seats n None past) ∙ get_or_past seats n None past
    ]

pub left-others : (m n : ℕ) (seats : List (Option Shown)) → m ≢ n → seat_at m (left_at n seats) ≡ seat_at m seats
left-others m n seats ne = get_or-set_other seats n m None None ne

pub others-stay : (m n : ℕ) (old new : List (Option Shown)) → m ≢ n → OthersStay n old new → seat_at m new ≡ seat_at m old
others-stay m n old new ne stay = ap (λ s. seat_at m s) stay ∙ get_or-set_other old n m (seat_at n new) None ne
