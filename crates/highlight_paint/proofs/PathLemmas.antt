-- Paths below others, one byte on.
use Rattle.std.proofs.Common.{◌≡◌, ℕ, ◌+◌, ◌<◌, ◌≤◌, ◌==◌, ◌&&◌, true, false, List, length, drop, get_or, sym, ap, ap₂, ◌∙◌}
use Rattle.std.proofs.lemmas.List.{drop_more, drop_all}
use Rattle.highlight_paint.specs.Paths.{is_slash, is_below}

both-more : (above path : List ℕ) (i : ℕ) → i < length above → i < length path → is_below (drop i above) (drop i path) ≡ ((get_or above i 0 == get_or path i 0) && is_below (drop (i + 1) above) (drop (i + 1) path))
both-more above path i a p = ap₂ is_below (drop_more above i 0 a) (drop_more path i 0 p)

pub below-step : (above path : List ℕ) (i : ℕ) → i < length above → i < length path → (get_or above i 0 == get_or path i 0) ≡ true → is_below (drop (i + 1) above) (drop (i + 1) path) ≡ is_below (drop i above) (drop i path)
below-step above path i a p same = sym (both-more above path i a p ∙ ap (λ b. b && is_below (drop (i + 1) above) (drop (i + 1) path)) same)

pub below-differs : (above path : List ℕ) (i : ℕ) → i < length above → i < length path → (get_or above i 0 == get_or path i 0) ≡ false → is_below (drop i above) (drop i path) ≡ false
below-differs above path i a p differs = both-more above path i a p ∙ ap (λ b. b && is_below (drop (i + 1) above) (drop (i + 1) path)) differs

pub below-short : (above path : List ℕ) (i : ℕ) → i < length above → length path ≤ i → is_below (drop i above) (drop i path) ≡ false
below-short above path i a p = ap₂ is_below (drop_more above i 0 a) (drop_all i path p)

pub below-last : (above path : List ℕ) (i : ℕ) → length above ≤ i → i < length path → is_below (drop i above) (drop i path) ≡ is_slash (get_or path i 0)
below-last above path i a p = ap₂ is_below (drop_all i above a) (drop_more path i 0 p)

pub below-none : (above path : List ℕ) (i : ℕ) → length above ≤ i → length path ≤ i → is_below (drop i above) (drop i path) ≡ false
below-none above path i a p = ap₂ is_below (drop_all i above a) (drop_all i path p)
