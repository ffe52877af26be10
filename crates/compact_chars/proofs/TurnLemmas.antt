-- Lemmas on items that are laid on others.
use Rattle.std.proofs.Common.{◌≡◌, ℕ, ◌+◌, ◌≤◌, List, [], ◌++◌, length, take, drop, sym, ap, ap₂, ◌∙◌, arith, append_assoc, length-append, length-take-le, length-drop, take_at, append-nil}
use Rattle.std.proofs.lemmas.List.{drop_all}

-- a row with as many items as before when some are laid on a place
length_laid : {X : Type 0} (row laid tail : List X) (at : ℕ) → at + length tail ≤ length row → laid ≡ take at row ++ (tail ++ drop (at + length tail) row) → length laid ≡ length row
length_laid row laid tail at h l =
    omega (arith, ap length l, length-append (take at row) (tail ++ drop (at + length tail) row), length-append tail (drop (at + length tail) row), length-take-le at row (omega arith), length-drop (at + length tail) row)

-- items laid on a place, and others laid behind them up to the end
pub laid_twice : {X : Type 0} (row first second chars tail : List X) (at : ℕ) → at + length chars + length tail ≡ length row → first ≡ take at row ++ (chars ++ drop (at + length chars) row) → second ≡ take (at + length chars) first ++ (tail ++ drop (at + length chars + length tail) first) → second ≡ take at row ++ (chars ++ tail)
laid_twice {X} row first second chars tail at h f s =
    let rest : List X = drop (at + length chars) row in
    let front : length (take at row ++ chars) ≡ at + length chars = omega (arith, length-append (take at row) chars, length-take-le at row (omega arith)) in
    let whole : first ≡ (take at row ++ chars) ++ rest = f ∙ sym (append_assoc (take at row) chars rest) in
    let long : length first ≡ length row = length_laid row first chars at (omega arith) f in
    let none : drop (at + length chars + length tail) first ≡ [] = drop_all (at + length chars + length tail) first (omega arith) in
    s ∙ ap₂ (λ a b. a ++ (tail ++ b)) (ap (take (at + length chars)) whole ∙ take_at (take at row ++ chars) rest (at + length chars) front) none ∙ ap (λ t. (take at row ++ chars) ++ t) (append-nil tail) ∙ append_assoc (take at row) chars tail
