-- What is left of a piece, and what goes from it to a line.
use Rattle.std.proofs.Common.{◌≡◌, ℕ, ◌+◌, ◌-◌, ◌≤◌, ◌==◌, List, [], ◌∷◌, ◌++◌, length, take, drop, None, Some, refl, sym, ap, ◌∙◌, subst, arith, append_assoc}
use Rattle.std.specs.List.{position}
use Rattle.std.proofs.lemmas.List.{drop-drop, drop-take, length-take}
use Rattle.session_turns.specs.Lines.{HasNoNewline}
use Rattle.line_reading.proofs.CutLemmas.{none-append, none-before, cut-first, none-at_all}

-- a part of bytes, without its first ones
pub part-skipped : (bytes now : List ℕ) (from to count : ℕ) → take (to - from) (drop from bytes) ≡ now → count ≤ length now → take (to - (from + count)) (drop (from + count) bytes) ≡ drop count now
part-skipped bytes now from to count e le =
    let inside : count ≤ to - from = omega (arith, le, ap length e, length-take (to - from) (drop from bytes)) in
    let size : to - from ≡ count + (to - (from + count)) = omega (arith, inside) in
    ap (take (to - (from + count))) (sym (drop-drop count from bytes))
    ∙ sym (drop-take count (to - (from + count)) (drop from bytes))
    ∙ ap (λ n. drop count (take n (drop from bytes))) (sym size)
    ∙ ap (drop count) e

-- what stands before the newline was moved, and the newline was left out
pub line-moved : (line piece bytes more rest : List ℕ) (n : ℕ) → Some n ≡ position (λ b. b == 10) bytes → bytes ≡ piece → more ≡ line ++ take n bytes → rest ≡ drop (n + 1) piece
    → (line ++ piece ≡ more ++ 10 ∷ rest) × (HasNoNewline line → HasNoNewline more)
line-moved line piece bytes more rest n found same e d = (
  ap (λ q. line ++ q) (sym same ∙ cut-first bytes n found)
      ∙ sym (append_assoc line (take n bytes) (10 ∷ drop (n + 1) bytes))
      ∙ ap (λ q. q ++ 10 ∷ drop (n + 1) bytes) (sym e)
      ∙ ap (λ q. more ++ 10 ∷ q) (ap (drop (n + 1)) same ∙ sym d),
  λ h. subst HasNoNewline (sym e) (none-append line (take n bytes) h (none-before bytes n found)),
)

drop-all : (xs : List ℕ) → drop (length xs) xs ≡ []
drop-all [] = refl
drop-all (x ∷ xs) = drop-all xs

-- all was moved
pub all-moved : (line piece bytes more rest : List ℕ) (n : ℕ) → None ≡ position (λ b. b == 10) bytes → bytes ≡ piece → more ≡ line ++ bytes → n ≡ length bytes → rest ≡ drop n piece
    → (more ≡ line ++ piece) × HasNoNewline piece × (rest ≡ [])
all-moved line piece bytes more rest n found same e size d = (
  e ∙ ap (λ q. line ++ q) same,
  subst HasNoNewline same (none-at_all bytes found),
  d ∙ ap (λ k. drop k piece) (size ∙ ap length same) ∙ drop-all piece,
)
