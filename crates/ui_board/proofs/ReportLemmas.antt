-- The lines of one thing more.
use Rattle.std.proofs.Common.{◌≡◌, ℕ, List, [], ◌∷◌, ◌++◌, sym, ap, ◌∙◌, append_assoc}
use Rattle.std.proofs.lemmas.List.{append-nil}
use Rattle.ui_board.specs.Told.{Told, told_bytes, json_lines}

pub lines-more : (told : List Told) (what : Told) → json_lines (told ++ what ∷ []) ≡ json_lines told ++ told_bytes what
lines-more [] what = append-nil (told_bytes what)
lines-more (first ∷ more) what =
    ap (λ (r : List ℕ). told_bytes first ++ r) (lines-more more what)
    ∙ sym (append_assoc (told_bytes first) (json_lines more) (told_bytes what))

-- the same of lines and notes that both grew
pub lines-grew : (lines : List ℕ) (told : List Told) (what : Told) → lines ≡ json_lines told → lines ++ told_bytes what ≡ json_lines (told ++ what ∷ [])
lines-grew lines told what same = ap (λ (r : List ℕ). r ++ told_bytes what) same ∙ sym (lines-more told what)
