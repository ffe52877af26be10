-- The cursor of a prompt.
use Rattle.std.proofs.Common.{◌≡◌, ℕ, ◌+◌, ◌<◌, ◌≤◌, false, List, [], ◌∷◌, ◌++◌, length, take, drop, get_or, refl, sym, ap, ap₂, ◌∙◌, append_assoc, subst, arith}
use Rattle.unicode_width.specs.Width.{char_width}
use Rattle.kak_text.specs.Cells.{cells_of, column_behind}
use Rattle.std.proofs.lemmas.List.{take_more, take-append-drop}
use Rattle.directions.specs.declared.direction.Direction.TheVariants.{Forward, Backward}
use Rattle.kak_world.specs.declared.purpose.Use.TheVariants as matches
use Rattle.kak_world.specs.declared.purpose.Purpose.{Purpose}
use Rattle.kak_world.specs.declared.purpose.Purpose.TheVariants.{Commands, Pattern}
use Rattle.line_painting.proofs.StretchLemmas.{column_behind-right}
use Rattle.draw_model.specs.Drawings.{prompt_name, prompt_column}

-- before what was typed each character has one cell
pub name-cells : (tabstop : ℕ) (purpose : Purpose) → prompt_column tabstop purpose [] ≡ length (prompt_name purpose)
unfolding char_width
name-cells tabstop Commands = refl
name-cells tabstop (Pattern matches.Select) = refl
name-cells tabstop (Pattern matches.Split) = refl
name-cells tabstop (Pattern matches.Keep) = refl
name-cells tabstop (Pattern matches.Drop) = refl
name-cells tabstop (Pattern (matches.Search Forward)) = refl
name-cells tabstop (Pattern (matches.Search Backward)) = refl
name-cells tabstop (Pattern (matches.Reach Forward)) = refl
name-cells tabstop (Pattern (matches.Reach Backward)) = refl
name-cells tabstop (Pattern (matches.Step Forward further)) = refl
name-cells tabstop (Pattern (matches.Step Backward further)) = refl
name-cells tabstop (Pattern (matches.Add Forward further)) = refl
name-cells tabstop (Pattern (matches.Add Backward further)) = refl

-- a name has few
pub name-short : (purpose : Purpose) → length (prompt_name purpose) < 16
name-short Commands = omega arith
name-short (Pattern matches.Select) = omega arith
name-short (Pattern matches.Split) = omega arith
name-short (Pattern matches.Keep) = omega arith
name-short (Pattern matches.Drop) = omega arith
name-short (Pattern (matches.Search Forward)) = omega arith
name-short (Pattern (matches.Search Backward)) = omega arith
name-short (Pattern (matches.Reach Forward)) = omega arith
name-short (Pattern (matches.Reach Backward)) = omega arith
name-short (Pattern (matches.Step Forward further)) = omega arith
name-short (Pattern (matches.Step Backward further)) = omega arith
name-short (Pattern (matches.Add Forward further)) = omega arith
name-short (Pattern (matches.Add Backward further)) = omega arith

-- characters one behind another
behind-append : (tabstop column : ℕ) (xs ys : List ℕ) → column_behind tabstop column (xs ++ ys) ≡ column_behind tabstop (column_behind tabstop column xs) ys
behind-append tabstop column [] ys = refl
behind-append tabstop column (x ∷ xs) ys = behind-append tabstop (column + cells_of x column tabstop) xs ys

-- one more character of what was typed
pub prompt-more : (tabstop : ℕ) (purpose : Purpose) (typed : List ℕ) (i column c width : ℕ) → i < length typed → c ≡ get_or typed i c → column ≡ prompt_column tabstop purpose (take i typed) → width ≡ cells_of c column tabstop
    → column + width ≡ prompt_column tabstop purpose (take (i + 1) typed)
prompt-more tabstop purpose typed i column c width h r e w =
    ap₂ (λ (a : ℕ) (b : ℕ). a + b) e (w ∙ ap (λ k. cells_of c k tabstop) e)
    ∙ sym (behind-append tabstop 0 (prompt_name purpose ++ take i typed) (c ∷ []))
    ∙ ap (column_behind tabstop 0) (append_assoc (prompt_name purpose) (take i typed) (c ∷ []) ∙ ap (λ t. prompt_name purpose ++ t) (ap (λ k. take i typed ++ k ∷ []) r ∙ sym (take_more typed i c h)))

-- characters that follow take no cells away
pub prompt-least : (tabstop : ℕ) (purpose : Purpose) (typed : List ℕ) (i column least : ℕ) → column ≡ prompt_column tabstop purpose (take i typed) → least ≤ column → least ≤ prompt_column tabstop purpose typed
prompt-least tabstop purpose typed i column least e h =
    let whole : column_behind tabstop column (drop i typed) ≡ prompt_column tabstop purpose typed =
    ap (λ k. column_behind tabstop k (drop i typed)) e
    ∙ sym (behind-append tabstop 0 (prompt_name purpose ++ take i typed) (drop i typed))
    ∙ ap (column_behind tabstop 0) (append_assoc (prompt_name purpose) (take i typed) (drop i typed) ∙ ap (λ t. prompt_name purpose ++ t) (take-append-drop i typed)) in
    subst (λ n. least ≤ n) whole (column_behind-right tabstop false least column (drop i typed) h)
