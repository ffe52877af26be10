-- The nearest offsets whose characters pass a test, step by step.
use Rattle.std.proofs.Common.{◌≡◌, ℕ, ◌+◌, ◌<◌, Bool, true, false, List, length, slice_index, None, Some, refl, sym, ap, ◌∙◌, arith}
use Rattle.std.specs.declared.option.Option.{Option}
use Rattle.motion_keys.specs.Extremes.{greatest_below, IsLeast, IsGreatest, IsLeastOrNone, IsGreatestOrNone}
use Rattle.motion_keys.specs.Nearest.{least_from, greatest_to}
use Rattle.motion_keys.proofs.ExtremeLemmas.{least-here, least-later, least-none, least-is, greatest-here, greatest-earlier, greatest-is}

-- whether the character at an offset passes
abbrev pub passes_at : (ℕ → Bool) → List ℕ → ℕ → Bool
passes_at test text = λ k. test (slice_index text k)

abbrev pub IsLeastFrom : (ℕ → Bool) → List ℕ → ℕ → Option ℕ → Type 0
IsLeastFrom test text o found = IsLeastOrNone (λ k. test (slice_index text k)) o (length text) found

abbrev pub FirstFrom : (ℕ → Bool) → List ℕ → ℕ → ℕ → Type 0
FirstFrom test text o n = IsLeast (λ k. test (slice_index text k)) o (length text) n

abbrev pub IsGreatestTo : (ℕ → Bool) → List ℕ → ℕ → Option ℕ → Type 0
IsGreatestTo test text o found = IsGreatestOrNone (λ k. test (slice_index text k)) (o + 1) found

abbrev pub LastTo : (ℕ → Bool) → List ℕ → ℕ → ℕ → Type 0
LastTo test text o n = IsGreatest (λ k. test (slice_index text k)) (o + 1) n

pub least_found : (test : ℕ → Bool) (text : List ℕ) (o : ℕ) → IsLeastFrom test text o (least_from test text o)
least_found test text o = least-is (passes_at test text) o (length text)

pub greatest_found : (test : ℕ → Bool) (text : List ℕ) (o : ℕ) → IsGreatestTo test text o (greatest_to test text o)
greatest_found test text o = greatest-is (passes_at test text) (o + 1)

-- a search that passes where it begins ends there
pub least_here : (test : ℕ → Bool) (text : List ℕ) (o : ℕ) → o < length text → test (slice_index text o) ≡ true → least_from test text o ≡ Some o
least_here test text o l e = least-here (passes_at test text) o (length text) l e

-- a search that fails where it begins goes on behind
pub least_later : (test : ℕ → Bool) (text : List ℕ) (o n : ℕ) → o < length text → n ≡ o + 1 → test (slice_index text o) ≡ false → least_from test text n ≡ least_from test text o
least_later test text o n l s e = ap (least_from test text) s ∙ sym (least-later (passes_at test text) o (length text) l e)

-- at the last character there is nothing more to find
pub least_none : (test : ℕ → Bool) (text : List ℕ) (o : ℕ) → o + 1 ≡ length text → test (slice_index text o) ≡ false → least_from test text o ≡ None
least_none test text o l e = least-later (passes_at test text) o (length text) (omega arith) e ∙ least-none (passes_at test text) (o + 1) (length text) (omega arith)

pub greatest_here : (test : ℕ → Bool) (text : List ℕ) (o : ℕ) → test (slice_index text o) ≡ true → greatest_to test text o ≡ Some o
greatest_here test text o e = greatest-here (passes_at test text) o (o + 1) refl e

pub greatest_lower : (test : ℕ → Bool) (text : List ℕ) (o n : ℕ) → n + 1 ≡ o → test (slice_index text o) ≡ false → greatest_to test text n ≡ greatest_to test text o
greatest_lower test text o n s e = ap (greatest_below (passes_at test text)) s ∙ sym (greatest-earlier (passes_at test text) o (o + 1) refl e)

pub greatest_none : (test : ℕ → Bool) (text : List ℕ) (o : ℕ) → o ≡ 0 → test (slice_index text o) ≡ false → greatest_to test text o ≡ None
greatest_none test text o z e = greatest-earlier (passes_at test text) o (o + 1) refl e ∙ ap (greatest_below (passes_at test text)) z
