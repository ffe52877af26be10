-- The begin and the end of a run, step by step.
use Rattle.std.proofs.Common.{◌≡◌, ℕ, ◌+◌, ◌-◌, ◌<◌, ◌≤◌, Bool, true, false, not, List, length, slice_index, Option, None, Some, sym, ap, subst, ◌∙◌, arith, inl, inr}
use Rattle.std.specs.Prelude.{unwrap_or}
use Rattle.std.proofs.lemmas.Bool.{cases_lt, false≢true}
use Rattle.text_model.specs.declared.coords.Coord.{Coord}
use Rattle.text_model.specs.Texts.{line_count}
use Rattle.list_model.specs.Ranges.{cursor}
use Rattle.selection_set.specs.declared.sel.Sel.{Sel}
use Rattle.selection_set.specs.declared.sel.Pair.{Pair}
use Rattle.selection_set.specs.Inside.{range_of, IsInside, cursor_at}
use Rattle.selection_set.proofs.CursorLemmas.{coord_at-cursor}
use Rattle.motion_keys.specs.Extremes.{least_between, greatest_below, IsLeastOrNone, IsGreatestOrNone}
use Rattle.motion_keys.specs.Landmarks.{line_of}
use Rattle.motion_keys.specs.Words.{Ends, EndsAre}
use Rattle.motion_keys.proofs.ExtremeLemmas.{least-here, least-later, least-none, least-is, greatest-here, greatest-earlier, greatest-is}
use Rattle.text_objects.specs.Runs.{behind_found, run_begin, run_end, chars_begin, chars_end}
use Rattle.text_objects.specs.LineObjects.{is_full, is_empty}

-- the number before fails, so the run begins here
pub begin-here : (test : ℕ → Bool) (b n : ℕ) → b + 1 ≡ n → test b ≡ false → run_begin test n ≡ n
begin-here test b n s e = ap behind_found (greatest-here (λ k. not (test k)) b n s (ap not e)) ∙ s

-- it passes, so the run begins where that before it does
pub begin-on : (test : ℕ → Bool) (b n : ℕ) → b + 1 ≡ n → test b ≡ true → run_begin test b ≡ run_begin test n
begin-on test b n s e = ap behind_found (sym (greatest-earlier (λ k. not (test k)) b n s (ap not e)))

-- there is no number before
pub begin-first : (test : ℕ → Bool) (n : ℕ) → n ≡ 0 → run_begin test n ≡ n
begin-first test n e = ap (run_begin test) e ∙ sym e

-- this number fails, so the run ends before it
pub end-here : (test : ℕ → Bool) (n limit : ℕ) → n < limit → test n ≡ false → run_end test n limit ≡ n
end-here test n limit l e = ap (λ f. unwrap_or f limit) (least-here (λ k. not (test k)) n limit l (ap not e))

-- it passes, so the run ends where that behind it does
pub end-on : (test : ℕ → Bool) (n limit : ℕ) → n < limit → test n ≡ true → run_end test (n + 1) limit ≡ run_end test n limit
end-on test n limit l e = ap (λ f. unwrap_or f limit) (sym (least-later (λ k. not (test k)) n limit l (ap not e)))

-- there is no number behind
pub end-last : (test : ℕ → Bool) (n limit : ℕ) → limit ≤ n → run_end test n limit ≡ limit
end-last test n limit l = ap (λ f. unwrap_or f limit) (least-none (λ k. not (test k)) n limit l)

-- the same of characters
pub chars-begin-here : (test : ℕ → Bool) (text : List ℕ) (b o : ℕ) → b + 1 ≡ o → test (slice_index text b) ≡ false → chars_begin test text o ≡ o
chars-begin-here test text b o s e = begin-here (λ k. test (slice_index text k)) b o s e

pub chars-begin-on : (test : ℕ → Bool) (text : List ℕ) (b o : ℕ) → b + 1 ≡ o → test (slice_index text b) ≡ true → chars_begin test text b ≡ chars_begin test text o
chars-begin-on test text b o s e = begin-on (λ k. test (slice_index text k)) b o s e

pub chars-begin-first : (test : ℕ → Bool) (text : List ℕ) (o : ℕ) → o ≡ 0 → chars_begin test text o ≡ o
chars-begin-first test text o e = begin-first (λ k. test (slice_index text k)) o e

pub chars-end-here : (test : ℕ → Bool) (text : List ℕ) (a o : ℕ) → o ≡ a + 1 → o < length text → test (slice_index text o) ≡ false → chars_end test text (a + 1) - 1 ≡ a
chars-end-here test text a o s l e =
    let ended : chars_end test text (a + 1) ≡ a + 1 = ap (chars_end test text) (sym s) ∙ end-here (λ k. test (slice_index text k)) o (length text) l e ∙ s in
    omega (arith, ended)

pub chars-end-on : (test : ℕ → Bool) (text : List ℕ) (a o : ℕ) → o ≡ a + 1 → o < length text → test (slice_index text o) ≡ true → chars_end test text (o + 1) ≡ chars_end test text (a + 1)
chars-end-on test text a o s l e = end-on (λ k. test (slice_index text k)) o (length text) l e ∙ ap (chars_end test text) s

pub chars-end-last : (test : ℕ → Bool) (text : List ℕ) (a : ℕ) → a ≡ length text - 1 → a < length text → chars_end test text (a + 1) - 1 ≡ a
chars-end-last test text a e l =
    let ended : chars_end test text (a + 1) ≡ length text = end-last (λ k. test (slice_index text k)) (a + 1) (length text) (omega (arith, e, l)) in
    omega (arith, ended, e)

-- a run ends before a number that fails, and begins behind it
pub end-le : (test : ℕ → Bool) (m n limit : ℕ) → m ≤ n → n < limit → test n ≡ false → run_end test m limit ≤ n
end-le test m n limit h l e = go (least_between (λ k. not (test k)) m limit) (least-is (λ k. not (test k)) m limit)
  where
    go : (found : Option ℕ) → IsLeastOrNone (λ k. not (test k)) m limit found → unwrap_or found limit ≤ n
    go None f = absurd (false≢true (sym (f n h l) ∙ ap not e))
    go (Some k) f = elim (cases_lt n k) [ inl before ↦ absurd (false≢true (sym (f.least n h before) ∙ ap not e)) | inr behind ↦ behind ]

pub begin-ge : (test : ℕ → Bool) (n m : ℕ) → n < m → test n ≡ false → n < run_begin test m
begin-ge test n m l e = go (greatest_below (λ k. not (test k)) m) (greatest-is (λ k. not (test k)) m)
  where
    go : (found : Option ℕ) → IsGreatestOrNone (λ k. not (test k)) m found → n < behind_found found
    go None f = absurd (false≢true (sym (f n l) ∙ ap not e))
    go (Some k) f = elim (cases_lt k n) [ inl before ↦ absurd (false≢true (sym (f.greatest n before l) ∙ ap not e)) | inr behind ↦ omega (arith, behind) ]

-- lines with a character before the newline keep the runs of empty lines on each side of them apart
pub empty-end : (text : List ℕ) (m n : ℕ) → m ≤ n → n < line_count text → is_full text n ≡ true → run_end (is_empty text) m (line_count text) ≤ n
empty-end text m n h l e = end-le (is_empty text) m n (line_count text) h l (ap not e)

pub empty-begin : (text : List ℕ) (n m : ℕ) → n < m → is_full text n ≡ true → n < run_begin (is_empty text) m
empty-begin text n m l e = begin-ge (is_empty text) n m l (ap not e)

-- what is there for the cursor's line is there for the line of its offset
pub on-own-line : (text : List ℕ) (sel : Sel) (at : Coord) (found : Option Pair) (object : ℕ → Option Ends) → IsInside text sel → at ≡ cursor_at sel → EndsAre text found (object at.line) → EndsAre text found (object (line_of text (cursor (range_of text sel))))
on-own-line text sel at found object h e f =
    let own : at.line ≡ line_of text (cursor (range_of text sel)) = sym (ap (λ (c : Coord). c.line) (coord_at-cursor text sel h ∙ sym e)) in
    subst (λ n. EndsAre text found (object n)) own f
