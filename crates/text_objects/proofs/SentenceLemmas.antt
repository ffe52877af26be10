-- Where sentences begin and end, step by step.
use Rattle.std.proofs.Common.{◌≡◌, ◌≢◌, ℕ, ◌+◌, ◌-◌, ◌<◌, ◌≤◌, Bool, true, false, cond, eqb, not, ◌&&◌, ◌||◌, List, length, Option, None, Some, refl, sym, ap, ◌∙◌, arith, inl, inr, eq-eqb, ne_eqb, le-leb, ltb-true}
use Rattle.std.specs.Prelude.{slice_index, unwrap_or, option_map}
use Rattle.std.proofs.lemmas.Bool.{cases_lt, false≢true}
use Rattle.text_model.specs.declared.coords.Coord.{Coord}
use Rattle.text_model.specs.Texts.{offset, IsPlace, IsLine, line_count, nth_line}
use Rattle.text_model.proofs.CoordLemmas.{test_cases}
use Rattle.text_model.proofs.PlaceLemmas.{leb_false}
use Rattle.motion_keys.specs.Extremes.{least_between, greatest_below, IsLeastOrNone, IsGreatestOrNone}
use Rattle.motion_keys.specs.Landmarks.{line_begin, line_of}
use Rattle.motion_keys.specs.Words.{Ends, ends}
use Rattle.motion_keys.proofs.ExtremeLemmas.{least-here, least-later, least-none, least-is, greatest-here, greatest-earlier, greatest-is}
use Rattle.motion_keys.proofs.SearchLemmas.{next-passes}
use Rattle.text_objects.specs.Runs.{behind_found, run_begin, run_end}
use Rattle.text_objects.specs.LineObjects.{is_full}
use Rattle.text_objects.specs.RunObjects.{is_gap}
use Rattle.text_objects.specs.Sentences.{is_stop, is_end, is_solid, paragraph_begin, paragraph_end, is_end_from, follows_end, is_begin, sentence_begin, sentence_last, before_next}
use Rattle.text_objects.specs.SentenceSteps.{IsBefore, IsNextBehind}
use Rattle.text_objects.proofs.RunLemmas.{begin-here, begin-on, begin-first, end-here, end-on, end-last}
use Rattle.text_objects.proofs.LineOfLemmas.{line_begin-le, line_begin-next, line_of-place}

-- ---- paragraphs

run_begin-le : (test : ℕ → Bool) (n : ℕ) → run_begin test n ≤ n
run_begin-le test n = go (greatest_below (λ k. not (test k)) n) (greatest-is (λ k. not (test k)) n)
  where
    go : (found : Option ℕ) → IsGreatestOrNone (λ k. not (test k)) n found → behind_found found ≤ n
    go None f = omega arith
    go (Some k) f = omega (arith, f.inside)

run_end-ge : (test : ℕ → Bool) (n limit : ℕ) → n ≤ limit → n ≤ run_end test n limit
run_end-ge test n limit h = go (least_between (λ k. not (test k)) n limit) (least-is (λ k. not (test k)) n limit)
  where
    go : (found : Option ℕ) → IsLeastOrNone (λ k. not (test k)) n limit found → n ≤ unwrap_or found limit
    go None f = h
    go (Some k) f = f.inside.0

-- where the paragraph of a place begins and ends, by its line
begin_of : List ℕ → ℕ → ℕ
begin_of text n = line_begin text (run_begin (is_full text) n)

end_of : List ℕ → ℕ → ℕ
end_of text n = line_begin text (run_end (is_full text) (n + 1) (line_count text))

begin-of : (text : List ℕ) (at : Coord) → IsPlace text at → paragraph_begin text (offset text at) ≡ begin_of text at.line
unfolding begin_of
begin-of text at h = ap (λ n. line_begin text (run_begin (is_full text) n)) (line_of-place text at h)

end-of : (text : List ℕ) (at : Coord) → IsPlace text at → paragraph_end text (offset text at) ≡ end_of text at.line
unfolding end_of
end-of text at h = ap (λ n. line_begin text (run_end (is_full text) (n + 1) (line_count text))) (line_of-place text at h)

begin_of-le : (text : List ℕ) (n : ℕ) → begin_of text n ≤ line_begin text n
unfolding begin_of
begin_of-le text n = line_begin-le text (run_begin (is_full text) n) n (run_begin-le (is_full text) n)

end_of-ge : (text : List ℕ) (n : ℕ) → n < line_count text → line_begin text (n + 1) ≤ end_of text n
unfolding end_of
end_of-ge text n h = line_begin-le text (n + 1) (run_end (is_full text) (n + 1) (line_count text)) (run_end-ge (is_full text) (n + 1) (line_count text) (omega (arith, h)))

-- a paragraph begins with the text, or behind an empty line
begin_of-here : (text : List ℕ) (b n : ℕ) → b + 1 ≡ n → is_full text b ≡ false → begin_of text n ≡ line_begin text n
unfolding begin_of
begin_of-here text b n s e = ap (line_begin text) (begin-here (is_full text) b n s e)

begin_of-on : (text : List ℕ) (b n : ℕ) → b + 1 ≡ n → is_full text b ≡ true → begin_of text b ≡ begin_of text n
unfolding begin_of
begin_of-on text b n s e = ap (line_begin text) (begin-on (is_full text) b n s e)

begin_of-first : (text : List ℕ) (n : ℕ) → n ≡ 0 → begin_of text n ≡ line_begin text n
unfolding begin_of
begin_of-first text n e = ap (line_begin text) (begin-first (is_full text) n e)

-- and ends with the text, or before one
end_of-here : (text : List ℕ) (n : ℕ) → n + 1 < line_count text → is_full text (n + 1) ≡ false → end_of text n ≡ line_begin text (n + 1)
unfolding end_of
end_of-here text n l e = ap (line_begin text) (end-here (is_full text) (n + 1) (line_count text) l e)

end_of-on : (text : List ℕ) (n : ℕ) → n + 1 < line_count text → is_full text (n + 1) ≡ true → end_of text (n + 1) ≡ end_of text n
unfolding end_of
end_of-on text n l e = ap (line_begin text) (end-on (is_full text) (n + 1) (line_count text) l e)

end_of-last : (text : List ℕ) (n : ℕ) → n + 1 ≡ line_count text → end_of text n ≡ line_begin text (n + 1)
unfolding end_of
end_of-last text n e = ap (line_begin text) (end-last (is_full text) (n + 1) (line_count text) (omega (arith, e)) ∙ sym e)

pub begin-le : (text : List ℕ) (at : Coord) → IsPlace text at → paragraph_begin text (offset text at) ≤ offset text at
begin-le text at h = omega (arith, begin-of text at h, begin_of-le text at.line)

pub end-ge : (text : List ℕ) (at : Coord) → IsPlace text at → offset text at < paragraph_end text (offset text at)
end-ge text at h = omega (arith, end-of text at h, end_of-ge text at.line h.on_line, line_begin-next text at.line h.on_line, h.in_line)

-- ---- steps in a paragraph

-- something was found just where a fact doesn't hold, or nothing just where it does
pub some-not : (X : Type 0) → (X → ⊥) → (true ≡ false → X) × (X → true ≡ false)
some-not X n = (λ e. absurd (false≢true (sym e)), λ x. absurd (n x))

pub none-so : (X : Type 0) → X → (false ≡ false → X) × (X → false ≡ false)
none-so X x = (λ e. x, λ y. refl)

pub before-on_line : (text : List ℕ) (at b : Coord) → IsPlace text at → is_full text at.line ≡ true → b.line ≡ at.line → b.column + 1 ≡ at.column → IsBefore text b at
before-on_line text at b h full e c =
    let same : line_begin text b.line ≡ line_begin text at.line = ap (line_begin text) e in
    let length-same : length (nth_line text b.line) ≡ length (nth_line text at.line) = ap (λ n. length (nth_line text n)) e in
    let place : IsPlace text b = record { on_line = omega (arith, e, h.on_line); in_line = omega (arith, c, length-same, h.in_line) } in
    record {
      place = place;
      next = omega (arith, same, c);
      full = ap (is_full text) e ∙ full;
      same = begin-of text b place ∙ ap (begin_of text) e ∙ sym (begin-of text at h);
    }

pub before-line_above : (text : List ℕ) (at b : Coord) (n : ℕ) → IsPlace text at → at.column ≡ 0 → n + 1 ≡ at.line → b.line ≡ n → IsPlace text b → b.column + 1 ≡ length (nth_line text n) → is_full text n ≡ true → IsBefore text b at
before-line_above text at b n h z s e place last full =
    let own : n < line_count text = omega (arith, s, h.on_line) in
    let begins : line_begin text b.line ≡ line_begin text n = ap (line_begin text) e in
    let next : line_begin text (n + 1) ≡ line_begin text at.line = ap (line_begin text) s in
    record {
      place = place;
      next = omega (arith, z, last, begins, next, line_begin-next text n own);
      full = ap (is_full text) e ∙ full;
      same = begin-of text b place ∙ ap (begin_of text) e ∙ begin_of-on text n at.line s full ∙ sym (begin-of text at h);
    }

-- a step back is there where the paragraph doesn't begin
pub before-not_begin : (text : List ℕ) (at b : Coord) → IsPlace text at → IsBefore text b at → offset text at ≢ paragraph_begin text (offset text at)
before-not_begin text at b h before e = omega (arith, e, before.same, before.next, begin-le text b before.place)

pub begins-below_empty : (text : List ℕ) (at : Coord) (n : ℕ) → IsPlace text at → at.column ≡ 0 → n + 1 ≡ at.line → is_full text n ≡ false → offset text at ≡ paragraph_begin text (offset text at)
begins-below_empty text at n h z e f = omega (arith, z, begin-of text at h, begin_of-here text n at.line e f)

pub behind-on_line : (text : List ℕ) (at b : Coord) → IsPlace text at → is_full text at.line ≡ true → b.line ≡ at.line → b.column ≡ at.column + 1 → at.column + 1 < length (nth_line text at.line) → IsNextBehind text b at
behind-on_line text at b h full e c l =
    let same : line_begin text b.line ≡ line_begin text at.line = ap (line_begin text) e in
    let length-same : length (nth_line text b.line) ≡ length (nth_line text at.line) = ap (λ n. length (nth_line text n)) e in
    let place : IsPlace text b = record { on_line = omega (arith, e, h.on_line); in_line = omega (arith, c, length-same, l) } in
    record {
      place = place;
      next = omega (arith, same, c);
      full = ap (is_full text) e ∙ full;
      same = end-of text b place ∙ ap (end_of text) e ∙ sym (end-of text at h);
    }

full-length : (text : List ℕ) (n : ℕ) → is_full text n ≡ true → 1 < length (nth_line text n)
full-length text n e = ltb-true 1 (length (nth_line text n)) e

pub behind-line_below : (text : List ℕ) (at b : Coord) → IsPlace text at → at.column + 1 ≡ length (nth_line text at.line) → b.line ≡ at.line + 1 → b.column ≡ 0 → at.line + 1 < line_count text → is_full text (at.line + 1) ≡ true → IsNextBehind text b at
behind-line_below text at b h last e z l full =
    let own : is_full text b.line ≡ true = ap (is_full text) e ∙ full in
    let place : IsPlace text b = record { on_line = omega (arith, e, l); in_line = omega (arith, z, full-length text b.line own) } in
    let same : line_begin text b.line ≡ line_begin text (at.line + 1) = ap (line_begin text) e in
    record {
      place = place;
      next = omega (arith, z, same, last, line_begin-next text at.line h.on_line);
      full = own;
      same = end-of text b place ∙ ap (end_of text) e ∙ end_of-on text at.line l full ∙ sym (end-of text at h);
    }

-- a step on is there where the paragraph doesn't end
pub behind-not_end : (text : List ℕ) (at b : Coord) → IsPlace text at → IsNextBehind text b at → offset text at + 1 ≢ paragraph_end text (offset text at)
behind-not_end text at b h behind e = omega (arith, e, behind.same, behind.next, end-ge text b behind.place)

pub ends-last : (text : List ℕ) (at : Coord) → IsPlace text at → at.column + 1 ≡ length (nth_line text at.line) → at.line + 1 ≡ line_count text → offset text at + 1 ≡ paragraph_end text (offset text at)
ends-last text at h last e = omega (arith, last, end-of text at h, end_of-last text at.line e, line_begin-next text at.line h.on_line)

pub ends-above_empty : (text : List ℕ) (at : Coord) → IsPlace text at → at.column + 1 ≡ length (nth_line text at.line) → at.line + 1 < line_count text → is_full text (at.line + 1) ≡ false → offset text at + 1 ≡ paragraph_end text (offset text at)
ends-above_empty text at h last l f = omega (arith, last, end-of text at h, end_of-here text at.line l f, line_begin-next text at.line h.on_line)

-- a paragraph's last place isn't the first of its line
pub end-column : (text : List ℕ) (at : Coord) → IsPlace text at → is_full text at.line ≡ true → offset text at + 1 ≡ paragraph_end text (offset text at) → 0 < at.column
end-column text at h full e = omega (arith, e, end-of text at h, end_of-ge text at.line h.on_line, line_begin-next text at.line h.on_line, full-length text at.line full)

-- ---- stops

-- no newline is one, so that a character follows on the line
pub stop-inside : (line : List ℕ) (column c : ℕ) → IsLine line → column < length line → slice_index line column ≡ c → is_stop c ≡ true → column + 1 < length line
stop-inside line column c h l r t =
    elim (cases_lt (column + 1) (length line)) [
      | inl lt ↦ lt
      | inr ge ↦ (let last : column ≡ length line - 1 = omega (arith, l, ge) in
          let newline : c ≡ 10 = sym r ∙ ap (slice_index line) last ∙ h.ended in
          absurd (false≢true (sym (ap is_stop newline) ∙ t)))
    ]

pub end-no_stop : (text : List ℕ) (o : ℕ) → is_stop (slice_index text o) ≡ false → is_end text o ≡ false
end-no_stop text o f = ap (λ b. b && is_gap (slice_index text (o + 1))) f

pub end-stop : (text : List ℕ) (o : ℕ) → is_stop (slice_index text o) ≡ true → is_end text o ≡ is_gap (slice_index text (o + 1))
end-stop text o t = ap (λ b. b && is_gap (slice_index text (o + 1))) t

-- ---- what follows an end

solid-follows : (text : List ℕ) (o : ℕ) → is_gap (slice_index text o) ≡ false → follows_end text o ≡ is_end_from text (paragraph_begin text o) (greatest_below (is_solid text) o)
solid-follows text o e = ap (λ b. not b && is_end_from text (paragraph_begin text o) (greatest_below (is_solid text) o)) e

-- the last character that is no blank or newline was found
pub follows-found : (text : List ℕ) (o p b : ℕ) → is_gap (slice_index text o) ≡ false → greatest_below (is_solid text) p ≡ greatest_below (is_solid text) o → b + 1 ≡ p → is_gap (slice_index text b) ≡ false → paragraph_begin text o ≤ b
    → follows_end text o ≡ is_end text b
follows-found text o p b e rest s solid le =
    solid-follows text o e
    ∙ ap (is_end_from text (paragraph_begin text o)) (sym rest ∙ greatest-here (is_solid text) b p s (ap not solid))
    ∙ ap (λ t. t && is_end text b) (le-leb (paragraph_begin text o) b le)

-- it stands before the paragraph, if at all
pub follows-none : (text : List ℕ) (o p : ℕ) → is_gap (slice_index text o) ≡ false → greatest_below (is_solid text) p ≡ greatest_below (is_solid text) o → p ≡ paragraph_begin text o → follows_end text o ≡ false
follows-none text o p e rest begins =
    solid-follows text o e ∙ ap (is_end_from text (paragraph_begin text o)) (sym rest) ∙ go (greatest_below (is_solid text) p) (greatest-is (is_solid text) p)
  where
    go : (found : Option ℕ) → IsGreatestOrNone (is_solid text) p found → is_end_from text (paragraph_begin text o) found ≡ false
    go None f = refl
    go (Some k) f = ap (λ t. t && is_end text k) (leb_false (paragraph_begin text o) k (omega (arith, begins, f.inside)))

pub solid-on : (text : List ℕ) (o p b : ℕ) → b + 1 ≡ p → is_gap (slice_index text b) ≡ true → greatest_below (is_solid text) p ≡ greatest_below (is_solid text) o → greatest_below (is_solid text) b ≡ greatest_below (is_solid text) o
solid-on text o p b s e rest = sym (greatest-earlier (is_solid text) b p s (ap not e)) ∙ rest

-- ---- where a sentence begins

begin-by : (text : List ℕ) (at : Coord) → IsPlace text at → is_begin text (offset text at) ≡ is_full text at.line && (eqb (offset text at) (paragraph_begin text (offset text at)) || follows_end text (offset text at))
begin-by text at h = ap (λ n. is_full text n && (eqb (offset text at) (paragraph_begin text (offset text at)) || follows_end text (offset text at))) (line_of-place text at h)

pub begin-empty : (text : List ℕ) (at : Coord) → IsPlace text at → is_full text at.line ≡ false → is_begin text (offset text at) ≡ false
begin-empty text at h f = begin-by text at h ∙ ap (λ b. b && (eqb (offset text at) (paragraph_begin text (offset text at)) || follows_end text (offset text at))) f

begin-full : (text : List ℕ) (at : Coord) → IsPlace text at → is_full text at.line ≡ true → is_begin text (offset text at) ≡ eqb (offset text at) (paragraph_begin text (offset text at)) || follows_end text (offset text at)
begin-full text at h t = begin-by text at h ∙ ap (λ b. b && (eqb (offset text at) (paragraph_begin text (offset text at)) || follows_end text (offset text at))) t

pub begin-paragraph : (text : List ℕ) (at : Coord) → IsPlace text at → is_full text at.line ≡ true → offset text at ≡ paragraph_begin text (offset text at) → is_begin text (offset text at) ≡ true
begin-paragraph text at h t e = begin-full text at h t ∙ ap (λ b. b || follows_end text (offset text at)) (eq-eqb (offset text at) (paragraph_begin text (offset text at)) e)

pub begin-follows : (text : List ℕ) (at : Coord) → IsPlace text at → is_full text at.line ≡ true → offset text at ≢ paragraph_begin text (offset text at) → is_begin text (offset text at) ≡ follows_end text (offset text at)
begin-follows text at h t e = begin-full text at h t ∙ ap (λ b. b || follows_end text (offset text at)) (ne_eqb (offset text at) (paragraph_begin text (offset text at)) e)

-- a sentence begins on a line that isn't empty
pub begin-line : (text : List ℕ) (at : Coord) → IsPlace text at → is_begin text (offset text at) ≡ true → is_full text at.line ≡ true
begin-line text at h t = elim (test_cases (is_full text at.line)) [ inl e ↦ e | inr f ↦ absurd (false≢true (sym (begin-empty text at h f) ∙ t)) ]

-- ---- the searches

pub begin-back : (text : List ℕ) (o p b : ℕ) → b + 1 ≡ p → greatest_below (is_begin text) (p + 1) ≡ greatest_below (is_begin text) (o + 1) → is_begin text p ≡ false → greatest_below (is_begin text) (b + 1) ≡ greatest_below (is_begin text) (o + 1)
begin-back text o p b s rest f = ap (greatest_below (is_begin text)) s ∙ sym (greatest-earlier (is_begin text) p (p + 1) refl f) ∙ rest

pub last-found : (text : List ℕ) (b p : ℕ) → least_between (is_end text) p (paragraph_end text b) ≡ least_between (is_end text) b (paragraph_end text b) → p < paragraph_end text b → is_end text p ≡ true → p ≡ sentence_last text b
last-found text b p rest l t = sym (ap (λ f. unwrap_or f (paragraph_end text b - 2)) (sym rest ∙ least-here (is_end text) p (paragraph_end text b) l t))

pub last-on : (text : List ℕ) (b p n : ℕ) → n ≡ p + 1 → least_between (is_end text) p (paragraph_end text b) ≡ least_between (is_end text) b (paragraph_end text b) → p < paragraph_end text b → is_end text p ≡ false
    → least_between (is_end text) n (paragraph_end text b) ≡ least_between (is_end text) b (paragraph_end text b)
last-on text b p n s rest l f = ap (λ k. least_between (is_end text) k (paragraph_end text b)) s ∙ sym (least-later (is_end text) p (paragraph_end text b) l f) ∙ rest

pub last-none : (text : List ℕ) (b p : ℕ) → p + 1 ≡ paragraph_end text b → least_between (is_end text) p (paragraph_end text b) ≡ least_between (is_end text) b (paragraph_end text b) → is_end text p ≡ false → p - 1 ≡ sentence_last text b
last-none text b p e rest f =
    let l : p < paragraph_end text b = omega (arith, e) in
    let none : least_between (is_end text) b (paragraph_end text b) ≡ None = sym rest ∙ least-later (is_end text) p (paragraph_end text b) l f ∙ least-none (is_end text) (p + 1) (paragraph_end text b) (omega (arith, e)) in
    let two : p - 1 ≡ paragraph_end text b - 2 = omega (arith, e) in
    two ∙ sym (ap (λ r. unwrap_or r (paragraph_end text b - 2)) none)

pub next-found : (text : List ℕ) (b : ℕ) (at next : Coord) → IsPlace text next → offset text next ≡ offset text at + 1 → is_begin text (offset text next) ≡ true
    → least_between (is_begin text) (offset text at + 1) (length text) ≡ least_between (is_begin text) (b + 1) (length text) → offset text at ≡ before_next text b
next-found text b at next h s t rest =
    let one : offset text at ≡ offset text next - 1 = omega (arith, s) in
    one ∙ sym (ap (λ r. unwrap_or r (length text) - 1) (sym rest ∙ next-passes (is_begin text) text at next h s t))

-- ---- the sentence of a place

-- a sentence by its begin, with an end for it
abbrev by_end : (ℕ → ℕ) → List ℕ → ℕ → ℕ → Option Ends
by_end last text o n = cond (is_full text n) (option_map (λ b. ends b (last b)) (sentence_begin text o)) None

by-place : (last : ℕ → ℕ) (text : List ℕ) (at : Coord) → IsPlace text at → by_end last text (offset text at) (line_of text (offset text at)) ≡ by_end last text (offset text at) at.line
by-place last text at h = ap (by_end last text (offset text at)) (line_of-place text at h)

pub sentence-none : (last : ℕ → ℕ) (text : List ℕ) (at : Coord) → IsPlace text at → is_full text at.line ≡ false → cond (is_full text (line_of text (offset text at))) (option_map (λ b. ends b (last b)) (sentence_begin text (offset text at))) None ≡ None
sentence-none last text at h f = by-place last text at h ∙ ap (λ b. cond b (option_map (λ b. ends b (last b)) (sentence_begin text (offset text at))) None) f

pub sentence-is : (last : ℕ → ℕ) (text : List ℕ) (at : Coord) (begin : Option ℕ) → IsPlace text at → is_full text at.line ≡ true → sentence_begin text (offset text at) ≡ begin
    → cond (is_full text (line_of text (offset text at))) (option_map (λ b. ends b (last b)) (sentence_begin text (offset text at))) None ≡ option_map (λ b. ends b (last b)) begin
sentence-is last text at begin h t e = by-place last text at h ∙ ap (λ b. cond b (option_map (λ b. ends b (last b)) (sentence_begin text (offset text at))) None) t ∙ ap (option_map (λ b. ends b (last b))) e
