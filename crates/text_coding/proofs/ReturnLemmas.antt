-- Characters without the returns that stand before newlines, a line at a time.
use Rattle.std.proofs.Common.{◌≡◌, ◌≢◌, ℕ, arith, Bool, true, false, cond, ◌&&◌, ◌==◌, List, [], ◌∷◌, ◌++◌, refl, sym, ap, subst, ◌∙◌, append_assoc, append-nil, ◌||◌, true≢false}
use Rattle.std.proofs.lemmas.List.Elements.{All-append, All-head, All-tail}
use Rattle.text_coding.specs.declared.form.Eol.{Eol}
use Rattle.text_coding.specs.declared.form.Eol.TheVariants.{Lf, Crlf}
use Rattle.text_coding.specs.Coding.{from_form, begins_newline, without_returns, has_newline, each_returned, eol_of}
use Rattle.text_coding.specs.Surveying.{last_of}
use Rattle.text_coding.proofs.FormLemmas.{and-false, or-true, test-false}
use Rattle.text_coding.proofs.FillLemmas.{IsOpen, one-open}

-- a character before one that is no newline stays
kept-front : (c : ℕ) (cs : List ℕ) → begins_newline cs ≡ false → without_returns (c ∷ cs) ≡ c ∷ without_returns cs
kept-front c cs other = ap (λ b. cond ((c == 13) && b) (without_returns cs) (c ∷ without_returns cs)) other ∙ ap (λ b. cond b (without_returns cs) (c ∷ without_returns cs)) (and-false (c == 13))

-- characters without a newline keep their returns
kept-open : (cs : List ℕ) → IsOpen cs → without_returns cs ≡ cs
kept-open [] h = refl
kept-open (c ∷ []) h = kept-front c [] refl
kept-open (c ∷ (d ∷ ds)) h =
    let more : IsOpen (d ∷ ds) = All-tail (λ x. x ≢ 10) c (d ∷ ds) h in
    kept-front c (d ∷ ds) (test-false d 10 (All-head (λ x. x ≢ 10) d ds more)) ∙ ap (λ t. c ∷ t) (kept-open (d ∷ ds) more)

pub form-open : (eol : Eol) (cs : List ℕ) → IsOpen cs → from_form eol cs ≡ cs
form-open Lf cs h = refl
form-open Crlf cs h = kept-open cs h

-- a front of them has none either
pub front-open : (front more : List ℕ) → IsOpen (front ++ more) → IsOpen front
front-open [] more h = λ k d lt. absurd (omega (arith, lt))
front-open (c ∷ cs) more h = All-cons c cs (All-head (λ x. x ≢ 10) c (cs ++ more) h) (front-open cs more (All-tail (λ x. x ≢ 10) c (cs ++ more) h)) where
  All-cons : (c : ℕ) (cs : List ℕ) → c ≢ 10 → IsOpen cs → IsOpen (c ∷ cs)
  All-cons c cs one rest = All-append (λ x. x ≢ 10) (c ∷ []) cs (one-open c one) rest

-- a return before a newline goes
returned-run : (run rest : List ℕ) → IsOpen run → without_returns (run ++ 13 ∷ (10 ∷ rest)) ≡ run ++ 10 ∷ without_returns rest
returned-run [] rest h = refl
returned-run (c ∷ []) rest h = kept-front c (13 ∷ (10 ∷ rest)) refl
returned-run (c ∷ (d ∷ ds)) rest h =
    let more : IsOpen (d ∷ ds) = All-tail (λ x. x ≢ 10) c (d ∷ ds) h in
    kept-front c (d ∷ (ds ++ 13 ∷ (10 ∷ rest))) (test-false d 10 (All-head (λ x. x ≢ 10) d ds more)) ∙ ap (λ t. c ∷ t) (returned-run (d ∷ ds) rest more)

-- without one before its newline a line stays
pub plain-run : (run rest : List ℕ) → IsOpen run → last_of 0 run ≢ 13 → without_returns (run ++ 10 ∷ rest) ≡ run ++ 10 ∷ without_returns rest
plain-run [] rest h other = refl
plain-run (c ∷ []) rest h other = ap (λ b. cond (b && true) (10 ∷ without_returns rest) (c ∷ (10 ∷ without_returns rest))) (test-false c 13 other)
plain-run (c ∷ (d ∷ ds)) rest h other =
    let more : IsOpen (d ∷ ds) = All-tail (λ x. x ≢ 10) c (d ∷ ds) h in
    kept-front c (d ∷ (ds ++ 10 ∷ rest)) (test-false d 10 (All-head (λ x. x ≢ 10) d ds more)) ∙ ap (λ t. c ∷ t) (plain-run (d ∷ ds) rest more other)

-- What stands before a newline, of which the last character is a return, or is none.
pub returned-end : (run front rest : List ℕ) → IsOpen run → run ≡ front ++ 13 ∷ [] → without_returns (run ++ 10 ∷ rest) ≡ front ++ 10 ∷ without_returns rest
returned-end run front rest h split =
    ap (λ r. without_returns (r ++ 10 ∷ rest)) split ∙ ap without_returns (append_assoc front (13 ∷ []) (10 ∷ rest)) ∙ returned-run front rest (front-open front (13 ∷ []) (subst IsOpen split h))

-- returns before newlines, of what stands before a newline and of what stands behind it
each-open : (b : ℕ) (run rest : List ℕ) → IsOpen run → each_returned b (run ++ rest) ≡ each_returned (last_of b run) rest
each-open b [] rest h = refl
each-open b (c ∷ cs) rest h =
    ap (λ t. cond t (b == 13) true && each_returned c (cs ++ rest)) (test-false c 10 (All-head (λ x. x ≢ 10) c cs h)) ∙ each-open c cs rest (All-tail (λ x. x ≢ 10) c cs h)

each-behind : (rest : List ℕ) → each_returned 10 rest ≡ each_returned 0 rest
each-behind [] = refl
each-behind (c ∷ cs) = refl

each-line : (run rest : List ℕ) → IsOpen run → each_returned 0 (run ++ 10 ∷ rest) ≡ (last_of 0 run == 13) && each_returned 0 rest
each-line run rest h = each-open 0 run (10 ∷ rest) h ∙ ap (λ r. (last_of 0 run == 13) && r) (each-behind rest)

has-line : (run rest : List ℕ) → has_newline (run ++ 10 ∷ rest) ≡ true
has-line [] rest = refl
has-line (c ∷ cs) rest = ap (λ t. (c == 10) || t) (has-line cs rest) ∙ or-true (c == 10)

has-none : (cs : List ℕ) → IsOpen cs → has_newline cs ≡ false
has-none [] h = refl
has-none (c ∷ cs) h = ap (λ t. t || has_newline cs) (test-false c 10 (All-head (λ x. x ≢ 10) c cs h)) ∙ has-none cs (All-tail (λ x. x ≢ 10) c cs h)

each-none : (cs : List ℕ) → IsOpen cs → each_returned 0 cs ≡ true
each-none cs h = ap (each_returned 0) (sym (append-nil cs)) ∙ each-open 0 cs [] h

-- How far the ends of lines are gone over: all newlines so far have returns, and whether there was one.
pub record Ends (newline : Bool) (bytes rest : List ℕ) : Type 0 where
  pub each : each_returned 0 bytes ≡ each_returned 0 rest
  pub some : newline ≡ true → has_newline bytes ≡ true
  pub none : newline ≡ false → bytes ≡ rest

has-kept : (newline : Bool) (bytes run rest behind : List ℕ) → Ends newline bytes rest → rest ≡ run ++ 10 ∷ behind → has_newline bytes ≡ true
has-kept true bytes run rest behind e split = e.some refl
has-kept false bytes run rest behind e split = ap has_newline (e.none refl ∙ split) ∙ has-line run behind

pub ends-more : (newline : Bool) (bytes run rest behind : List ℕ) → Ends newline bytes rest → rest ≡ run ++ 10 ∷ behind → IsOpen run → (last_of 0 run == 13) ≡ true → Ends true bytes behind
ends-more newline bytes run rest behind e split h returned = record {
  each = e.each ∙ ap (each_returned 0) split ∙ each-line run behind h ∙ ap (λ t. t && each_returned 0 behind) returned;
  some = λ now. has-kept newline bytes run rest behind e split;
  none = λ now. absurd (true≢false now);
}

pub ends-plain : (newline : Bool) (bytes run rest behind : List ℕ) → Ends newline bytes rest → rest ≡ run ++ 10 ∷ behind → IsOpen run → (last_of 0 run == 13) ≡ false → Lf ≡ eol_of bytes
ends-plain newline bytes run rest behind e split h plain =
    let no : each_returned 0 bytes ≡ false = e.each ∙ ap (each_returned 0) split ∙ each-line run behind h ∙ ap (λ t. t && each_returned 0 behind) plain in
    sym (ap (λ t. cond (has_newline bytes && t) Crlf Lf) no ∙ ap (λ t. cond t Crlf Lf) (and-false (has_newline bytes)))

pub ends-all : (newline : Bool) (bytes rest : List ℕ) → Ends newline bytes rest → IsOpen rest → cond newline Crlf Lf ≡ eol_of bytes
ends-all true bytes rest e h = sym (ap (λ t. cond (t && each_returned 0 bytes) Crlf Lf) (e.some refl) ∙ ap (λ t. cond t Crlf Lf) (e.each ∙ each-none rest h))
ends-all false bytes rest e h = sym (ap (λ t. cond (t && each_returned 0 bytes) Crlf Lf) (ap has_newline (e.none refl) ∙ has-none rest h))
