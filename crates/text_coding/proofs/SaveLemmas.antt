-- What a text is saved as, one part after another.
use Rattle.std.proofs.Common.{◌≡◌, ◌≢◌, ℕ, ◌+◌, ◌-◌, ◌<◌, ◌≤◌, Bool, true, false, cond, ◌==◌, List, [], ◌∷◌, ◌++◌, length, get_or, take, slice_index, refl, sym, ap, ap₂, ◌∙◌, arith, append_assoc, encode_utf8, encode_utf8_all, length-take-le, get_or-take}
use Rattle.std.proofs.lemmas.Str.{encodes-append}
use Rattle.std.proofs.lemmas.List.{append-nil, take_more, take_all}
use Rattle.std.proofs.lemmas.List.Elements.{All-head, All-tail}
use Rattle.std.proofs.lemmas.Grind.{get_or_default_zero}
use Rattle.text_model.specs.Texts.{joined, lines_of, IsLine}
use Rattle.text_coding.proofs.FormLemmas.{test-false}
use Rattle.text_coding.proofs.FillLemmas.{IsOpen}
use Rattle.line_buffer.proofs.FlatLemmas.{joined-more, joined-all}
use Rattle.text_coding.specs.declared.form.Eol.{Eol}
use Rattle.text_coding.specs.declared.form.Eol.TheVariants.{Lf, Crlf}
use Rattle.text_coding.specs.Coding.{to_form, with_returns}

with-append : (a b : List ℕ) → with_returns (a ++ b) ≡ with_returns a ++ with_returns b
with-append [] b = refl
with-append (c ∷ a) b = each (c == 10) (with-append a b) where
  each : (r : Bool) → with_returns (a ++ b) ≡ with_returns a ++ with_returns b → cond r (13 ∷ (10 ∷ with_returns (a ++ b))) (c ∷ with_returns (a ++ b)) ≡ cond r (13 ∷ (10 ∷ with_returns a)) (c ∷ with_returns a) ++ with_returns b
  each true inner = ap (λ t. 13 ∷ (10 ∷ t)) inner
  each false inner = ap (λ t. c ∷ t) inner

form-append : (eol : Eol) (a b : List ℕ) → to_form eol (a ++ b) ≡ to_form eol a ++ to_form eol b
form-append Lf a b = refl
form-append Crlf a b = with-append a b

-- the bytes of two parts
pub coded-append : (eol : Eol) (a b : List ℕ) → encode_utf8_all (to_form eol (a ++ b)) ≡ encode_utf8_all (to_form eol a) ++ encode_utf8_all (to_form eol b)
coded-append eol a b = ap encode_utf8_all (form-append eol a b) ∙ encodes-append (to_form eol a) (to_form eol b)

-- one character more
pub coded-more : (cs : List ℕ) (i c : ℕ) (old mid new : List ℕ) → i < length cs → get_or cs i 0 ≡ c → mid ≡ old ++ encode_utf8_all (take i cs) → new ≡ mid ++ encode_utf8 c → new ≡ old ++ encode_utf8_all (take (i + 1) cs)
coded-more cs i c old mid new inside here so_far added =
    added ∙ ap (λ m. m ++ encode_utf8 c) so_far
    ∙ append_assoc old (encode_utf8_all (take i cs)) (encode_utf8 c)
    ∙ ap (λ t. old ++ t) (sym (ap encode_utf8_all (take_more cs i 0 inside ∙ ap (λ x. take i cs ++ x ∷ []) here) ∙ encodes-append (take i cs) (c ∷ []) ∙ ap (λ t. encode_utf8_all (take i cs) ++ t) (append-nil (encode_utf8 c))))

-- characters without a newline have no line ends
with-open : (cs : List ℕ) → IsOpen cs → with_returns cs ≡ cs
with-open [] h = refl
with-open (c ∷ cs) h =
    let no : (c == 10) ≡ false = test-false c 10 (All-head (λ x. x ≢ 10) c cs h) in
    ap (λ b. cond b (13 ∷ (10 ∷ with_returns cs)) (c ∷ with_returns cs)) no ∙ ap (λ t. c ∷ t) (with-open cs (All-tail (λ x. x ≢ 10) c cs h))

form-open : (eol : Eol) (cs : List ℕ) → IsOpen cs → to_form eol cs ≡ cs
form-open Lf cs h = refl
form-open Crlf cs h = with-open cs h

-- what stands before the end of a line
abbrev pub run_of : List ℕ → List ℕ
run_of line = take (length line - 1) line

run-open : (line : List ℕ) → IsLine line → IsOpen (run_of line)
run-open line h k d lt =
    let n : ℕ = length line - 1 in
    let short : length (run_of line) ≡ n = length-take-le n line (omega arith) in
    let inside : k < n = omega (arith, lt, short) in
    let read : get_or (run_of line) k d ≡ slice_index line k = get_or_default_zero (run_of line) k d lt ∙ get_or-take n line k 0 inside in
    λ e. h.only k (omega (arith, inside)) (sym read ∙ e)

run-end : (line : List ℕ) → IsLine line → line ≡ run_of line ++ 10 ∷ []
run-end line h =
    let n : ℕ = length line - 1 in
    let all : n + 1 ≡ length line = omega (arith, h.some) in
    sym (take_all (n + 1) line (omega (arith, all))) ∙ take_more line n 0 (omega (arith, all)) ∙ ap (λ x. run_of line ++ x ∷ []) h.ended

-- the bytes of a line are those of what stands before its end, and those of the end
pub coded-line : (eol : Eol) (line run old mid new : List ℕ) → IsLine line → run ≡ run_of line → mid ≡ old ++ encode_utf8_all run → new ≡ mid ++ encode_utf8_all (to_form eol (10 ∷ [])) → new ≡ old ++ encode_utf8_all (to_form eol line)
coded-line eol line run old mid new h here so_far added =
    added ∙ ap (λ m. m ++ encode_utf8_all (to_form eol (10 ∷ []))) (so_far ∙ ap (λ r. old ++ encode_utf8_all r) here)
    ∙ append_assoc old (encode_utf8_all (run_of line)) (encode_utf8_all (to_form eol (10 ∷ [])))
    ∙ ap (λ t. old ++ t) (sym (ap (λ t. encode_utf8_all (to_form eol t)) (run-end line h) ∙ coded-append eol (run_of line) (10 ∷ []) ∙ ap (λ t. encode_utf8_all t ++ encode_utf8_all (to_form eol (10 ∷ []))) (form-open eol (run_of line) (run-open line h))))

-- one line more
pub line-more : (eol : Eol) (ls : List (List ℕ)) (n : ℕ) (line old mid new : List ℕ) → n < length ls → line ≡ get_or ls n [] → mid ≡ old ++ encode_utf8_all (to_form eol (joined (take n ls))) → new ≡ mid ++ encode_utf8_all (to_form eol line) → new ≡ old ++ encode_utf8_all (to_form eol (joined (take (n + 1) ls)))
line-more eol ls n line old mid new inside here so_far added =
    added ∙ ap₂ (λ x y. x ++ encode_utf8_all (to_form eol y)) so_far here
    ∙ append_assoc old (encode_utf8_all (to_form eol (joined (take n ls)))) (encode_utf8_all (to_form eol (get_or ls n [])))
    ∙ ap (λ t. old ++ t) (sym (coded-append eol (joined (take n ls)) (get_or ls n [])))
    ∙ ap (λ t. old ++ encode_utf8_all (to_form eol t)) (sym (joined-more ls n inside))

pub lines-all : (eol : Eol) (text old : List ℕ) (n : ℕ) (new : List ℕ) → length (lines_of text) ≤ n → new ≡ old ++ encode_utf8_all (to_form eol (joined (take n (lines_of text)))) → new ≡ old ++ encode_utf8_all (to_form eol text)
lines-all eol text old n new all so_far = so_far ∙ ap (λ t. old ++ encode_utf8_all (to_form eol t)) (joined-all text n all)

-- before the first line there is what stands before the text
pub begun : (eol : Eol) (mark here new : List ℕ) → new ≡ [] ++ here → here ≡ mark → new ≡ mark ++ encode_utf8_all (to_form eol [])
begun Lf mark here new added same = added ∙ same ∙ sym (append-nil mark)
begun Crlf mark here new added same = added ∙ same ∙ sym (append-nil mark)
