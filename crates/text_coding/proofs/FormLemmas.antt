-- Line ends, one character after another.
use Rattle.std.proofs.Common.{◌≡◌, ◌≢◌, ℕ, suc, ◌+◌, ◌-◌, ◌<◌, ◌≤◌, Bool, true, false, cond, ◌&&◌, ◌||◌, ◌==◌, List, [], ◌∷◌, ◌++◌, length, min, ◌^◌, slice_index, refl, sym, ap, ◌∙◌, arith, true≢false}
use Rattle.std.proofs.lemmas.Bool.{eqb-true}
use Rattle.std.proofs.lemmas.List.{length-append}
use Rattle.std.specs.Str.{chars, IsUtf8}
use Rattle.line_buffer.proofs.GrowingLemmas.{few_chars}
use Rattle.std.proofs.lemmas.Bool.Decides.{nat_tests}
use Rattle.text_coding.specs.declared.decoding.Survey.{Survey}
use Rattle.text_model.specs.declared.TheConstants.{MAX_CHARS}
use Rattle.text_model.specs.Texts.{ends_in_newline}
use Rattle.text_model.specs.Changes.{ended}
use Rattle.text_model.proofs.ChangeLemmas.{ended-text, ended-other}
use Rattle.text_coding.specs.declared.form.Eol.{Eol}
use Rattle.text_coding.specs.declared.form.Eol.TheVariants.{Lf, Crlf}
use Rattle.text_coding.specs.Coding.{begins_newline, without_returns, from_form}
use Rattle.text_coding.specs.Surveying.{last_of, IsSurvey}

by_test : {G : Type 0} (b : Bool) → (b ≡ true → G) → (b ≡ false → G) → G
by_test true f g = f refl
by_test false f g = g refl

pub last-push : (b : ℕ) (cs : List ℕ) (c : ℕ) → last_of b (cs ++ c ∷ []) ≡ c
last-push b [] c = refl
last-push b (x ∷ cs) c = last-push x cs c

-- one more character behind, where the first of all is kept or not
behind : (b : Bool) (x : ℕ) (cs new more : List ℕ) → new ≡ cs ++ more → cond b new (x ∷ new) ≡ cond b cs (x ∷ cs) ++ more
behind true x cs new more grown = grown
behind false x cs new more grown = ap (λ r. x ∷ r) grown

-- no character is left out before none
kept : (b : Bool) (x : ℕ) → cond (b && false) [] (x ∷ []) ≡ x ∷ []
kept true x = refl
kept false x = refl

kept_two : (b : Bool) (x : ℕ) (rest : List ℕ) → cond (b && false) rest (x ∷ rest) ≡ x ∷ rest
kept_two true x rest = refl
kept_two false x rest = refl

-- a character that is no newline comes behind
pub without-push_other : (cs : List ℕ) (c : ℕ) → (c == 10) ≡ false → without_returns (cs ++ c ∷ []) ≡ without_returns cs ++ c ∷ []
without-push_other [] c other = kept (c == 13) c
without-push_other (x ∷ []) c other =
    ap (λ b. cond ((x == 13) && b) (without_returns (c ∷ [])) (x ∷ without_returns (c ∷ []))) other
    ∙ kept_two (x == 13) x (without_returns (c ∷ []))
    ∙ ap (λ r. x ∷ r) (kept (c == 13) c)
    ∙ ap (λ r. r ++ c ∷ []) (sym (kept (x == 13) x))
without-push_other (x ∷ (y ∷ cs)) c other = behind ((x == 13) && (y == 10)) x (without_returns (y ∷ cs)) (without_returns ((y ∷ cs) ++ c ∷ [])) (c ∷ []) (without-push_other (y ∷ cs) c other)

-- a newline comes behind what is no return
pub without-push_plain : (b : ℕ) (cs : List ℕ) → (last_of b cs == 13) ≡ false → without_returns (cs ++ 10 ∷ []) ≡ without_returns cs ++ 10 ∷ []
without-push_plain b [] plain = refl
without-push_plain b (x ∷ []) plain =
    ap (λ r. cond (r && true) (10 ∷ []) (x ∷ 10 ∷ [])) plain
    ∙ ap (λ r. r ++ 10 ∷ []) (sym (kept (x == 13) x))
without-push_plain b (x ∷ (y ∷ cs)) plain = behind ((x == 13) && (y == 10)) x (without_returns (y ∷ cs)) (without_returns ((y ∷ cs) ++ 10 ∷ [])) (10 ∷ []) (without-push_plain x (y ∷ cs) plain)

-- a newline takes the place of a return before it
pub record Joined (old new : List ℕ) : Type 0 where
  pub front : List ℕ
  pub before : old ≡ front ++ 13 ∷ []
  pub after : new ≡ front ++ 10 ∷ []

joined-behind : (b : Bool) (x : ℕ) (old new : List ℕ) → Joined old new → Joined (cond b old (x ∷ old)) (cond b new (x ∷ new))
joined-behind true x old new j = j
joined-behind false x old new j = record { front = x ∷ j.front; before = ap (λ r. x ∷ r) j.before; after = ap (λ r. x ∷ r) j.after }

pub without-push_joined : (x : ℕ) (cs : List ℕ) → (last_of x cs == 13) ≡ true → Joined (without_returns (x ∷ cs)) (without_returns ((x ∷ cs) ++ 10 ∷ []))
without-push_joined x [] returned = record {
  front = [];
  before = kept (x == 13) x ∙ ap (λ c. c ∷ []) (eqb-true x 13 returned);
  after = ap (λ r. cond (r && true) (10 ∷ []) (x ∷ 10 ∷ [])) returned;
}
without-push_joined x (y ∷ cs) returned = joined-behind ((x == 13) && (y == 10)) x (without_returns (y ∷ cs)) (without_returns ((y ∷ cs) ++ 10 ∷ [])) (without-push_joined y cs returned)

-- the same where the last of all is a return
pub without-push_last : (cs : List ℕ) → 13 ≡ last_of 0 cs → Joined (without_returns cs) (without_returns (cs ++ 10 ∷ []))
without-push_last [] last = absurd (omega (arith, last))
without-push_last (x ∷ cs) last = without-push_joined x cs (ap (λ n. n == 13) (sym last))

pub test-false : (a b : ℕ) → a ≢ b → (a == b) ≡ false
test-false a b apart = grind (arith, nat_tests)

-- a survey of one character more, by what it is
pub survey-other : (s : Survey) (c : ℕ) (cs : List ℕ) → c ≢ 10 → IsSurvey s cs → IsSurvey (record { plain = s.plain + 1; short = s.short + 1; before = c }) (cs ++ c ∷ [])
survey-other s c cs other known =
    let no : (c == 10) ≡ false = test-false c 10 other in record {
      plain = omega (arith, known.plain, length-append cs (c ∷ []));
      short = omega (arith, known.short, ap length (without-push_other cs c no), length-append (without_returns cs) (c ∷ []));
      before = sym (last-push 0 cs c);
    }

pub or-true : (x : Bool) → (x || true) ≡ true
or-true true = refl
or-true false = refl

pub and-false : (x : Bool) → (x && false) ≡ false
and-false true = refl
and-false false = refl

pub survey-plain : (s : Survey) (cs : List ℕ) → s.before ≢ 13 → IsSurvey s cs → IsSurvey (record { plain = s.plain + 1; short = s.short + 1; before = 10 }) (cs ++ 10 ∷ [])
survey-plain s cs other known =
    let no : (last_of 0 cs == 13) ≡ false = ap (λ n. n == 13) (sym known.before) ∙ test-false s.before 13 other in record {
      plain = omega (arith, known.plain, length-append cs (10 ∷ []));
      short = omega (arith, known.short, ap length (without-push_plain 0 cs no), length-append (without_returns cs) (10 ∷ []));
      before = sym (last-push 0 cs 10);
    }

pub survey-joined : (s : Survey) (cs : List ℕ) → s.before ≡ 13 → IsSurvey s cs → IsSurvey (record { plain = s.plain + 1; short = s.short; before = 10 }) (cs ++ 10 ∷ [])
survey-joined s cs returned known =
    let last : 13 ≡ last_of 0 cs = sym returned ∙ known.before in
    let j = without-push_last cs last in record {
      plain = omega (arith, known.plain, length-append cs (10 ∷ []));
      short = omega (arith, known.short, ap length j.before, ap length j.after, length-append j.front (13 ∷ []), length-append j.front (10 ∷ []));
      before = sym (last-push 0 cs 10);
    }

cond-le : (b : Bool) (x : ℕ) (cs : List ℕ) (n : ℕ) → length cs ≤ n → length (cond b cs (x ∷ cs)) ≤ suc n
cond-le true x cs n le = omega (arith, le)
cond-le false x cs n le = omega (arith, le)

-- there are no more characters without the returns
pub short-le : (cs : List ℕ) → length (without_returns cs) ≤ length cs
short-le [] = omega arith
short-le (x ∷ cs) = cond-le ((x == 13) && begins_newline cs) x (without_returns cs) (length cs) (short-le cs)

ends-cons : (c d : ℕ) (cs : List ℕ) → ends_in_newline (c ∷ (d ∷ cs)) ≡ ends_in_newline (d ∷ cs)
ends-cons c d cs =
    let last : length (c ∷ (d ∷ cs)) - 1 ≡ suc (length (d ∷ cs) - 1) = omega arith in
    ap (λ k. slice_index (c ∷ (d ∷ cs)) k == 10) last

ends-some : (c : ℕ) (cs : List ℕ) → ends_in_newline (c ∷ cs) ≡ (last_of c cs == 10)
ends-some c [] = refl
ends-some c (d ∷ cs) = ends-cons c d cs ∙ ends-some d cs

-- whether the last character is a newline
pub ends-last : (cs : List ℕ) → ends_in_newline cs ≡ (last_of 0 cs == 10)
ends-last [] = refl
ends-last (c ∷ cs) = ends-some c cs

last-skipped : (b c : ℕ) (cs : List ℕ) → begins_newline cs ≡ true → last_of c cs ≡ last_of b cs
last-skipped b c [] begins = absurd (true≢false (sym begins))
last-skipped b c (d ∷ cs) begins = refl

last-behind : (r : Bool) (b c : ℕ) (cs new : List ℕ) → (r ≡ true → begins_newline cs ≡ true) → ((x : ℕ) → last_of x new ≡ last_of x cs) → last_of b (cond r new (c ∷ new)) ≡ last_of b (c ∷ cs)
last-behind true b c cs new begins same = same b ∙ sym (last-skipped b c cs (begins refl))
last-behind false b c cs new begins same = same c

second : (x y : Bool) → (x && y) ≡ true → y ≡ true
second true y e = e
second false y e = absurd (true≢false (sym e))

-- the last character stays
pub last-without : (b : ℕ) (cs : List ℕ) → last_of b (without_returns cs) ≡ last_of b cs
last-without b [] = refl
last-without b (c ∷ cs) = last-behind ((c == 13) && begins_newline cs) b c cs (without_returns cs) (second (c == 13) (begins_newline cs)) (λ x. last-without x cs)

pub last-from : (eol : Eol) (cs : List ℕ) → last_of 0 (from_form eol cs) ≡ last_of 0 cs
last-from Lf cs = refl
last-from Crlf cs = last-without 0 cs

ended-le : (cs : List ℕ) → length (ended cs) ≤ length cs + 1
ended-le cs = by_test (ends_in_newline cs) (λ e. omega (arith, ap length (ended-text cs e))) (λ e. omega (arith, ap length (ended-other cs e), length-append cs (10 ∷ [])))

length-from : (eol : Eol) (cs : List ℕ) → length (from_form eol cs) ≤ length cs
length-from Lf cs = omega arith
length-from Crlf cs = short-le cs

-- a text of fewer bytes is not too long
pub few-ended : (eol : Eol) (bytes : List ℕ) → IsUtf8 bytes → length bytes < MAX_CHARS → length (ended (from_form eol (chars bytes))) ≤ MAX_CHARS
few-ended eol bytes utf8 few = omega (arith, ended-le (from_form eol (chars bytes)), length-from eol (chars bytes), few_chars bytes utf8, few)

-- how long the text is, by its last character
pub length-ended : (s : Survey) (eol : Eol) (cs : List ℕ) → s.before ≡ 10 → IsSurvey s cs → length (from_form eol cs) ≡ length (ended (from_form eol cs))
length-ended s eol cs last known =
    let ends : ends_in_newline (from_form eol cs) ≡ true = ends-last (from_form eol cs) ∙ ap (λ n. n == 10) (last-from eol cs ∙ sym known.before ∙ last) in
    sym (ap length (ended-text (from_form eol cs) ends))

pub length-unended : (s : Survey) (eol : Eol) (cs : List ℕ) (n : ℕ) → s.before ≢ 10 → IsSurvey s cs → length cs + 1 < 2 ^ 64 → n ≡ length (from_form eol cs) → min (n + 1) (2 ^ 64 - 1) ≡ length (ended (from_form eol cs))
length-unended s eol cs n last known small count =
    let ends : ends_in_newline (from_form eol cs) ≡ false = ends-last (from_form eol cs) ∙ ap (λ n. n == 10) (last-from eol cs ∙ sym known.before) ∙ test-false s.before 10 last in
    omega (arith, count, length-from eol cs, ap length (ended-other (from_form eol cs) ends), length-append (from_form eol cs) (10 ∷ []))
