-- The matches that are found, one match on.
use Rattle.std.proofs.Common.{◌≡◌, ℕ, Bool, true, false, List, [], ◌∷◌, map, Option, Some, None, refl, ap, ap₂, sym, ◌∙◌}
use Rattle.std.specs.Prelude.{if◌then◌else◌}
use Rattle.std.specs.Option.{option_or}
use Rattle.regex_ports.specs.declared.pattern.Span.{Span}
use Rattle.regex_ports.specs.Matching.{span_of}
use Rattle.regex_ports.specs.Seeking.{first_span_where, last_where}

-- what is left to be found, when something was found first
abbrev pub first_left : (Span → Bool) → (Span → Bool) → Option Span → List Span → Option Span
first_left wanted other first ss = option_or (first_span_where wanted ss) (option_or first (first_span_where other ss))

first-or : (b : Bool) (s : Span) (first rest : Option Span) → option_or first (if b then Some s else rest) ≡ option_or (option_or first (if b then Some s else None)) rest
first-or true s None rest = refl
first-or true s (Some t) rest = refl
first-or false s None rest = refl
first-or false s (Some t) rest = refl

pub first-passed : (wanted other : Span → Bool) (first now : Option Span) (s : Span) (ss : List Span) → wanted s ≡ false → now ≡ option_or first (if other s then Some s else None) → first_left wanted other now ss ≡ first_left wanted other first (s ∷ ss)
first-passed wanted other first now s ss passed is =
    ap (λ o. option_or (first_span_where wanted ss) (option_or o (first_span_where other ss))) is
    ∙ ap (λ o. option_or (first_span_where wanted ss) o) (sym (first-or (other s) s first (first_span_where other ss)))
    ∙ ap (λ (b : Bool). option_or (if b then Some s else first_span_where wanted ss) (option_or first (first_span_where other (s ∷ ss)))) (sym passed)

pub first-here : (wanted other : Span → Bool) (first : Option Span) (s : Span) (ss : List Span) → wanted s ≡ true → Some s ≡ first_left wanted other first (s ∷ ss)
first-here wanted other first s ss here = ap (λ (b : Bool). option_or (if b then Some s else first_span_where wanted ss) (option_or first (first_span_where other (s ∷ ss)))) (sym here)

pub first-none : (first : Option Span) → first ≡ option_or first None
first-none None = refl
first-none (Some s) = refl

-- what is found last of those that are left, or what was found before
abbrev pub last_left : (Span → Bool) → Option Span → List Span → Option Span
last_left test last ss = option_or (last_where test ss) last

last-or : (b : Bool) (s : Span) (found last : Option Span) → option_or found (if b then Some s else last) ≡ option_or (option_or found (if b then Some s else None)) last
last-or true s None last = refl
last-or true s (Some t) last = refl
last-or false s None last = refl
last-or false s (Some t) last = refl

pub last-passed : (test : Span → Bool) (last now : Option Span) (s : Span) (ss : List Span) → now ≡ (if test s then Some s else last) → last_left test now ss ≡ last_left test last (s ∷ ss)
last-passed test last now s ss is = ap (option_or (last_where test ss)) is ∙ last-or (test s) s (last_where test ss) last

-- a span by its two ends
pub span-by-ends : (a b x y : ℕ) → a ≡ x → b ≡ y → (let s : Span = record { start = a; end = b } in s) ≡ span_of (x, y)
span-by-ends a b x y h k = ap₂ (λ m n. let s : Span = record { start = m; end = n } in s) h k
