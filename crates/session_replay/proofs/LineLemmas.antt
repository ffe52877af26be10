-- What written lines are for a client.
use Rattle.std.specs.Prelude.{if◌then◌else◌, nat_lt}
use Rattle.std.proofs.Common.{◌≡◌, ℕ, ◌<◌, ◌==◌, Bool, true, false, List, [], ◌∷◌, ◌++◌, Option, Some, None, refl, sym, ap, ◌∙◌, arith, append_assoc, append-nil}
use Rattle.std.proofs.lemmas.Bool.Decides.{Decides-eqb}
use Rattle.session_replay.specs.Written.{Written, Blank, Of, Bad, is_blank, read_number, of_number, written, line_for, lines_for}

-- a line that is blank is no client's
pub line_for-blank : (who : ℕ) → line_for who Blank ≡ []
line_for-blank who = refl

-- a line that is bad is no client's
pub line_for-bad : (who : ℕ) → line_for who Bad ≡ []
line_for-bad who = refl

-- a line of a client is that client's
pub line_for-own : (who : ℕ) (line : List ℕ) → line_for who (Of who line) ≡ line ∷ []
line_for-own who line = rw ((Decides-eqb who who).1 refl)

-- a line of a client is no other's
pub line_for-other : (who other : ℕ) (line : List ℕ) → (who ≡ other → ⊥) → line_for who (Of other line) ≡ []
line_for-other who other line differs = by (other == who) refl
  where
    by : (t : Bool) → (other == who) ≡ t → (if t then line ∷ [] else []) ≡ []
    by true e = absurd (differs (sym ((Decides-eqb other who).0 e)))
    by false e = refl

-- the lines for a client are those of some written lines and those of the lines behind
pub lines_for-append : (count who : ℕ) (lines more : List (List ℕ)) → lines_for count who (lines ++ more) ≡ lines_for count who lines ++ lines_for count who more
lines_for-append count who [] more = refl
lines_for-append count who (line ∷ lines) more =
    ap (λ q. line_for who (written count line) ++ q) (lines_for-append count who lines more)
    ∙ sym (append_assoc (line_for who (written count line)) (lines_for count who lines) (lines_for count who more))

-- a written line more is for a client what it is
pub lines_for-line : (count who : ℕ) (lines : List (List ℕ)) (line : List ℕ) → lines_for count who (lines ++ line ∷ []) ≡ lines_for count who lines ++ line_for who (written count line)
lines_for-line count who lines line =
    lines_for-append count who lines (line ∷ []) ∙ ap (λ q. lines_for count who lines ++ q) (append-nil (line_for who (written count line)))
