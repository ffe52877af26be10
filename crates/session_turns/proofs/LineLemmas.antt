-- Lines and the newlines between them.
use Rattle.std.proofs.Common.{◌≡◌, ℕ, Bool, true, false, ◌||◌, List, [], ◌∷◌, ◌++◌, refl, sym, ap, ◌∙◌, append_assoc}
use Rattle.std.specs.Prelude.{if◌then◌else◌, ◌==◌}
use Rattle.std.specs.List.{AllByRecursion, list_any}
use Rattle.std.proofs.lemmas.Bool.{eqb-true}
use Rattle.std.proofs.lemmas.List.{append-nil}
use Rattle.session_turns.specs.Lines.{whole_lines, last_part, with_newlines, HasNoNewline}

-- the lines and the rest, where the next byte is a newline or not
all-next : (t : Bool) (b : ℕ) (part bytes : List ℕ) → (b == 10) ≡ t
    → with_newlines (whole_lines [] bytes) ++ last_part [] bytes ≡ bytes
    → with_newlines (whole_lines (part ++ b ∷ []) bytes) ++ last_part (part ++ b ∷ []) bytes ≡ (part ++ b ∷ []) ++ bytes
    → with_newlines (if t then part ∷ whole_lines [] bytes else whole_lines (part ++ b ∷ []) bytes) ++ (if t then last_part [] bytes else last_part (part ++ b ∷ []) bytes) ≡ part ++ b ∷ bytes
all-next true b part bytes e f g =
    append_assoc (part ++ 10 ∷ []) (with_newlines (whole_lines [] bytes)) (last_part [] bytes)
    ∙ ap (λ r. (part ++ 10 ∷ []) ++ r) f
    ∙ append_assoc part (10 ∷ []) bytes
    ∙ ap (λ x. part ++ x ∷ bytes) (sym (eqb-true b 10 e))
all-next false b part bytes e f g = g ∙ append_assoc part (b ∷ []) bytes

-- the lines, each with its newline, and the rest are what came
pub all-lines : (part bytes : List ℕ) → with_newlines (whole_lines part bytes) ++ last_part part bytes ≡ part ++ bytes
all-lines part [] = sym (append-nil part)
all-lines part (b ∷ bytes) = all-next (b == 10) b part bytes refl (all-lines [] bytes) (all-lines (part ++ b ∷ []) bytes)

any-append : (a b : List ℕ) → list_any (λ x. x == 10) (a ++ b) ≡ (list_any (λ x. x == 10) a || list_any (λ x. x == 10) b)
any-append [] b = refl
any-append (x ∷ a) b = assoc (x == 10) (list_any (λ y. y == 10) a) (list_any (λ y. y == 10) b) (list_any (λ y. y == 10) (a ++ b)) (any-append a b)
  where
    assoc : (t u v w : Bool) → w ≡ (u || v) → (t || w) ≡ ((t || u) || v)
    assoc true u v w e = refl
    assoc false u v w e = e

-- a byte that is no newline was added
none-more : (part : List ℕ) (b : ℕ) → HasNoNewline part → (b == 10) ≡ false → HasNoNewline (part ++ b ∷ [])
none-more part b h e = any-append part (b ∷ []) ∙ rw (h, e) refl

lines-next : (t : Bool) (b : ℕ) (part bytes : List ℕ) → (b == 10) ≡ t → HasNoNewline part → AllByRecursion HasNoNewline (whole_lines [] bytes) → (HasNoNewline (part ++ b ∷ []) → AllByRecursion HasNoNewline (whole_lines (part ++ b ∷ []) bytes))
    → AllByRecursion HasNoNewline (if t then part ∷ whole_lines [] bytes else whole_lines (part ++ b ∷ []) bytes)
lines-next true b part bytes e h f g = (h, f)
lines-next false b part bytes e h f g = g (none-more part b h e)

-- no line has a newline
pub lines-have-none : (part bytes : List ℕ) → HasNoNewline part → AllByRecursion HasNoNewline (whole_lines part bytes)
lines-have-none part [] h = tt
lines-have-none part (b ∷ bytes) h = lines-next (b == 10) b part bytes refl h (lines-have-none [] bytes refl) (lines-have-none (part ++ b ∷ []) bytes)

rest-next : (t : Bool) (b : ℕ) (part bytes : List ℕ) → (b == 10) ≡ t → HasNoNewline part → HasNoNewline (last_part [] bytes) → (HasNoNewline (part ++ b ∷ []) → HasNoNewline (last_part (part ++ b ∷ []) bytes))
    → HasNoNewline (if t then last_part [] bytes else last_part (part ++ b ∷ []) bytes)
rest-next true b part bytes e h f g = f
rest-next false b part bytes e h f g = g (none-more part b h e)

-- nor has the rest
pub rest-has-none : (part bytes : List ℕ) → HasNoNewline part → HasNoNewline (last_part part bytes)
rest-has-none part [] h = h
rest-has-none part (b ∷ bytes) h = rest-next (b == 10) b part bytes refl h (rest-has-none [] bytes refl) (rest-has-none (part ++ b ∷ []) bytes)
