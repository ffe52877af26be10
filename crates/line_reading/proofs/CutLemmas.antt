-- How the first newline cuts bytes, and what lines there are in bytes that were cut.
use Rattle.std.proofs.Common.{◌≡◌, ℕ, zero, suc, ◌+◌, ◌<◌, ◌≤◌, ◌==◌, ◌||◌, get_or, Bool, true, false, not, List, [], ◌∷◌, ◌++◌, length, take, drop, None, Some, refl, sym, ap, ◌∙◌, arith, append_assoc, append-nil, take-append-drop, add-one, drop-cons, cond}
use Rattle.std.specs.Prelude.{nat_lt}
use Rattle.std.specs.List.{AllByRecursion, list_any, position, position_or_len}
use Rattle.std.proofs.lemmas.Bool.{eqb-true, ltb-false}
use Rattle.std.proofs.lemmas.List.Folds.{list_any-append}
use Rattle.std.proofs.lemmas.List.Quantifiers.{position-Some}
use Rattle.session_turns.specs.Lines.{whole_lines, last_part, with_newlines, HasNoNewline}

or-left : (x y : Bool) → (x || y) ≡ false → x ≡ false
or-left true y e = e
or-left false y e = refl

or-right : (x y : Bool) → (x || y) ≡ false → y ≡ false
or-right true y e = let no : true ≡ false = e in cc
or-right false y e = e

both-none : (x y : Bool) → x ≡ false → y ≡ false → (x || y) ≡ false
both-none x y d e = rw (d, e) refl

-- bytes without a newline, one after another and apart
pub none-append : (a b : List ℕ) → HasNoNewline a → HasNoNewline b → HasNoNewline (a ++ b)
none-append a b h k = list_any-append (λ x. x == 10) a b ∙ both-none (list_any (λ x. x == 10) a) (list_any (λ x. x == 10) b) h k

pub none-front : (a b : List ℕ) → HasNoNewline (a ++ b) → HasNoNewline a
none-front a b h = or-left (list_any (λ x. x == 10) a) (list_any (λ x. x == 10) b) (sym (list_any-append (λ x. x == 10) a b) ∙ h)

none-below : (xs : List ℕ) (n : ℕ) → ((k : ℕ) → k < n → (get_or xs k 0 == 10) ≡ false) → HasNoNewline (take n xs)
none-below xs zero h = refl
none-below [] (suc n) h = refl
none-below (x ∷ xs) (suc n) h =
    both-none (x == 10) (list_any (λ y. y == 10) (take n xs)) (h 0 (omega arith)) (none-below xs n (λ k lt. h (suc k) (omega (arith, lt))))

-- before the first newline there is none
pub none-before : (xs : List ℕ) (n : ℕ) → Some n ≡ position (λ b. b == 10) xs → HasNoNewline (take n xs)
none-before xs n e = none-below xs n (position-Some (λ b. b == 10) xs n 0 (sym e)).2

-- the bytes before the first newline, it, and those behind it
pub cut-first : (xs : List ℕ) (n : ℕ) → Some n ≡ position (λ b. b == 10) xs → xs ≡ take n xs ++ 10 ∷ drop (n + 1) xs
cut-first xs n e =
    let at = position-Some (λ b. b == 10) xs n 0 (sym e) in
    let next : drop n xs ≡ get_or xs n 0 ∷ drop (suc n) xs = drop-cons xs n 0 at.0 in
    sym (take-append-drop n xs) ∙ ap (λ r. take n xs ++ r) (next ∙ ap (λ b. b ∷ drop (suc n) xs) (eqb-true (get_or xs n 0) 10 at.1) ∙ ap (λ m. 10 ∷ drop m xs) (sym (add-one n)))

none-next : (t : Bool) (x : ℕ) (xs : List ℕ) → (x == 10) ≡ t → (length xs ≤ position_or_len (λ b. b == 10) xs → HasNoNewline xs) → length xs + 1 ≤ cond (not t) (1 + position_or_len (λ b. b == 10) xs) 0 → HasNoNewline (x ∷ xs)
none-next true x xs e f le = absurd (omega (arith, le))
none-next false x xs e f le = both-none (x == 10) (list_any (λ y. y == 10) xs) e (f (omega (arith, le)))

none-through : (xs : List ℕ) → length xs ≤ position_or_len (λ b. b == 10) xs → HasNoNewline xs
none-through [] le = refl
none-through (x ∷ xs) le = none-next (x == 10) x xs refl (none-through xs) (omega (arith, le))

not-there : (t : Bool) (n : ℕ) → None ≡ cond t (Some n) None → t ≡ false
not-there true n e = cc
not-there false n e = refl

-- where no newline is found there is none
pub none-at_all : (xs : List ℕ) → None ≡ position (λ b. b == 10) xs → HasNoNewline xs
none-at_all xs e = none-through xs (ltb-false (position_or_len (λ b. b == 10) xs) (length xs) (not-there (nat_lt (position_or_len (λ b. b == 10) xs) (length xs)) (position_or_len (λ b. b == 10) xs) e))

lines-first_behind : (part line rest : List ℕ) → HasNoNewline line → whole_lines part (line ++ 10 ∷ rest) ≡ (part ++ line) ∷ whole_lines [] rest
lines-first_behind part [] rest h = ap (λ q. q ∷ whole_lines [] rest) (sym (append-nil part))
lines-first_behind part (x ∷ line) rest h =
    let e : (x == 10) ≡ false = or-left (x == 10) (list_any (λ y. y == 10) line) h in
    let more : HasNoNewline line = or-right (x == 10) (list_any (λ y. y == 10) line) h in
    rw e (lines-first_behind (part ++ x ∷ []) line rest more ∙ ap (λ q. q ∷ whole_lines [] rest) (append_assoc part (x ∷ []) line))

part-first_behind : (part line rest : List ℕ) → HasNoNewline line → last_part part (line ++ 10 ∷ rest) ≡ last_part [] rest
part-first_behind part [] rest h = refl
part-first_behind part (x ∷ line) rest h =
    let e : (x == 10) ≡ false = or-left (x == 10) (list_any (λ y. y == 10) line) h in
    let more : HasNoNewline line = or-right (x == 10) (list_any (λ y. y == 10) line) h in
    rw e (part-first_behind (part ++ x ∷ []) line rest more)

no-lines_behind : (part bytes : List ℕ) → HasNoNewline bytes → whole_lines part bytes ≡ []
no-lines_behind part [] h = refl
no-lines_behind part (x ∷ bytes) h =
    let e : (x == 10) ≡ false = or-left (x == 10) (list_any (λ y. y == 10) bytes) h in
    let more : HasNoNewline bytes = or-right (x == 10) (list_any (λ y. y == 10) bytes) h in
    rw e (no-lines_behind (part ++ x ∷ []) bytes more)

all-part_behind : (part bytes : List ℕ) → HasNoNewline bytes → last_part part bytes ≡ part ++ bytes
all-part_behind part [] h = sym (append-nil part)
all-part_behind part (x ∷ bytes) h =
    let e : (x == 10) ≡ false = or-left (x == 10) (list_any (λ y. y == 10) bytes) h in
    let more : HasNoNewline bytes = or-right (x == 10) (list_any (λ y. y == 10) bytes) h in
    rw e (all-part_behind (part ++ x ∷ []) bytes more ∙ append_assoc part (x ∷ []) bytes)

-- the first line is what stands before the first newline
pub lines-first : (line rest : List ℕ) → HasNoNewline line → whole_lines [] (line ++ 10 ∷ rest) ≡ line ∷ whole_lines [] rest
lines-first line rest h = lines-first_behind [] line rest h

pub part-first : (line rest : List ℕ) → HasNoNewline line → last_part [] (line ++ 10 ∷ rest) ≡ last_part [] rest
part-first line rest h = part-first_behind [] line rest h

-- bytes without a newline complete no line, and are all of the last part
pub no-lines : (bytes : List ℕ) → HasNoNewline bytes → whole_lines [] bytes ≡ []
no-lines bytes h = no-lines_behind [] bytes h

pub all-part : (bytes : List ℕ) → HasNoNewline bytes → last_part [] bytes ≡ bytes
all-part bytes h = all-part_behind [] bytes h

given-next : (line : List ℕ) (given : List (List ℕ)) (rest : List ℕ) → with_newlines (line ∷ given) ++ rest ≡ line ++ 10 ∷ (with_newlines given ++ rest)
given-next line given rest = append_assoc (line ++ 10 ∷ []) (with_newlines given) rest ∙ append_assoc line (10 ∷ []) (with_newlines given ++ rest)

-- lines that were put together with their newlines are cut again as they were
pub lines-given : (given : List (List ℕ)) (rest : List ℕ) → AllByRecursion HasNoNewline given → whole_lines [] (with_newlines given ++ rest) ≡ given ++ whole_lines [] rest
lines-given [] rest h = refl
lines-given (line ∷ given) rest h =
    ap (whole_lines []) (given-next line given rest) ∙ lines-first line (with_newlines given ++ rest) h.0 ∙ ap (λ r. line ∷ r) (lines-given given rest h.1)

pub part-given : (given : List (List ℕ)) (rest : List ℕ) → AllByRecursion HasNoNewline given → last_part [] (with_newlines given ++ rest) ≡ last_part [] rest
part-given [] rest h = refl
part-given (line ∷ given) rest h =
    ap (last_part []) (given-next line given rest) ∙ part-first line (with_newlines given ++ rest) h.0 ∙ part-given given rest h.1

-- one more line behind those that were put together
pub given-pushed : (given : List (List ℕ)) (line rest : List ℕ) → with_newlines (given ++ line ∷ []) ++ rest ≡ with_newlines given ++ (line ++ 10 ∷ rest)
given-pushed [] line rest = given-next line [] rest
given-pushed (first ∷ given) line rest =
    given-next first (given ++ line ∷ []) rest
    ∙ ap (λ q. first ++ 10 ∷ q) (given-pushed given line rest)
    ∙ sym (given-next first given (line ++ 10 ∷ rest))

pub none-pushed : (given : List (List ℕ)) (line : List ℕ) → AllByRecursion HasNoNewline given → HasNoNewline line → AllByRecursion HasNoNewline (given ++ line ∷ [])
none-pushed [] line h k = (k, tt)
none-pushed (first ∷ given) line h k = (h.0, none-pushed given line h.1 k)
