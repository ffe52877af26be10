-- Lemmas on the lines of a buffer and the flat text.
use Rattle.std.proofs.Common.{◌≡◌, ◌≢◌, ℕ, zero, suc, ◌+◌, ◌-◌, ◌<◌, ◌≤◌, List, [], ◌∷◌, ◌++◌, length, take, drop, get_or, set, All, refl, sym, ap, subst, ◌∙◌, arith, ap₂, append_assoc, append-nil, length-append, length-take-le, length-drop, get_or-take, get_or-drop, drop_at, inl, inr, ◌⊎◌}
use Rattle.std.proofs.Math.Seq.{take-append-add}
use Rattle.std.proofs.lemmas.List.{get_or_append_left, get_or-append_right, set_split, take-append-le, drop-append-le, drop-drop, drop_all}
use Rattle.std.proofs.lemmas.List.Elements.{All-head, All-tail, All-append, All-take, All-drop, All-cons, All-nil}
use Rattle.text_model.specs.declared.TheConstants.{MAX_CHARS}
use Rattle.text_model.specs.Texts.{IsText, IsStored, IsLine, IsPlace, lines_of, joined, offset}
use Rattle.text_model.specs.declared.coords.Coord.{Coord}
use Rattle.text_model.proofs.PlaceLemmas.{All-lines_of, joined-split, offset-below, some_lines, three_ways}
use Rattle.text_model.proofs.LineLemmas.{joined-append, joined-lines_of, lines_of-joined, lines_of-line}
use Rattle.text_model.proofs.ChangeLemmas.{IsText-append, IsText-drop, length-changed_insertion}
use Rattle.line_buffer.specs.Buffer.{IsBuffer}

-- lines have characters, so there are no more lines than characters
pub length-lines-le : (ls : List (List ℕ)) → All IsLine ls → length ls ≤ length (joined ls)
length-lines-le [] h = omega arith
length-lines-le (l ∷ ls) h =
    let first : IsLine l = All-head IsLine l ls h in
    omega (arith, length-append l (joined ls), length-lines-le ls (All-tail IsLine l ls h), first.some)

-- the lines of a buffer are lines
pub buffer_lines : (ls : List (List ℕ)) (count : ℕ) → IsBuffer ls count → All IsLine ls
buffer_lines ls count h = let P : List (List ℕ) → Type 0 = All IsLine in subst P h.same (All-lines_of (joined ls) h.stored.is_text)

-- a line is no longer than the text
pub length-line-le : (ls : List (List ℕ)) (n : ℕ) → length (get_or ls n []) ≤ length (joined ls)
length-line-le [] n = omega arith
length-line-le (l ∷ ls) zero = omega (arith, length-append l (joined ls))
length-line-le (l ∷ ls) (suc n) = omega (arith, length-append l (joined ls), length-line-le ls n)

-- there is a line
pub some_buffer_lines : (ls : List (List ℕ)) (count : ℕ) → IsBuffer ls count → 0 < length ls
some_buffer_lines [] count h = absurd (omega (arith, h.stored.is_text.some))
some_buffer_lines (l ∷ ls) count h = omega arith

pub few_buffer_lines : (ls : List (List ℕ)) (count : ℕ) → IsBuffer ls count → length ls ≤ MAX_CHARS
few_buffer_lines ls count h = omega (arith, length-lines-le ls (buffer_lines ls count h), h.stored.small)

pub short_buffer_line : (ls : List (List ℕ)) (count n : ℕ) → IsBuffer ls count → length (get_or ls n []) ≤ MAX_CHARS
short_buffer_line ls count n h = omega (arith, length-line-le ls n, h.stored.small)

-- lines that are the lines of a text within the limit
pub lines_of_buffer : (text : List ℕ) (ls : List (List ℕ)) (count : ℕ) → IsStored text → ls ≡ lines_of text → count ≡ length text → IsBuffer ls count
lines_of_buffer text ls count h e n =
    let flat : joined ls ≡ text = ap joined e ∙ joined-lines_of text in
    record { stored = subst IsStored (sym flat) h; same = ap lines_of flat ∙ sym e; counted = n ∙ ap length (sym flat) }

-- lines whose text is one within the limit
pub is_buffer : (ls : List (List ℕ)) (count : ℕ) → All IsLine ls → 0 < length ls → length (joined ls) ≤ MAX_CHARS → count ≡ length (joined ls) → IsBuffer ls count
is_buffer ls count all some small n = record {
  stored = record { is_text = joined_is_text ls all some; small = small };
  same = lines_of-joined ls all;
  counted = n;
}
  where
    line_is_text : (l : List ℕ) → IsLine l → IsText l
    line_is_text l h = record { some = h.some; ended = h.ended }

    joined_is_text : (ls : List (List ℕ)) → All IsLine ls → 0 < length ls → IsText (joined ls)
    joined_is_text [] all some = absurd (omega arith)
    joined_is_text (l ∷ []) all some = subst IsText (sym (append-nil l)) (line_is_text l (All-head IsLine l [] all))
    joined_is_text (l ∷ k ∷ ks) all some = IsText-append l (joined (k ∷ ks)) (joined_is_text (k ∷ ks) (All-tail IsLine l (k ∷ ks) all) (omega arith))

-- a line with characters put in that are no newlines
pub longer_line : (l : List ℕ) (c : ℕ) (s : List ℕ) → IsLine l → c < length l → All (λ x. x ≢ 10) s → IsLine (take c l ++ (s ++ drop c l))
longer_line l c s h lt none =
    let short : c ≤ length l = omega arith in
    let front : length (take c l) ≡ c = length-take-le c l short in
    let back : length (drop c l) ≡ length l - c = length-drop c l in
    let rest : length (s ++ drop c l) ≡ length s + (length l - c) = length-append s (drop c l) ∙ ap (λ n. length s + n) back in
    let whole : length (take c l ++ (s ++ drop c l)) ≡ c + (length s + (length l - c)) = length-append (take c l) (s ++ drop c l) ∙ ap₂ (λ m n. m + n) front rest in
    let text : IsText (drop c l) = IsText-drop l c (record { some = h.some; ended = h.ended }) lt in
    let all : IsText (take c l ++ (s ++ drop c l)) = IsText-append (take c l) (s ++ drop c l) (IsText-append s (drop c l) text) in
    record {
      some = all.some;
      ended = all.ended;
      only = λ k lt' e. not_there k (omega arith) (three_ways k c) (three_ways (k - c) (length s)) e;
    }
  where
    behind : (k : ℕ) → k + 1 < length s + length l → c ≤ k → get_or (s ++ drop c l) (k - c) 0 ≡ 10 → (k - c < length s) ⊎ ((k - c ≡ length s) ⊎ (length s < k - c)) → ⊥
    behind k lt' from e (inl in') = none (k - c) 0 in' (sym (get_or_append_left s (drop c l) 0 (k - c) in') ∙ e)
    behind k lt' from e (inr w) =
        let past : length s ≤ k - c = elim w [ inl same ↦ omega arith | inr more ↦ omega arith ] in
        h.only (c + (k - c - length s)) (omega arith) (sym (get_or-drop c l (k - c - length s) 0) ∙ sym (get_or-append_right s (drop c l) (length s) (k - c) 0 refl past) ∙ e)

    not_there : (k : ℕ) → k + 1 < length s + length l → (k < c) ⊎ ((k ≡ c) ⊎ (c < k)) → (k - c < length s) ⊎ ((k - c ≡ length s) ⊎ (length s < k - c)) → get_or (take c l ++ (s ++ drop c l)) k 0 ≢ 10
    not_there k lt' (inl before) w e =
        let front : length (take c l) ≡ c = length-take-le c l (omega arith) in
        let inside : k < length (take c l) = omega arith in
        h.only k (omega arith) (sym (get_or-take c l k 0 before) ∙ sym (get_or_append_left (take c l) (s ++ drop c l) 0 k inside) ∙ e)
    not_there k lt' (inr v) w e =
        let from : c ≤ k = elim v [ inl same ↦ omega arith | inr more ↦ omega arith ] in
        let front : length (take c l) ≡ c = length-take-le c l (omega arith) in
        behind k lt' from (sym (get_or-append_right (take c l) (s ++ drop c l) c k 0 front from) ∙ e) w

-- one line replaced by lines that hold it with characters put in
pub joined-replaced : (ls fresh : List (List ℕ)) (n c : ℕ) (s : List ℕ) → n < length ls → c ≤ length (get_or ls n []) → joined fresh ≡ take c (get_or ls n []) ++ (s ++ drop c (get_or ls n [])) → joined (take n ls ++ (fresh ++ drop (n + 1) ls)) ≡ take (length (joined (take n ls)) + c) (joined ls) ++ (s ++ drop (length (joined (take n ls)) + c) (joined ls))
joined-replaced ls fresh n c s h k e =
    let front : List ℕ = joined (take n ls) in
    let line : List ℕ = get_or ls n [] in
    let rest : List ℕ = joined (drop (n + 1) ls) in
    let before : take (length front + c) (joined ls) ≡ front ++ take c line =
    ap (take (length front + c)) (joined-split ls n h) ∙ take-append-add front (line ++ rest) c ∙ ap (λ t. front ++ t) (take-append-le c line rest k) in
    let behind : drop (length front + c) (joined ls) ≡ drop c line ++ rest =
    ap (drop (length front + c)) (joined-split ls n h) ∙ sym (drop-drop c (length front) (front ++ (line ++ rest))) ∙ ap (drop c) (drop_at front (line ++ rest) (length front) refl) ∙ drop-append-le c line rest k in
    let new : joined (take n ls ++ (fresh ++ drop (n + 1) ls)) ≡ front ++ ((take c line ++ (s ++ drop c line)) ++ rest) =
    joined-append (take n ls) (fresh ++ drop (n + 1) ls) ∙ ap (λ t. front ++ t) (joined-append fresh (drop (n + 1) ls) ∙ ap (λ t. t ++ rest) e) in
    new ∙ regrouped front (take c line) s (drop c line) rest ∙ ap₂ (λ x y. x ++ (s ++ y)) (sym before) (sym behind)
  where
    regrouped : (a b c d e : List ℕ) → a ++ ((b ++ (c ++ d)) ++ e) ≡ (a ++ b) ++ (c ++ (d ++ e))
    regrouped a b c d e = simp append_assoc

-- the lines of the text that is seen
pub seen_lines : (text : List ℕ) (ls : List (List ℕ)) (count : ℕ) → IsBuffer ls count → joined ls ≡ text → lines_of text ≡ ls
seen_lines text ls count h v = ap lines_of (sym v) ∙ h.same

-- one line replaced, as the text sees it
pub put_text : (text : List ℕ) (ls fresh new : List (List ℕ)) (count : ℕ) (at : Coord) (s : List ℕ) → IsBuffer ls count → joined ls ≡ text → IsPlace text at → joined fresh ≡ take at.column (get_or ls at.line []) ++ (s ++ drop at.column (get_or ls at.line [])) → new ≡ take at.line ls ++ (fresh ++ drop (at.line + 1) ls) → joined new ≡ take (offset text at) text ++ (s ++ drop (offset text at) text)
put_text text ls fresh new count at s h v place f n =
    let same : lines_of text ≡ ls = seen_lines text ls count h v in
    let start : offset text at ≡ length (joined (take at.line ls)) + at.column = ap (λ l. length (joined (take at.line l)) + at.column) same in
    let inside : at.line < length ls = omega (arith, ap length same, place.on_line) in
    let short : at.column ≤ length (get_or ls at.line []) = omega (arith, ap (λ l. length (get_or l at.line [])) same, place.in_line) in
    ap joined n ∙ joined-replaced ls fresh at.line at.column s inside short f ∙ ap₂ (λ t o. take o t ++ (s ++ drop o t)) v (sym start)

-- and the lines are a buffer's again
pub put_buffer : (text : List ℕ) (ls fresh new : List (List ℕ)) (count : ℕ) (at : Coord) (s : List ℕ) → IsBuffer ls count → joined ls ≡ text → IsPlace text at → joined fresh ≡ take at.column (get_or ls at.line []) ++ (s ++ drop at.column (get_or ls at.line [])) → new ≡ take at.line ls ++ (fresh ++ drop (at.line + 1) ls) → All IsLine fresh → 0 < length fresh → length text + length s ≤ MAX_CHARS → IsBuffer new (count + length s)
put_buffer text ls fresh new count at s h v place f n all some room =
    let whole : joined new ≡ take (offset text at) text ++ (s ++ drop (offset text at) text) = put_text text ls fresh new count at s h v place f n in
    let long : length (joined new) ≡ length text + length s = ap length whole ∙ length-changed_insertion text (offset text at) s (omega (arith, offset-below text at place)) in
    let old : All IsLine ls = buffer_lines ls count h in
    let P : List (List ℕ) → Type 0 = All IsLine in
    is_buffer new (count + length s)
    (subst P (sym n) (All-append IsLine (take at.line ls) (fresh ++ drop (at.line + 1) ls) (All-take IsLine at.line ls old) (All-append IsLine fresh (drop (at.line + 1) ls) all (All-drop IsLine (at.line + 1) ls old))))
    (omega (arith, ap length n, length-append (take at.line ls) (fresh ++ drop (at.line + 1) ls), length-append fresh (drop (at.line + 1) ls)))
    (omega (arith, long, room))
    (omega (arith, long, h.counted, ap length v))

-- lines of characters put in at the end
pub end_text : (text : List ℕ) (ls new : List (List ℕ)) (s : List ℕ) → joined ls ≡ text → new ≡ ls ++ lines_of s → joined new ≡ text ++ s
end_text text ls new s v n = ap joined n ∙ joined-append ls (lines_of s) ∙ ap₂ (λ x y. x ++ y) v (joined-lines_of s)

pub end_buffer : (text : List ℕ) (ls new : List (List ℕ)) (count : ℕ) (s : List ℕ) → IsBuffer ls count → joined ls ≡ text → new ≡ ls ++ lines_of s → IsText s → length text + length s ≤ MAX_CHARS → IsBuffer new (count + length s)
end_buffer text ls new count s h v n t room =
    let long : length (joined new) ≡ length text + length s = ap length (end_text text ls new s v n) ∙ length-append text s in
    let P : List (List ℕ) → Type 0 = All IsLine in
    is_buffer new (count + length s)
    (subst P (sym n) (All-append IsLine ls (lines_of s) (buffer_lines ls count h) (All-lines_of s t)))
    (omega (arith, ap length n, length-append ls (lines_of s), some_buffer_lines ls count h))
    (omega (arith, long, room))
    (omega (arith, long, h.counted, ap length v))

-- one line set is one line replaced
pub set_is_replaced : (ls : List (List ℕ)) (n : ℕ) (line : List ℕ) → n < length ls → set ls n line ≡ take n ls ++ ((line ∷ []) ++ drop (n + 1) ls)
set_is_replaced ls n line h = let up : suc n ≡ n + 1 = omega arith in set_split ls n line h ∙ ap (λ m. take n ls ++ (line ∷ drop m ls)) up

pub one_line : (line : List ℕ) → IsLine line → All IsLine (line ∷ [])
one_line line h = All-cons IsLine line [] h (All-nil IsLine)

-- a line with any characters put in is a text
pub longer_text : (l : List ℕ) (c : ℕ) (s : List ℕ) → IsLine l → c < length l → IsText (take c l ++ (s ++ drop c l))
longer_text l c s h lt = IsText-append (take c l) (s ++ drop c l) (IsText-append s (drop c l) (IsText-drop l c (record { some = h.some; ended = h.ended }) lt))

-- the begin of a line before the end of another
pub joined_is_line : (l m : List ℕ) (a b : ℕ) → IsLine l → IsLine m → a < length l → b < length m → IsLine (take a l ++ drop b m)
joined_is_line l m a b h k la lb =
    let front : length (take a l) ≡ a = length-take-le a l (omega arith) in
    let long : length (take a l ++ drop b m) ≡ a + (length m - b) = omega (arith, length-append (take a l) (drop b m), length-drop b m) in
    let text : IsText (take a l ++ drop b m) = IsText-append (take a l) (drop b m) (IsText-drop m b (record { some = k.some; ended = k.ended }) lb) in
    record {
      some = text.some;
      ended = text.ended;
      only = λ i lt e. other i (omega arith) (three_ways i a) e;
    }
  where
    other : (i : ℕ) → i + 1 < a + (length m - b) → (i < a) ⊎ ((i ≡ a) ⊎ (a < i)) → get_or (take a l ++ drop b m) i 0 ≢ 10
    other i lt (inl before) e =
        let front : length (take a l) ≡ a = length-take-le a l (omega arith) in
        let inside : i < length (take a l) = omega arith in
        h.only i (omega arith) (sym (get_or-take a l i 0 before) ∙ sym (get_or_append_left (take a l) (drop b m) 0 i inside) ∙ e)
    other i lt (inr w) e =
        let front : length (take a l) ≡ a = length-take-le a l (omega arith) in
        let from : a ≤ i = elim w [ inl same ↦ omega arith | inr more ↦ omega arith ] in
        k.only (b + (i - a)) (omega arith) (sym (get_or-drop b m (i - a) 0) ∙ sym (get_or-append_right (take a l) (drop b m) a i 0 front from) ∙ e)

-- the end of a line is a line
pub end_is_line : (l : List ℕ) (c : ℕ) → IsLine l → c < length l → IsLine (drop c l)
end_is_line l c h lt = joined_is_line l l 0 c h h h.some lt

-- a line's begin before a text makes one line with the first of its lines
pub lines_of-longer : (l t f : List ℕ) (rest : List (List ℕ)) (c : ℕ) → IsLine l → c < length l → IsText t → lines_of t ≡ f ∷ rest → lines_of (take c l ++ t) ≡ (take c l ++ f) ∷ rest
lines_of-longer l t f rest c h lt k e =
    let P : List (List ℕ) → Type 0 = All IsLine in
    let all : All IsLine (f ∷ rest) = subst P e (All-lines_of t k) in
    let first : IsLine f = All-head IsLine f rest all in
    let text : t ≡ f ++ joined rest = sym (joined-lines_of t) ∙ ap joined e in
    ap (λ x. lines_of (take c l ++ x)) text ∙ ap lines_of (sym (append_assoc (take c l) f (joined rest))) ∙ lines_of-line (take c l ++ f) (joined rest) (joined_is_line l f c 0 h first lt first.some) ∙ ap (λ x. (take c l ++ f) ∷ x) (lines_of-joined rest (All-tail IsLine f rest all))

-- a list of its first item and the others
pub first_and_rest : {X : Type 0} (xs rest : List X) (x : X) → 0 < length xs → x ≡ get_or xs 0 x → rest ≡ take 0 xs ++ drop 1 xs → xs ≡ x ∷ rest
first_and_rest [] rest x h e r = absurd (omega arith)
first_and_rest (y ∷ ys) rest x h e r = ap₂ (λ v w. v ∷ w) (sym e) (sym r)

-- the last line with characters put in: it gets the first of the new lines, and the others go behind it
pub split_last : (front mid new fresh rest : List (List ℕ)) (n c : ℕ) (s first : List ℕ) → n + 1 ≡ length front → IsLine (get_or front n []) → c < length (get_or front n []) → fresh ≡ lines_of (s ++ drop c (get_or front n [])) → first ≡ get_or fresh 0 first → rest ≡ take 0 fresh ++ drop 1 fresh → mid ≡ set front n (take c (get_or front n []) ++ first) → new ≡ mid ++ rest → new ≡ take n front ++ lines_of (take c (get_or front n []) ++ (s ++ drop c (get_or front n [])))
split_last front mid new fresh rest n c s first l h lt f e r m w =
    let line : List ℕ = get_or front n [] in
    let text : IsText (s ++ drop c line) = IsText-append s (drop c line) (IsText-drop line c (record { some = h.some; ended = h.ended }) lt) in
    let some : 0 < length fresh = omega (arith, ap length f, some_lines (s ++ drop c line) text) in
    let parts : fresh ≡ first ∷ rest = first_and_rest fresh rest first some e r in
    let lines : lines_of (take c line ++ (s ++ drop c line)) ≡ (take c line ++ first) ∷ rest = lines_of-longer line (s ++ drop c line) first rest c h lt text (sym f ∙ parts) in
    let none : drop (suc n) front ≡ [] = drop_all (suc n) front (omega arith) in
    w ∙ ap (λ t. t ++ rest) (m ∙ set_split front n (take c line ++ first) (omega arith) ∙ ap (λ t. take n front ++ ((take c line ++ first) ∷ t)) none) ∙ append_assoc (take n front) ((take c line ++ first) ∷ []) rest ∙ ap (λ t. take n front ++ t) (sym lines)
