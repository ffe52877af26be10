-- Bytes that are added one piece after another.
use Rattle.std.proofs.Common.{◌≡◌, ℕ, zero, suc, ◌+◌, ◌<◌, ◌≤◌, ◌==◌, eqb, List, [], ◌∷◌, ◌++◌, Bool, true, false, cond, length, take, drop, get_or, map, refl, sym, ap, ◌∙◌, append_assoc, append-nil, length-append, length-take-le, arith}
use Rattle.std.specs.Prelude.{filter}
use Rattle.std.proofs.lemmas.List.{take_more, take-append-drop}
use Rattle.std.proofs.lemmas.List.Elements.{filter-append}
use Rattle.std.proofs.lemmas.Bool.{ne_eqb}
use Rattle.json_writing.specs.Grows.{Grows}
use Rattle.json_writing.specs.JsonText.{escaped, all_escaped, after_commas, separated, comma_unless}

-- what grew and grew again has grown
pub grows_then : (a b c : List ℕ) → Grows a b → Grows b c → Grows a c
grows_then a b c g h = record { added = g.added ++ h.added; is = h.is ∙ ap (λ x. x ++ h.added) g.is ∙ append_assoc a g.added h.added }

pub ruleset writing = (grows_then, append_assoc)

-- two, three and four pieces
pub written_two : (old s1 s2 a b : List ℕ) → s1 ≡ old ++ a → s2 ≡ s1 ++ b → s2 ≡ old ++ (a ++ b)
written_two old s1 s2 a b p q = q ∙ ap (λ s. s ++ b) p ∙ append_assoc old a b

pub written_three : (old s1 s2 s3 a b c : List ℕ) → s1 ≡ old ++ a → s2 ≡ s1 ++ b → s3 ≡ s2 ++ c → s3 ≡ old ++ (a ++ (b ++ c))
written_three old s1 s2 s3 a b c p q r = rw (r, q, p) (simp append_assoc)

pub written_four : (old s1 s2 s3 s4 a b c d : List ℕ) → s1 ≡ old ++ a → s2 ≡ s1 ++ b → s3 ≡ s2 ++ c → s4 ≡ s3 ++ d → s4 ≡ old ++ (a ++ (b ++ (c ++ d)))
written_four old s1 s2 s3 s4 a b c d p q r s = rw (s, r, q, p) (simp append_assoc)

-- a comma, if any, and one more part
pub written_part : (old s0 s1 s2 before after comma part : List ℕ) → s0 ≡ old ++ before → s1 ≡ s0 ++ comma → s2 ≡ s1 ++ part → after ≡ before ++ (comma ++ part) → s2 ≡ old ++ after
written_part old s0 s1 s2 before after comma part p q r e = rw (r, q, p, e) (simp append_assoc)

pub all_escaped-append : (xs ys : List ℕ) → all_escaped (xs ++ ys) ≡ all_escaped xs ++ all_escaped ys
all_escaped-append [] ys = refl
all_escaped-append (x ∷ xs) ys = ap (λ b. escaped x ++ b) (all_escaped-append xs ys) ∙ sym (append_assoc (escaped x) (all_escaped xs) (all_escaped ys))

-- a piece is written, and the others are left
pub written_parts : (all out new text piece rest : List ℕ) (n : ℕ) → piece ≡ take n text → rest ≡ drop n text → out ++ all_escaped text ≡ all → new ≡ out ++ all_escaped piece → new ++ all_escaped rest ≡ all
written_parts all out new text piece rest n f r h w =
    let whole : piece ++ rest ≡ text = ap (λ x. x ++ rest) f ∙ ap (λ x. take n text ++ x) r ∙ take-append-drop n text in
    ap (λ b. b ++ all_escaped rest) w ∙ append_assoc out (all_escaped piece) (all_escaped rest)
    ∙ ap (λ b. out ++ b) (sym (all_escaped-append piece rest) ∙ ap all_escaped whole) ∙ h

-- one more character
pub all_escaped-more : (xs : List ℕ) (i x : ℕ) → i < length xs → x ≡ get_or xs i x → all_escaped (take (i + 1) xs) ≡ all_escaped (take i xs) ++ escaped x
all_escaped-more xs i x h e =
    ap all_escaped (take_more xs i x h ∙ ap (λ y. take i xs ++ y ∷ []) (sym e)) ∙ all_escaped-append (take i xs) (x ∷ []) ∙ ap (λ b. all_escaped (take i xs) ++ b) (append-nil (escaped x))

after_commas-append : (xs ys : List (List ℕ)) → after_commas (xs ++ ys) ≡ after_commas xs ++ after_commas ys
after_commas-append [] ys = refl
after_commas-append (x ∷ xs) ys = ap (λ b. 44 ∷ x ++ b) (after_commas-append xs ys) ∙ ap (λ b. 44 ∷ b) (sym (append_assoc x (after_commas xs) (after_commas ys)))

-- one more part
separated-more : (parts : List (List ℕ)) (part : List ℕ) → separated (parts ++ part ∷ []) ≡ separated parts ++ (comma_unless (length parts == 0) ++ part)
separated-more [] part = append-nil part
separated-more (p ∷ ps) part =
    let later : (length (p ∷ ps) == 0) ≡ false = ne_eqb (length (p ∷ ps)) 0 (λ e. omega arith) in
    rw later (ap (λ b. p ++ b) (after_commas-append ps (part ∷ []) ∙ ap (λ b. after_commas ps ++ (44 ∷ b)) (append-nil part)) ∙ sym (append_assoc p (after_commas ps) (44 ∷ part)))

map-append : {A B : Type 0} (f : A → B) (xs ys : List A) → map f (xs ++ ys) ≡ map f xs ++ map f ys
map-append f [] ys = refl
map-append f (x ∷ xs) ys = ap (λ b. f x ∷ b) (map-append f xs ys)

length-map : {A B : Type 0} (f : A → B) (xs : List A) → length (map f xs) ≡ length xs
length-map f [] = refl
length-map f (x ∷ xs) = ap suc (length-map f xs)

-- the parts of one more element of a list
pub rows-more : {A : Type 0} (f : A → List ℕ) (xs : List A) (i : ℕ) (x : A) → i < length xs → x ≡ get_or xs i x → separated (map f (take (i + 1) xs)) ≡ separated (map f (take i xs)) ++ (comma_unless (i == 0) ++ f x)
rows-more {A} f xs i x h e =
    let count : length (map f (take i xs)) ≡ i = length-map f (take i xs) ∙ length-take-le i xs (omega arith) in
    ap (λ ys. separated (map f ys)) (take_more xs i x h ∙ ap (λ y. take i xs ++ y ∷ []) (sym e))
    ∙ ap separated (map-append f (take i xs) (x ∷ []))
    ∙ separated-more (map f (take i xs)) (f x)
    ∙ ap (λ n. separated (map f (take i xs)) ++ (comma_unless (n == 0) ++ f x)) count

-- an element that is taken by a test, and one that isn't
filter-one : {A : Type 0} (p : A → Bool) (x : A) (b : Bool) → p x ≡ b → filter p (x ∷ []) ≡ cond b (x ∷ []) []
filter-one p x b h = ap (λ t. cond t (x ∷ []) []) h

filter-more : {A : Type 0} (p : A → Bool) (xs : List A) (i : ℕ) (d : A) (b : Bool) → i < length xs → p (get_or xs i d) ≡ b → filter p (take (i + 1) xs) ≡ filter p (take i xs) ++ cond b (get_or xs i d ∷ []) []
filter-more p xs i d b h t =
    ap (filter p) (take_more xs i d h) ∙ filter-append p (take i xs) (get_or xs i d ∷ []) ∙ ap (λ ys. filter p (take i xs) ++ ys) (filter-one p (get_or xs i d) b t)

pub chosen-more : {A : Type 0} (f : A → List ℕ) (p : A → Bool) (xs : List A) (i : ℕ) (d : A) → i < length xs → p (get_or xs i d) ≡ true → separated (map f (filter p (take (i + 1) xs))) ≡ separated (map f (filter p (take i xs))) ++ (comma_unless (length (filter p (take i xs)) == 0) ++ f (get_or xs i d))
chosen-more f p xs i d h t =
    ap (λ ys. separated (map f ys)) (filter-more p xs i d true h t)
    ∙ ap separated (map-append f (filter p (take i xs)) (get_or xs i d ∷ []))
    ∙ separated-more (map f (filter p (take i xs))) (f (get_or xs i d))
    ∙ ap (λ n. separated (map f (filter p (take i xs))) ++ (comma_unless (n == 0) ++ f (get_or xs i d))) (length-map f (filter p (take i xs)))

pub chosen-count : {A : Type 0} (p : A → Bool) (xs : List A) (i : ℕ) (d : A) → i < length xs → p (get_or xs i d) ≡ true → false ≡ (length (filter p (take (i + 1) xs)) == 0)
chosen-count p xs i d h t =
    let more : length (filter p (take (i + 1) xs)) ≡ length (filter p (take i xs)) + 1 = ap length (filter-more p xs i d true h t) ∙ length-append (filter p (take i xs)) (get_or xs i d ∷ []) in
    sym (ne_eqb (length (filter p (take (i + 1) xs))) 0 (λ z. omega arith))

pub passed-over : {A : Type 0} (p : A → Bool) (xs : List A) (i : ℕ) (d : A) → i < length xs → p (get_or xs i d) ≡ false → filter p (take (i + 1) xs) ≡ filter p (take i xs)
passed-over p xs i d h t = filter-more p xs i d false h t ∙ append-nil (filter p (take i xs))
