-- Names that are made of words.
use Rattle.std.proofs.Common.{◌≡◌, ℕ, ◌+◌, ◌<◌, ◌≤◌, min, List, [], ◌∷◌, ◌++◌, length, take, drop, get_or, refl, ap, sym, ◌∙◌, append_assoc, arith}
use Rattle.std.specs.Prelude.{flat_map, chars}
use Rattle.std.proofs.lemmas.List.{take_more, take_all, append-nil}
use Rattle.std.proofs.lemmas.Grind.{flat_map-append}
use Rattle.command_set.specs.Painters.{in_name, behind_bar}

-- one more piece behind others
pub flat-more : {X : Type 0} (f : X → List ℕ) (xs : List X) (i : ℕ) (d : X) → i < length xs → flat_map f (take (i + 1) xs) ≡ flat_map f (take i xs) ++ f (get_or xs i d)
flat-more f xs i d inside =
    ap (flat_map f) (take_more xs i d inside) ∙ flat_map-append f (take i xs) (get_or xs i d ∷ [])
    ∙ ap (λ t. flat_map f (take i xs) ++ t) (append-nil (f (get_or xs i d)))

-- one more character of a word that stands behind a `_`
pub word-more : (old before now items : List ℕ) (i c : ℕ) → i < length items → c ≡ get_or items i c → before ≡ (old ++ 95 ∷ []) ++ flat_map in_name (take i items) → now ≡ before ++ in_name c
    → now ≡ (old ++ 95 ∷ []) ++ flat_map in_name (take (i + 1) items)
word-more old before now items i c inside here e f =
    f ∙ ap (λ xs. xs ++ in_name c) e ∙ append_assoc (old ++ 95 ∷ []) (flat_map in_name (take i items)) (in_name c)
    ∙ ap (λ x. (old ++ 95 ∷ []) ++ (flat_map in_name (take i items) ++ in_name x)) here
    ∙ ap (λ t. (old ++ 95 ∷ []) ++ t) (sym (flat-more in_name items i c inside))

-- and all of them
pub word-all : (old now items word : List ℕ) (i : ℕ) → length items ≤ i → items ≡ chars word → now ≡ (old ++ 95 ∷ []) ++ flat_map in_name (take i items) → now ≡ old ++ behind_bar word
word-all old now items word i past same e =
    e ∙ append_assoc old (95 ∷ []) (flat_map in_name (take i items))
    ∙ ap (λ xs. old ++ 95 ∷ flat_map in_name xs) (take_all i items past ∙ same)

-- without the first character, if there is one
pub without-first : (xs : List ℕ) → drop (min (length xs) 1) xs ≡ drop 1 xs
without-first [] = refl
without-first (x ∷ xs) =
    let one : min (length (x ∷ xs)) 1 ≡ 1 = omega arith in
    ap (λ k. drop k (x ∷ xs)) one
