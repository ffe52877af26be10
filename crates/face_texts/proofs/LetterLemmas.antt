-- Letters of attributes, one by one.
use Rattle.std.proofs.Common.{◌≡◌, ℕ, ◌+◌, ◌<◌, ◌≤◌, List, length, drop, get_or, Option, Some, None, Result, Ok, Err, ap, sym, ◌∙◌, arith}
use Rattle.std.proofs.lemmas.List.{drop_more, drop_all}
use Rattle.kak_faces.specs.declared.colour.Attributes.{Attributes}
use Rattle.face_texts.specs.Letters.{with_letter, letter_then, letters_from}

-- what is read from a letter on
here : (letters : List ℕ) (i d at : ℕ) (have : Attributes) (more : Option Attributes) → i < length letters → with_letter have (get_or letters i d) ≡ more → letters_from have (at + i) (drop i letters) ≡ letter_then (λ next. letters_from next (at + i + 1) (drop (i + 1) letters)) (at + i) more
here letters i d at have more inside is =
    ap (letters_from have (at + i)) (drop_more letters i d inside) ∙ ap (letter_then (λ next. letters_from next (at + i + 1) (drop (i + 1) letters)) (at + i)) is

-- a letter that is one
pub letter-on : (letters : List ℕ) (i d at : ℕ) (have next : Attributes) (all : Result Attributes ℕ) → i < length letters → with_letter have (get_or letters i d) ≡ Some next → letters_from have (at + i) (drop i letters) ≡ all → letters_from next (at + (i + 1)) (drop (i + 1) letters) ≡ all
letter-on letters i d at have next all inside is so_far =
    let one : at + (i + 1) ≡ at + i + 1 = omega arith in
    ap (λ n. letters_from next n (drop (i + 1) letters)) one ∙ sym (here letters i d at have (Some next) inside is) ∙ so_far

-- a letter that is none
pub letter-none : (letters : List ℕ) (i d at : ℕ) (have : Attributes) (all : Result Attributes ℕ) → i < length letters → with_letter have (get_or letters i d) ≡ None → letters_from have (at + i) (drop i letters) ≡ all → Err (at + i) ≡ all
letter-none letters i d at have all inside is so_far = sym (here letters i d at have None inside is) ∙ so_far

-- no letter is left
pub letters-end : (letters : List ℕ) (i at : ℕ) (have : Attributes) (all : Result Attributes ℕ) → length letters ≤ i → letters_from have (at + i) (drop i letters) ≡ all → Ok have ≡ all
letters-end letters i at have all past so_far = sym (ap (letters_from have (at + i)) (drop_all i letters past)) ∙ so_far

-- before the first
pub letters-begin : (letters : List ℕ) (at : ℕ) (have : Attributes) → letters_from have (at + 0) (drop 0 letters) ≡ letters_from have at letters
letters-begin letters at have = let none : at + 0 ≡ at = omega arith in ap (λ n. letters_from have n letters) none
