-- Rows in the order in which they were added.
use Rattle.std.specs.Prelude.{ℕ, suc, List, [], ◌∷◌, ◌++◌, Bool, if◌then◌else◌}
use Rattle.std.specs.List.{list_any}

-- the first row that passes a test, or another value where none does
abbrev pub first_where : {A : Type 0} → (A → Bool) → A → List A → A
first_where p other [] = other
first_where p other (x ∷ xs) = if p x then x else first_where p other xs

-- with a row in place of the first that passes a test, or at the end where none does
abbrev pub put_where : {A : Type 0} → (A → Bool) → A → List A → List A
put_where p row [] = row ∷ []
put_where p row (x ∷ xs) = if p x then row ∷ xs else x ∷ put_where p row xs

-- how many rows stand before the first that passes a test: all of them where none does
abbrev pub place_where : {A : Type 0} → (A → Bool) → List A → ℕ
place_where p [] = 0
place_where p (x ∷ xs) = if p x then 0 else suc (place_where p xs)

-- with the first row that passes a test changed
abbrev pub changed_where : {A : Type 0} → (A → Bool) → (A → A) → List A → List A
changed_where p f [] = []
changed_where p f (x ∷ xs) = if p x then f x ∷ xs else x ∷ changed_where p f xs

-- with a row at the end, where none passes a test
abbrev pub with_row : {A : Type 0} → (A → Bool) → A → List A → List A
with_row p row xs = if list_any p xs then xs else xs ++ row ∷ []
