-- Rows that are changed where they stand, added and taken out.
use Rattle.std.proofs.Common.{◌≡◌, suc, ◌+◌, ◌<◌, ◌≤◌, List, [], ◌∷◌, ◌++◌, length, map, get_or, set, Bool, true, false, not, cond, ◌||◌, refl, ap, sym, ◌∙◌, arith}
use Rattle.std.specs.List.{list_any, filter}
use Rattle.tables.specs.Tables.{first_where, place_where, changed_where, with_row}
use Rattle.tables.proofs.TableLemmas.{by_test}

-- a change that leaves a test alone
abbrev pub Leaves : {A : Type 0} → (A → Bool) → (A → A) → Type 0
Leaves {A} q f = (x : A) → q (f x) ≡ q x

-- two tests that no row passes both
abbrev pub AreApart : {A : Type 0} → (A → Bool) → (A → Bool) → Type 0
AreApart {A} p q = (x : A) → p x ≡ true → q x ≡ false

-- the row that was changed
pub first-changed : {A : Type 0} (p : A → Bool) (f : A → A) (d : A) (xs : List A) → Leaves p f → list_any p xs ≡ true → first_where p d (changed_where p f xs) ≡ f (first_where p d xs)
first-changed p f d [] keeps some = absurd (let no : false ≡ true = some in cc)
first-changed p f d (x ∷ xs) keeps some =
    by_test (λ b. b ≡ p x → (b || list_any p xs) ≡ true → first_where p d (cond b (f x ∷ xs) (x ∷ changed_where p f xs)) ≡ f (cond b x (first_where p d xs))) (p x)
    (λ _ e _. ap (λ b. cond b (f x) (first_where p d xs)) (keeps x ∙ sym e))
    (λ _ e some. ap (λ b. cond b x (first_where p d (changed_where p f xs))) (sym e) ∙ first-changed p f d xs keeps some)
    refl some

-- another row
pub first-changed_other : {A : Type 0} (p q : A → Bool) (f : A → A) (d : A) (xs : List A) → Leaves q f → AreApart p q → first_where q d (changed_where p f xs) ≡ first_where q d xs
first-changed_other p q f d [] keeps apart = refl
first-changed_other p q f d (x ∷ xs) keeps apart =
    by_test (λ b. b ≡ p x → first_where q d (cond b (f x ∷ xs) (x ∷ changed_where p f xs)) ≡ cond (q x) x (first_where q d xs)) (p x)
    (λ _ e. ap (λ b. cond b (f x) (first_where q d xs)) (keeps x ∙ apart x (sym e)) ∙ ap (λ b. cond b x (first_where q d xs)) (sym (apart x (sym e))))
    (λ _ _. ap (λ rest. cond (q x) x rest) (first-changed_other p q f d xs keeps apart))
    refl

-- whether a row is there
pub any-changed : {A : Type 0} (p q : A → Bool) (f : A → A) (xs : List A) → Leaves q f → list_any q (changed_where p f xs) ≡ list_any q xs
any-changed p q f [] keeps = refl
any-changed p q f (x ∷ xs) keeps =
    by_test (λ b. list_any q (cond b (f x ∷ xs) (x ∷ changed_where p f xs)) ≡ (q x || list_any q xs)) (p x)
    (λ _. ap (λ b. b || list_any q xs) (keeps x))
    (λ _. ap (λ b. q x || b) (any-changed p q f xs keeps))

-- what is said of the rows by a function that the change leaves alone
pub map-changed : {A B : Type 0} (p : A → Bool) (f : A → A) (g : A → B) (xs : List A) → ((x : A) → g (f x) ≡ g x) → map g (changed_where p f xs) ≡ map g xs
map-changed p f g [] same = refl
map-changed p f g (x ∷ xs) same =
    by_test (λ b. map g (cond b (f x ∷ xs) (x ∷ changed_where p f xs)) ≡ g x ∷ map g xs) (p x)
    (λ _. ap (λ y. y ∷ map g xs) (same x))
    (λ _. ap (λ ys. g x ∷ ys) (map-changed p f g xs same))

pub length-changed : {A : Type 0} (p : A → Bool) (f : A → A) (xs : List A) → length (changed_where p f xs) ≡ length xs
length-changed p f [] = refl
length-changed p f (x ∷ xs) =
    by_test (λ b. length (cond b (f x ∷ xs) (x ∷ changed_where p f xs)) ≡ suc (length xs)) (p x) (λ _. refl) (λ _. ap suc (length-changed p f xs))

-- two changes that make the same of the row that is found are the same
pub changed-same : {A : Type 0} (p : A → Bool) (f g : A → A) (d : A) (xs : List A) → f (first_where p d xs) ≡ g (first_where p d xs) → changed_where p f xs ≡ changed_where p g xs
changed-same p f g d [] same = refl
changed-same p f g d (x ∷ xs) same =
    by_test (λ b. f (cond b x (first_where p d xs)) ≡ g (cond b x (first_where p d xs)) → cond b (f x ∷ xs) (x ∷ changed_where p f xs) ≡ cond b (g x ∷ xs) (x ∷ changed_where p g xs)) (p x)
    (λ _ same. ap (λ y. y ∷ xs) same)
    (λ _ same. ap (λ ys. x ∷ ys) (changed-same p f g d xs same))
    same

-- a change that leaves the row that is found
pub changed-stays : {A : Type 0} (p : A → Bool) (f : A → A) (d : A) (xs : List A) → f (first_where p d xs) ≡ first_where p d xs → changed_where p f xs ≡ xs
changed-stays p f d [] same = refl
changed-stays p f d (x ∷ xs) same =
    by_test (λ b. f (cond b x (first_where p d xs)) ≡ cond b x (first_where p d xs) → cond b (f x ∷ xs) (x ∷ changed_where p f xs) ≡ x ∷ xs) (p x)
    (λ _ same. ap (λ y. y ∷ xs) same)
    (λ _ same. ap (λ ys. x ∷ ys) (changed-stays p f d xs same))
    same

-- one change behind another
pub changed-changed : {A : Type 0} (p : A → Bool) (f g : A → A) (xs : List A) → Leaves p f → changed_where p g (changed_where p f xs) ≡ changed_where p (λ x. g (f x)) xs
changed-changed p f g [] keeps = refl
changed-changed p f g (x ∷ xs) keeps =
    by_test (λ b. b ≡ p x → changed_where p g (cond b (f x ∷ xs) (x ∷ changed_where p f xs)) ≡ cond b (g (f x) ∷ xs) (x ∷ changed_where p (λ y. g (f y)) xs)) (p x)
    (λ _ e. ap (λ b. cond b (g (f x) ∷ xs) (f x ∷ changed_where p g xs)) (keeps x ∙ sym e))
    (λ _ e. ap (λ b. cond b (g x ∷ changed_where p f xs) (x ∷ changed_where p g (changed_where p f xs))) (sym e) ∙ ap (λ ys. x ∷ ys) (changed-changed p f g xs keeps))
    refl

-- a row that is there has a place inside
pub place-inside : {A : Type 0} (p : A → Bool) (xs : List A) → list_any p xs ≡ true → place_where p xs < length xs
place-inside p [] some = absurd (let no : false ≡ true = some in cc)
place-inside p (x ∷ xs) some =
    by_test (λ b. (b || list_any p xs) ≡ true → cond b 0 (suc (place_where p xs)) < suc (length xs)) (p x) (λ _ _. omega arith) (λ _ some. let rest : place_where p xs < length xs = place-inside p xs some in omega arith) some

pub inside-any : {A : Type 0} (p : A → Bool) (xs : List A) → place_where p xs < length xs → list_any p xs ≡ true
inside-any p [] h = absurd (omega arith)
inside-any p (x ∷ xs) h =
    by_test (λ b. cond b 0 (suc (place_where p xs)) < suc (length xs) → (b || list_any p xs) ≡ true) (p x) (λ _ _. refl) (λ _ h. inside-any p xs (omega arith)) h

pub past-any : {A : Type 0} (p : A → Bool) (xs : List A) → length xs ≤ place_where p xs → list_any p xs ≡ false
past-any p [] h = refl
past-any p (x ∷ xs) h =
    by_test (λ b. suc (length xs) ≤ cond b 0 (suc (place_where p xs)) → (b || list_any p xs) ≡ false) (p x) (λ _ h. absurd (omega arith)) (λ _ h. past-any p xs (omega arith)) h

-- a row is changed at its place
pub changed-place : {A : Type 0} (p : A → Bool) (f : A → A) (d : A) (xs : List A) → place_where p xs < length xs → changed_where p f xs ≡ set xs (place_where p xs) (f (get_or xs (place_where p xs) d))
changed-place p f d [] h = absurd (omega arith)
changed-place p f d (x ∷ xs) h =
    by_test (λ b. cond b 0 (suc (place_where p xs)) < suc (length xs) → cond b (f x ∷ xs) (x ∷ changed_where p f xs) ≡ set (x ∷ xs) (cond b 0 (suc (place_where p xs))) (f (get_or (x ∷ xs) (cond b 0 (suc (place_where p xs))) d))) (p x)
    (λ _ _. refl) (λ _ h. ap (λ ys. x ∷ ys) (changed-place p f d xs (omega arith))) h

-- places and rows through a function whose results are tested
pub place-map : {A B : Type 0} (p : B → Bool) (g : A → B) (xs : List A) → place_where p (map g xs) ≡ place_where (λ x. p (g x)) xs
place-map p g [] = refl
place-map p g (x ∷ xs) = ap (λ n. cond (p (g x)) 0 (suc n)) (place-map p g xs)

pub any-map : {A B : Type 0} (p : B → Bool) (g : A → B) (xs : List A) → list_any p (map g xs) ≡ list_any (λ x. p (g x)) xs
any-map p g [] = refl
any-map p g (x ∷ xs) = ap (λ b. p (g x) || b) (any-map p g xs)

pub first-map : {A B : Type 0} (p : B → Bool) (g : A → B) (d : A) (xs : List A) → first_where p (g d) (map g xs) ≡ g (first_where (λ x. p (g x)) d xs)
first-map p g d [] = refl
first-map p g d (x ∷ xs) =
    by_test (λ b. cond b (g x) (first_where p (g d) (map g xs)) ≡ g (cond b x (first_where (λ y. p (g y)) d xs))) (p (g x)) (λ _. refl) (λ _. first-map p g d xs)

-- rows that are left when those that pass a test are taken out
pub first-left : {A : Type 0} (p q : A → Bool) (d : A) (xs : List A) → AreApart p q → first_where q d (filter (λ x. not (p x)) xs) ≡ first_where q d xs
first-left p q d [] apart = refl
first-left p q d (x ∷ xs) apart =
    by_test (λ b. b ≡ p x → first_where q d (cond (not b) (x ∷ filter (λ y. not (p y)) xs) (filter (λ y. not (p y)) xs)) ≡ cond (q x) x (first_where q d xs)) (p x)
    (λ _ e. first-left p q d xs apart ∙ ap (λ b. cond b x (first_where q d xs)) (sym (apart x (sym e))))
    (λ _ _. ap (λ rest. cond (q x) x rest) (first-left p q d xs apart))
    refl

pub any-left : {A : Type 0} (p q : A → Bool) (xs : List A) → AreApart p q → list_any q (filter (λ x. not (p x)) xs) ≡ list_any q xs
any-left p q [] apart = refl
any-left p q (x ∷ xs) apart =
    by_test (λ b. b ≡ p x → list_any q (cond (not b) (x ∷ filter (λ y. not (p y)) xs) (filter (λ y. not (p y)) xs)) ≡ (q x || list_any q xs)) (p x)
    (λ _ e. any-left p q xs apart ∙ ap (λ b. b || list_any q xs) (sym (apart x (sym e))))
    (λ _ _. ap (λ b. q x || b) (any-left p q xs apart))
    refl

-- none of those that were taken out is there
pub none-left : {A : Type 0} (p : A → Bool) (xs : List A) → list_any p (filter (λ x. not (p x)) xs) ≡ false
none-left p [] = refl
none-left p (x ∷ xs) =
    by_test (λ b. b ≡ p x → list_any p (cond (not b) (x ∷ filter (λ y. not (p y)) xs) (filter (λ y. not (p y)) xs)) ≡ false) (p x)
    (λ _ _. none-left p xs)
    (λ _ e. ap (λ b. b || list_any p (filter (λ y. not (p y)) xs)) (sym e) ∙ none-left p xs)
    refl

pub length-left : {A : Type 0} (p : A → Bool) (xs : List A) → length (filter (λ x. not (p x)) xs) ≤ length xs
length-left p [] = omega arith
length-left p (x ∷ xs) =
    let rest : length (filter (λ y. not (p y)) xs) ≤ length xs = length-left p xs in
    by_test (λ b. length (cond (not b) (x ∷ filter (λ y. not (p y)) xs) (filter (λ y. not (p y)) xs)) ≤ suc (length xs)) (p x) (λ _. omega arith) (λ _. omega arith)

-- taking out a row that is there leaves fewer
pub fewer-left : {A : Type 0} (p : A → Bool) (xs : List A) → list_any p xs ≡ true → length (filter (λ x. not (p x)) xs) + 1 ≤ length xs
fewer-left p [] some = absurd (let no : false ≡ true = some in cc)
fewer-left p (x ∷ xs) some =
    let all : length (filter (λ y. not (p y)) xs) ≤ length xs = length-left p xs in
    by_test (λ b. (b || list_any p xs) ≡ true → length (cond (not b) (x ∷ filter (λ y. not (p y)) xs) (filter (λ y. not (p y)) xs)) + 1 ≤ suc (length xs)) (p x)
    (λ _ _. omega arith)
    (λ _ some. let rest : length (filter (λ y. not (p y)) xs) + 1 ≤ length xs = fewer-left p xs some in omega arith)
    some

-- rows with one more at the end
pub any-added : {A : Type 0} (q : A → Bool) (row : A) (xs : List A) → list_any q (xs ++ row ∷ []) ≡ (list_any q xs || (q row || false))
any-added q row [] = refl
any-added q row (x ∷ xs) =
    by_test (λ b. (b || list_any q (xs ++ row ∷ [])) ≡ ((b || list_any q xs) || (q row || false))) (q x) (λ _. refl) (λ _. any-added q row xs)

pub first-added : {A : Type 0} (q : A → Bool) (d row : A) (xs : List A) → q row ≡ false → first_where q d (xs ++ row ∷ []) ≡ first_where q d xs
first-added q d row [] fails = ap (λ b. cond b row d) fails
first-added q d row (x ∷ xs) fails =
    by_test (λ b. cond b x (first_where q d (xs ++ row ∷ [])) ≡ cond b x (first_where q d xs)) (q x) (λ _. refl) (λ _. first-added q d row xs fails)

-- the row itself, where none passed before
pub first-new : {A : Type 0} (q : A → Bool) (d row : A) (xs : List A) → list_any q xs ≡ false → q row ≡ true → first_where q d (xs ++ row ∷ []) ≡ row
first-new q d row [] none passes = ap (λ b. cond b row d) passes
first-new q d row (x ∷ xs) none passes =
    by_test (λ b. (b || list_any q xs) ≡ false → cond b x (first_where q d (xs ++ row ∷ [])) ≡ row) (q x)
    (λ _ none. absurd (let no : true ≡ false = none in cc))
    (λ _ none. first-new q d row xs none passes)
    none

-- rows with one that was added where none passed
pub any-with_row : {A : Type 0} (p : A → Bool) (row : A) (xs : List A) → p row ≡ true → list_any p (with_row p row xs) ≡ true
any-with_row p row xs passes =
    by_test (λ b. b ≡ list_any p xs → list_any p (cond b xs (xs ++ row ∷ [])) ≡ true) (list_any p xs)
    (λ _ e. sym e)
    (λ _ e. any-added p row xs ∙ ap (λ b. b || (p row || false)) (sym e) ∙ ap (λ b. b || false) passes)
    refl

pub any-with_other : {A : Type 0} (p q : A → Bool) (row : A) (xs : List A) → q row ≡ false → list_any q (with_row p row xs) ≡ list_any q xs
any-with_other p q row xs fails =
    by_test (λ b. list_any q (cond b xs (xs ++ row ∷ [])) ≡ list_any q xs) (list_any p xs)
    (λ _. refl)
    (λ _. any-added q row xs ∙ ap (λ b. list_any q xs || (b || false)) fails ∙ last (list_any q xs))
  where
    last : (b : Bool) → (b || (false || false)) ≡ b
    last true = refl
    last false = refl

pub first-with_other : {A : Type 0} (p q : A → Bool) (d row : A) (xs : List A) → q row ≡ false → first_where q d (with_row p row xs) ≡ first_where q d xs
first-with_other p q d row xs fails =
    by_test (λ b. first_where q d (cond b xs (xs ++ row ∷ [])) ≡ first_where q d xs) (list_any p xs) (λ _. refl) (λ _. first-added q d row xs fails)

-- what a change leaves alone of each row stays of the row that is found, whichever was changed
pub first-kept : {A B : Type 0} (p q : A → Bool) (f : A → A) (pr : A → B) (d : A) (xs : List A) → Leaves q f → ((x : A) → pr (f x) ≡ pr x) → pr (first_where q d (changed_where p f xs)) ≡ pr (first_where q d xs)
first-kept p q f pr d [] keeps same = refl
first-kept p q f pr d (x ∷ xs) keeps same =
    by_test (λ b. pr (first_where q d (cond b (f x ∷ xs) (x ∷ changed_where p f xs))) ≡ pr (cond (q x) x (first_where q d xs))) (p x)
    (λ _. ap (λ b. pr (cond b (f x) (first_where q d xs))) (keeps x) ∙ by_test (λ b. pr (cond b (f x) (first_where q d xs)) ≡ pr (cond b x (first_where q d xs))) (q x) (λ _. same x) (λ _. refl))
    (λ _. by_test (λ b. pr (cond b x (first_where q d (changed_where p f xs))) ≡ pr (cond b x (first_where q d xs))) (q x) (λ _. refl) (λ _. first-kept p q f pr d xs keeps same))
