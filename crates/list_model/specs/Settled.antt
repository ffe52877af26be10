-- What it means that a list of selections is settled, without saying how it is done.
use Rattle.std.specs.Prelude.{◌≡◌, ℕ, zero, suc, ◌<◌, ◌≤◌, ◌⊎◌, ◌==◌, List, [], ◌∷◌, find, Some, length}
use Rattle.std.specs.List.{AllByRecursion}
use Rattle.list_model.specs.Ranges.{Range, Selected, IsRange}

-- some element is such
abbrev pub SomeOf : {X : Type 0} → (X → Type 0) → List X → Type 0
SomeOf P [] = ⊥
SomeOf P (x ∷ xs) = P x ⊎ SomeOf P xs

-- the element at a place is such
abbrev pub HoldsAtPlace : {X : Type 0} → (X → Type 0) → List X → ℕ → Type 0
HoldsAtPlace P [] n = ⊥
HoldsAtPlace P (x ∷ xs) zero = P x
HoldsAtPlace P (x ∷ xs) (suc n) = HoldsAtPlace P xs n

-- all characters of a selection are in another one
abbrev pub Holds : Range → Range → Type 0
Holds r s = (r.low ≤ s.low) × (s.high ≤ r.high)

-- each selection ends before all later ones begin
abbrev pub AreApart : List Range → Type 0
AreApart [] = Unit {0}
AreApart (r ∷ rs) = AllByRecursion (λ s. r.high < s.low) rs × AreApart rs

-- a selection has a character and the next one
abbrev pub Reaches : ℕ → Range → Type 0
Reaches o s = (s.low ≤ o) × (o < s.high)

-- wherever a selection goes on from a character to the next, one of the list does
abbrev pub IsBridged : List Range → Range → Type 0
IsBridged xs r = (o : ℕ) → r.low ≤ o → o < r.high → SomeOf (Reaches o) xs

-- the same flag and the same target
abbrev pub HasMarksOf : Range → Range → Type 0
HasMarksOf r s = (r.turned ≡ s.turned) × (r.target ≡ s.target)

-- a selection begins where one of the list begins, and has the marks of the first one that does
abbrev pub BeginsWithFirst : List Range → Range → Type 0
BeginsWithFirst xs r = (s : Range) × (find (λ t. t.low == r.low) xs ≡ Some s) × HasMarksOf r s

-- the settled list of a list: its selections are apart and in order, they hold those of the list, go on only where
-- these do, begin with the first of them, and the main one holds the former main one
pub record IsSettled (xs : List Range) (main : ℕ) (ys : List Range) (place : ℕ) : Type 0 where
  pub some : AllByRecursion IsRange ys
  pub apart : AreApart ys
  pub covers : AllByRecursion (λ s. SomeOf (λ r. Holds r s) ys) xs
  pub bridged : AllByRecursion (IsBridged xs) ys
  pub first : AllByRecursion (BeginsWithFirst xs) ys
  pub holds_main : HoldsAtPlace (λ s. HoldsAtPlace (λ r. Holds r s) ys place) xs main

-- a list that is settled already, with its main one
pub record IsSettledList (s : Selected) : Type 0 where
  pub ranges : AllByRecursion IsRange s.list
  pub apart : AreApart s.list
  pub main_is : s.main < length s.list

-- two selections share a character
abbrev pub Shares : Range → Range → Type 0
Shares r s = (r.low ≤ s.high) × (s.low ≤ r.high)

-- a chain of the list's selections leads from one to another, each sharing a character with the next
pub data IsLinked (xs : List Range) : Range → Range → Type 0 where
  same : (r : Range) → IsLinked xs r r
  link : (r s t : Range) → Shares r s → SomeOf (λ x. x ≡ s) xs → IsLinked xs s t → IsLinked xs r t
