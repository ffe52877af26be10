-- Histories, the entries of one maker, and marks.
use Rattle.std.specs.Prelude.{◌≡◌, ◌⊎◌, ℕ, ◌==◌, nat_lt, List, [], ◌∷◌, ◌++◌, length, filter, Option, Some, None, if◌then◌else◌}
use Rattle.session_turns.specs.Growth.{Begins}

-- the longer of two lists; the first where they are equally long
abbrev pub longer : {E : Type 0} → List E → List E → List E
longer xs ys = if nat_lt (length xs) (length ys) then ys else xs

-- the entries of one maker, in order
abbrev pub entries_by : {E : Type 0} → (E → ℕ) → ℕ → List E → List E
entries_by maker n entries = filter (λ e. maker e == n) entries

-- one entry of this maker was added at the end
pub record AddsOne {E : Type 0} (maker : E → ℕ) (who : ℕ) (before after : List E) : Type 0 where
  pub entry : E
  pub maker_is : maker entry ≡ who
  pub after_is : after ≡ before ++ entry ∷ []

-- a mark that was met is None, or is the mark now
abbrev pub Met : Option ℕ → Option ℕ → Type 0
Met met now = (met ≡ None) ⊎ (met ≡ now)

-- a fault leaves the mark, or sets one that is None to the number of entries
abbrev pub MaySetMark : {E : Type 0} → List E → Option ℕ → Option ℕ → Type 0
MaySetMark entries before after = (after ≡ before) ⊎ ((before ≡ None) × (after ≡ Some (length entries)))

-- the first mark of two that is set
abbrev pub first_mark : Option ℕ → Option ℕ → Option ℕ
first_mark (Some k) other = Some k
first_mark None other = other

-- the number, the list and the mark of a pass that was given back
abbrev pub GivenBack : Type 0 → Type 0
GivenBack E = ℕ × List E × Option ℕ

abbrev pub given_number : {E : Type 0} → GivenBack E → ℕ
given_number g = g.0

abbrev pub given_list : {E : Type 0} → GivenBack E → List E
given_list g = g.1

abbrev pub given_mark : {E : Type 0} → GivenBack E → Option ℕ
given_mark g = g.2

-- a history begins with the list of a pass that was given back, and has no other entry with its number
pub record HasGiven {E : Type 0} (maker : E → ℕ) (history : List E) (g : GivenBack E) : Type 0 where
  pub begins : Begins history (given_list g)
  pub own_entries : entries_by maker (given_number g) history ≡ entries_by maker (given_number g) (given_list g)

-- a pass that was given back had met this mark or none
abbrev pub HasMet : {E : Type 0} → Option ℕ → GivenBack E → Type 0
HasMet mark g = Met (given_mark g) mark

-- two passes that were given back have different numbers
abbrev pub HasOtherNumber : {E : Type 0} → GivenBack E → GivenBack E → Type 0
HasOtherNumber g h = given_number g ≡ given_number h → ⊥
