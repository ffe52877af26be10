-- Texts that come one after another.
use Rattle.std.specs.Prelude.{◌≡◌, ℕ, ◌<◌, get_or, Bool, true, false, List, [], ◌∷◌}

-- the first of the texts that were left, before those that are left now; or that none was left
abbrev pub IsNext : Bool → List (List ℕ) → List ℕ → List (List ℕ) → Type 0
IsNext true before text now = before ≡ text ∷ now
IsNext false before text now = before ≡ []

-- a text has bytes alone
abbrev pub AreBytes : List ℕ → Type 0
AreBytes text = (k : ℕ) → get_or text k 0 < 256
