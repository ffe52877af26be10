-- How many words a command takes, and which these are.
use Rattle.std.specs.Prelude.{◌≡◌, ℕ, List, [], ◌∷◌, Option, Some, None, Result, Ok, Err}
use Rattle.command_forms.specs.declared.error.OrderError.{OrderError}
use Rattle.command_forms.specs.declared.error.OrderError.TheVariants.{WrongArgumentCount}

-- no word
abbrev pub no_words : {A : Type 0} → A → List (List ℕ) → Result A OrderError
no_words x [] = Ok x
no_words x (w ∷ ws) = Err WrongArgumentCount

-- one word
abbrev pub one_word : List (List ℕ) → Result (List ℕ) OrderError
one_word [] = Err WrongArgumentCount
one_word (w ∷ []) = Ok w
one_word (w ∷ v ∷ ws) = Err WrongArgumentCount

-- one word or none
abbrev pub optional_word : List (List ℕ) → Result (Option (List ℕ)) OrderError
optional_word [] = Ok None
optional_word (w ∷ []) = Ok (Some w)
optional_word (w ∷ v ∷ ws) = Err WrongArgumentCount

-- a word and those behind it
pub record Headed : Type 0 where
  pub head : List ℕ
  pub more : List (List ℕ)

-- one word at least
abbrev pub headed : List (List ℕ) → Result Headed OrderError
headed [] = Err WrongArgumentCount
headed (w ∷ ws) = Ok (record { head = w; more = ws })

-- words are this one and those behind it
abbrev pub IsHeaded : List (List ℕ) → List ℕ → List (List ℕ) → Type 0
IsHeaded ws head more = headed ws ≡ Ok (record { head = head; more = more })

-- two words and those behind them
pub record Paired : Type 0 where
  pub first : List ℕ
  pub second : List ℕ
  pub more : List (List ℕ)

-- two words at least
abbrev pub paired : List (List ℕ) → Result Paired OrderError
paired [] = Err WrongArgumentCount
paired (w ∷ []) = Err WrongArgumentCount
paired (w ∷ v ∷ ws) = Ok (record { first = w; second = v; more = ws })

-- words are these two and those behind them
abbrev pub IsPaired : List (List ℕ) → List ℕ → List ℕ → List (List ℕ) → Type 0
IsPaired ws first second more = paired ws ≡ Ok (record { first = first; second = second; more = more })
