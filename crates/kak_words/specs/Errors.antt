-- What the errors say.
use Rattle.std.specs.Prelude.{◌≡◌, ℕ, List, Result, Err}
use Rattle.kak_words.specs.declared.parts.WordError.{WordError}
use Rattle.kak_words.specs.declared.parts.WordError.TheVariants.{Unclosed, UnknownExpansion, NoMemory}

-- an error of reading tells the place that the reading gives; memory may run out at any time
abbrev pub IsUnclosed : {A : Type 0} → WordError → Result A ℕ → Type 0
IsUnclosed (Unclosed at) reading = reading ≡ Err at
IsUnclosed (UnknownExpansion name) reading = ⊥
IsUnclosed NoMemory reading = Unit {0}

-- an error of expanding tells the name that the table lacks; memory may run out at any time
abbrev pub IsUnknown : {A : Type 0} → WordError → Result A (List ℕ) → Type 0
IsUnknown (Unclosed at) expansion = ⊥
IsUnknown (UnknownExpansion name) expansion = expansion ≡ Err name
IsUnknown NoMemory expansion = Unit {0}
