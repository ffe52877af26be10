-- What the parts of the reader find, said of its lists.
use Rattle.std.specs.Prelude.{◌≡◌, ℕ, List, Option, Some, Result, Ok}
use Rattle.kak_words.specs.declared.placed.Placed.{Placed}
use Rattle.kak_words.specs.declared.parts.Word.{Word}
use Rattle.kak_words.specs.Closing.{SplitAtMark}
use Rattle.kak_words.specs.Forms.{Form}
use Rattle.kak_words.specs.Reading.{WordRead, form_word}

-- these are the two parts of a split
abbrev pub IsSplit : SplitAtMark → List Placed → List Placed → Type 0
IsSplit split inside rest = split ≡ record { inside = inside; rest = rest }

-- there is a split, and these are its parts
abbrev pub IsSplitIf : Option SplitAtMark → List Placed → List Placed → Type 0
IsSplitIf split inside rest = split ≡ Some (record { inside = inside; rest = rest })

-- there is a form, and these are its kind, its text and what stands behind it
abbrev pub IsForm : Result (Option Form) ℕ → List Placed → List Placed → List Placed → Type 0
IsForm found kind inside rest =
    found ≡ Ok (Some (record { kind = kind; split = record { inside = inside; rest = rest } }))

-- this is the word of the form of these parts, and this stands behind it
abbrev pub IsFormWord : List Placed → List Placed → List Placed → Word → List Placed → Type 0
IsFormWord kind inside rest word behind =
    form_word (record { kind = kind; split = record { inside = inside; rest = rest } }) ≡ record { word = word; rest = behind }

-- this word was read, and this stands behind it
abbrev pub IsWord : Result WordRead ℕ → Word → List Placed → Type 0
IsWord reading word rest = reading ≡ Ok (record { word = word; rest = rest })
