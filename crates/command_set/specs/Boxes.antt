-- What a command has a client shown in a box.
use Rattle.std.specs.Prelude.{ℕ, List, None, Some}
use Rattle.std.specs.declared.option.Option.{Option}
use Rattle.std.specs.Str.{chars}
use Rattle.kak_world.specs.declared.own.Note.{Note}
use Rattle.kak_world.specs.Flat.{Flat, with_own}
use Rattle.kak_world.specs.Rows.{RowEnd, does}

-- the box of a title and a text; none where there is no text
abbrev pub note_of : List ℕ → Option (List ℕ) → Option Note
note_of title None = None
note_of title (Some text) = Some (record { title = chars title; content = chars text })

-- a client is to be shown a box, or none any more
abbrev pub info_row : List ℕ → Option (List ℕ) → ℕ → Flat → RowEnd
info_row title text who flat = does (with_own who (λ o. record o { info = note_of title text }) flat)
