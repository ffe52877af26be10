-- How insert mode is entered, as rows.
use Rattle.std.specs.Prelude.{ℕ, Bool, true, false, nat_le, ◌||◌, if◌then◌else◌, List, [], ◌∷◌, length}
use Rattle.std.specs.declared.option.Option.{Option}
use Rattle.text_model.specs.Texts.{last_place}
use Rattle.list_model.specs.Ranges.{Range}
use Rattle.edit_ops.specs.Putting.{put_in_at}
use Rattle.kak_world.specs.declared.own.Mode.TheVariants.{Insert}
use Rattle.kak_world.specs.Flat.{Flat, text_of, sels_of, with_own}
use Rattle.kak_world.specs.Rows.{RowEnd, does}
use Rattle.kak_world.specs.Editing.{edit_row}
use Rattle.kak_world.specs.Events.{mode_entered}
use Rattle.key_rows.specs.declared.shapes.Shape.TheVariants as shape
use Rattle.key_rows.specs.declared.each.Each.TheVariants as each
use Rattle.key_rows.specs.declared.entries.InsertEntry.{InsertEntry}
use Rattle.key_rows.specs.declared.entries.InsertEntry.TheVariants as entry
use Rattle.key_rows.specs.Sequence.{then_row}
use Rattle.key_rows.specs.Each.{each_changed}
use Rattle.key_rows.specs.Edits.{erase_row, cut_row, open_row}

-- whether some range reaches a text's last character
abbrev pub reaches_end : List ℕ → List Range → Bool
reaches_end text [] = false
reaches_end text (r ∷ rs) = nat_le (last_place text) r.high || reaches_end text rs

-- room behind each selection: where one holds the last character, a newline goes in at the end
abbrev pub room_row : ℕ → Flat → RowEnd
room_row who flat =
    if reaches_end (text_of who flat) (sels_of who flat).list then edit_row (put_in_at (length (text_of who flat)) (10 ∷ []) ∷ []) who flat else does flat

-- what becomes of a client's selections where insert mode is entered: before them; behind them, for which there is room then; at
-- the first character of their first line that is no blank; at the newline of their last line; in the place of their texts,
-- kept in a register or not; on new lines
abbrev pub place_row : InsertEntry → Option ℕ → ℕ → Flat → RowEnd
place_row entry.Before register who flat = does (each_changed (each.Reshaped shape.AtStart) who flat)
place_row entry.Behind register who flat = then_row (room_row who flat) (λ w. does (each_changed (each.Reshaped shape.OneFurther) who w))
place_row entry.FirstLine register who flat = does (each_changed each.AtFirstLine who flat)
place_row entry.LastNewline register who flat = does (each_changed (each.Reshaped shape.LastNewline) who flat)
place_row entry.Cut register who flat = cut_row register who flat
place_row entry.Erase register who flat = erase_row who flat
place_row (entry.Open direction) register who flat = open_row direction who flat

-- whether leaving insert mode takes cursors back
abbrev pub appends : InsertEntry → Bool
appends entry.Behind = true
appends _ = false

-- whether the text is changed before
abbrev pub edits_first : InsertEntry → Bool
edits_first entry.Before = false
edits_first entry.FirstLine = false
edits_first entry.LastNewline = false
edits_first _ = true

-- a client is in insert mode, which hooks hear
abbrev pub inserting : InsertEntry → ℕ → Flat → Flat
inserting entry who flat = with_own who (λ o. record o { mode = Insert; appending = appends entry }) (mode_entered Insert who flat)

-- insert mode is entered
abbrev pub enter_row : InsertEntry → Option ℕ → ℕ → Flat → RowEnd
enter_row entry register who flat = then_row (place_row entry register who flat) (λ w. does (inserting entry who w))
