-- What commands do to buffers, and when a client may leave.
use Rattle.std.specs.Prelude.{ℕ, Bool, not, is_some, if◌then◌else◌, List, slice_index_or, unwrap_or, codes, encode_utf8_all, None, Some}
use Rattle.std.specs.List.{list_any}
use Rattle.std.specs.declared.option.Option.{Option}
use Rattle.std.specs.Str.{chars}
use Rattle.kak_world.specs.declared.ask.Ask.{Ask}
use Rattle.kak_world.specs.declared.ask.Ask.TheVariants.{Read, Write, Then, Leave}
use Rattle.kak_world.specs.declared.ask.Dropping.{Dropping}
use Rattle.kak_world.specs.declared.ask.Later.{Later}
use Rattle.kak_world.specs.declared.ask.Later.TheVariants.{Write as LaterWrite, Quit, Drop}
use Rattle.kak_world.specs.declared.ask.Saving.{Saving}
use Rattle.kak_world.specs.declared.ask.EditError.TheVariants.{Command as OfCommand}
use Rattle.kak_world.specs.declared.command_error.CommandError.{CommandError}
use Rattle.kak_world.specs.declared.command_error.CommandError.TheVariants.{NoSuchBuffer, TooManyBuffers, ModifiedRemain}
use Rattle.scope_tables.specs.declared.names.HookName.TheVariants.{BufCreate, BufClose, BufWritePre}
use Rattle.kak_world.specs.Flat.{Buffer, Flat, buffer_at, is_there, shown_of, name_of}
use Rattle.kak_world.specs.Events.{event_of, noted, displayed}
use Rattle.kak_world.specs.Rows.{RowEnd, Asks, does, fails}
use Rattle.kak_world.specs.Saving.{number_named, is_unsaved, unsaved_names, others_leave}
use Rattle.kak_world.specs.Showing.{shows, has_all_buffers}
use Rattle.kak_world.specs.Dropping.{emptied, dropped}

-- a row that asks for something, and leaves the world
abbrev pub asks : Ask → Flat → RowEnd
asks ask flat = record { world = flat; row = Asks ask }

-- a command is refused, and leaves the world
abbrev pub refuses : CommandError → Flat → RowEnd
refuses error flat = fails (OfCommand error) flat

-- a client is shown the buffer of a number, if there is one of that name, which hooks hear
abbrev pub shown_if : Option ℕ → List ℕ → ℕ → Flat → RowEnd
shown_if None name who flat = refuses (NoSuchBuffer name) flat
shown_if (Some n) name who flat = does (displayed who (shows who n flat))

-- a client is shown the buffer of a name
abbrev pub show_row : List ℕ → ℕ → Flat → RowEnd
show_row name who flat = shown_if (number_named (chars name) flat) name who flat

-- a client is shown the buffer of a number; where none has the name, the file of that name is to be read
abbrev pub edited_by_number : Option ℕ → List ℕ → ℕ → Flat → RowEnd
edited_by_number (Some n) name who flat = does (displayed who (shows who n flat))
edited_by_number None name who flat = if has_all_buffers flat then refuses TooManyBuffers flat else asks (Read name) flat

-- a client edits the buffer or the file of a name
abbrev pub edit_named_row : List ℕ → ℕ → Flat → RowEnd
edit_named_row name who flat = edited_by_number (number_named (chars name) flat) name who flat

-- the name of a buffer of which something would be lost
abbrev pub unsaved_in : Option Buffer → Option (List ℕ)
unsaved_in None = None
unsaved_in (Some b) = if is_unsaved b then Some b.name else None

-- the name of the buffer of a number
abbrev pub name_at : ℕ → Flat → List ℕ
name_at n flat = encode_utf8_all (buffer_at n flat.buffers).name

-- hooks hear that the buffer of a number is to be dropped, and then it is
abbrev pub closing : ℕ → Flat → RowEnd
closing n flat = record { world = noted (event_of BufClose (name_at n flat) n) flat; row = Asks (Then (Drop (record { buffer = n; name = name_at n flat }))) }

-- a buffer is to be dropped, unless something would be lost
abbrev pub dropped_unless : Option (List ℕ) → ℕ → Flat → RowEnd
dropped_unless None n flat = closing n flat
dropped_unless (Some name) n flat = refuses (ModifiedRemain name) flat

abbrev pub drop_at : Bool → ℕ → Flat → RowEnd
drop_at forced n flat = dropped_unless (if forced then None else unsaved_in (slice_index_or flat.buffers n None)) n flat

-- the buffer of a number is to be dropped, if there is one of that name
abbrev pub drop_if : Option ℕ → Bool → List ℕ → Flat → RowEnd
drop_if None forced name flat = refuses (NoSuchBuffer name) flat
drop_if (Some n) forced name flat = drop_at forced n flat

-- the buffer of a name is to be dropped, or the one that a client sees
abbrev pub drop_row : Bool → Option (List ℕ) → ℕ → Flat → RowEnd
drop_row forced None who flat = drop_at forced (shown_of who flat) flat
drop_row forced (Some name) who flat = drop_if (number_named (chars name) flat) forced name flat

-- a client is granted to leave, unless something would be lost
abbrev pub quit_unless : Option (List ℕ) → Flat → RowEnd
quit_unless None flat = asks Leave flat
quit_unless (Some names) flat = refuses (ModifiedRemain names) flat

-- a client leaves: the last one of those that stay may not, while something would be lost
abbrev pub quit_row : ℕ → Flat → RowEnd
quit_row who flat = if others_leave who flat then quit_unless (unsaved_names flat) flat else asks Leave flat

-- how the text that a client sees is to be written: to a file, or to that of the buffer's name
abbrev pub saving_of : Option (List ℕ) → Bool → ℕ → Flat → Saving
saving_of file quits who flat =
    record { file = unwrap_or file (encode_utf8_all (name_of who flat)); buffer = shown_of who flat; name = encode_utf8_all (name_of who flat); quits = quits }

-- hooks hear that a buffer is to be written, and then it is
abbrev pub writing : Saving → Flat → RowEnd
writing saving flat = record { world = noted (event_of BufWritePre saving.file saving.buffer) flat; row = Asks (Then (LaterWrite saving)) }

-- the text that a client sees is to be written
abbrev pub write_row : Option (List ℕ) → Bool → ℕ → Flat → RowEnd
write_row file quits who flat = writing (saving_of file quits who flat) flat

-- whether the buffer of a number is the only one
abbrev pub is_only : ℕ → Flat → Bool
is_only n flat = not (list_any is_some (emptied n flat.buffers))

-- a buffer is dropped; where it was the only one, hooks hear that another one was made
abbrev pub drop_noted : ℕ → Flat → Flat
drop_noted n flat = if is_only n flat then noted (event_of BufCreate (codes "*scratch*") 0) (dropped n flat) else dropped n flat

-- a buffer is written, if it has the number still
unfoldable pub written_later : Saving → Flat → RowEnd
written_later saving flat = if is_there saving.buffer flat.buffers then asks (Write saving) flat else refuses (NoSuchBuffer saving.name) flat

-- a buffer is dropped, if it has the number still
unfoldable pub dropped_later : Dropping → Flat → RowEnd
dropped_later dropping flat = if is_there dropping.buffer flat.buffers then does (drop_noted dropping.buffer flat) else refuses (NoSuchBuffer dropping.name) flat

-- what a row goes on with once the hooks of what it did were run: a buffer is written or dropped; a client leaves
unfoldable pub row_later : Later → ℕ → Flat → RowEnd
row_later (LaterWrite saving) who flat = written_later saving flat
row_later Quit who flat = quit_row who flat
row_later (Drop dropping) who flat = dropped_later dropping flat
