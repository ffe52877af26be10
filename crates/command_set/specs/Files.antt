-- What commands make of the files that they asked for.
use Rattle.std.specs.Prelude.{ℕ, Bool, false, true, if◌then◌else◌, List, [], ◌∷◌, slice_index_or, codes, None, Some, Ok, Err}
use Rattle.std.specs.declared.option.Option.{Option}
use Rattle.std.specs.declared.result.Result.{Result}
use Rattle.std.specs.Str.{chars, bytes_eq}
use Rattle.kak_ports.specs.declared.sink.Put.{Put}
use Rattle.kak_ports.specs.declared.sink.Put.TheVariants as put
use Rattle.kak_files.specs.declared.files.FileRead.{FileRead}
use Rattle.kak_files.specs.declared.files.FileRead.TheVariants as read
use Rattle.text_coding.specs.declared.form.Eol.{Eol}
use Rattle.text_coding.specs.declared.form.Eol.TheVariants.{Lf, Crlf}
use Rattle.text_coding.specs.declared.form.Bom.{Bom}
use Rattle.text_coding.specs.declared.form.Bom.TheVariants.{No, Utf8}
use Rattle.text_coding.specs.declared.form.Loaded.{Loaded}
use Rattle.text_coding.specs.declared.form.DecodeError.{DecodeError}
use Rattle.text_coding.specs.declared.form.DecodeError.TheVariants as coding
use Rattle.text_coding.specs.Coding.{loaded, saved}
use Rattle.scope_options.specs.declared.scope.Scope.{Scope}
use Rattle.scope_options.specs.declared.scope.Scope.TheVariants.{Buffer as InBuffer}
use Rattle.scope_options.specs.declared.value.OptionValue.{OptionValue}
use Rattle.scope_options.specs.declared.value.OptionValue.TheVariants.{Str}
use Rattle.scope_options.specs.declared.setting.Setting.{Setting}
use Rattle.scope_options.specs.declared.options.OptionError.{OptionError}
use Rattle.scope_options.specs.Settings.{seen_from}
use Rattle.scope_options.specs.Changes.{option_set_in}
use Rattle.kak_world.specs.declared.ask.Saving.{Saving}
use Rattle.kak_world.specs.declared.ask.EditError.{EditError}
use Rattle.kak_world.specs.declared.ask.EditError.TheVariants.{Command as OfCommand, TextFull, NoMemory}
use Rattle.kak_world.specs.declared.command_error.CommandError.TheVariants.{FileFault, NotUtf8, TooManyBuffers}
use Rattle.kak_world.specs.Flat.{Buffer, Flat, options_of, with_options}
use Rattle.kak_world.specs.Rows.{RowEnd, does, fails}
use Rattle.kak_world.specs.Saving.{is_named, saved_in}
use Rattle.kak_world.specs.Showing.{first_gap, has_all_buffers, buffer_opened, shows}
use Rattle.scope_tables.specs.declared.names.HookName.TheVariants.{BufCreate, BufOpenFile, BufWritePost}
use Rattle.kak_world.specs.declared.ask.Ask.TheVariants.{Then}
use Rattle.kak_world.specs.declared.ask.Later.TheVariants.{Quit}
use Rattle.kak_world.specs.Events.{event_of, noted, displayed}
use Rattle.command_set.specs.Buffers.{asks, refuses}

-- the world with an option set at a scope to a word, where the option takes it
abbrev pub set_or_same : Result (List Setting) OptionError → Flat → Flat
set_or_same (Ok rows) flat = with_options rows flat
set_or_same (Err e) flat = flat

abbrev pub set_to : Scope → List ℕ → List ℕ → Flat → Flat
set_to scope name word flat = set_or_same (option_set_in scope name (word ∷ []) false (options_of flat)) flat

-- the words of the options that say in which form a text is written
abbrev pub eol_word : Eol → List ℕ
eol_word Lf = codes "lf"
eol_word Crlf = codes "crlf"

abbrev pub bom_word : Bom → List ℕ
bom_word No = codes "none"
bom_word Utf8 = codes "utf8"

-- the form that a file had is set in the buffer of a number
abbrev pub formatted : ℕ → Eol → Bom → Flat → Flat
formatted n eol bom flat = set_to (InBuffer n) (codes "BOM") (bom_word bom) (set_to (InBuffer n) (codes "eolformat") (eol_word eol) flat)

-- a client was shown a buffer that was made, and, where that was done so, was made of a file: hooks hear the one behind the other
abbrev pub made_noted : List ℕ → ℕ → ℕ → Flat → Flat
made_noted name n who flat = displayed who (noted (event_of BufCreate name n) flat)

abbrev pub loaded_noted : List ℕ → ℕ → ℕ → Flat → Flat
loaded_noted name n who flat = displayed who (noted (event_of BufOpenFile name n) (noted (event_of BufCreate name n) flat))

-- a file's text as a buffer that is shown to a client, in the form that the file had
abbrev pub loaded_as : List ℕ → Loaded → ℕ → Flat → Flat
loaded_as name l who flat = shows who (first_gap flat.buffers) (formatted (first_gap flat.buffers) l.eol l.bom (buffer_opened (chars name) true l.text flat))

-- a file's text is opened so
abbrev pub load_row : List ℕ → Loaded → ℕ → Flat → RowEnd
load_row name l who flat =
    if has_all_buffers flat then refuses TooManyBuffers flat
    else does (loaded_noted name (first_gap flat.buffers) who (loaded_as name l who flat))

-- an empty buffer for a file that isn't there, with a text of one newline, that is shown to a client
abbrev pub made_empty : List ℕ → ℕ → Flat → Flat
made_empty name who flat = shows who (first_gap flat.buffers) (buffer_opened (chars name) true (10 ∷ []) flat)

-- a buffer is opened so
abbrev pub empty_row : List ℕ → ℕ → Flat → RowEnd
empty_row name who flat =
    if has_all_buffers flat then refuses TooManyBuffers flat
    else does (made_noted name (first_gap flat.buffers) who (made_empty name who flat))

-- by what a client is told why bytes are no text
abbrev pub coding_refusal : DecodeError → EditError
coding_refusal (coding.NotUtf8 at) = OfCommand (NotUtf8 at)
coding_refusal coding.TextFull = TextFull
coding_refusal coding.NoMemory = NoMemory

-- the text of a file's bytes, or why they are none
abbrev pub loaded_row : Result Loaded DecodeError → List ℕ → ℕ → Flat → RowEnd
loaded_row (Ok l) name who flat = load_row name l who flat
loaded_row (Err e) name who flat = fails (coding_refusal e) flat

-- what is made of a file that was to be read
unfoldable pub row_read : List ℕ → FileRead → ℕ → Flat → RowEnd
row_read name (read.Bytes bytes) who flat = loaded_row (loaded bytes) name who flat
row_read name read.NotThere who flat = empty_row name who flat
row_read name read.TooBig who flat = fails TextFull flat
row_read name read.Failed who flat = refuses (FileFault name) flat

-- whether an option's value is a text
abbrev pub is_text : List ℕ → OptionValue → Bool
is_text text (Str t) = bytes_eq t text
is_text text _ = false

-- whether there is a value, and it is a text
abbrev pub is_seen_as : List ℕ → Option OptionValue → Bool
is_seen_as text None = false
is_seen_as text (Some value) = is_text text value

-- the form in which the text of the buffer of a number is written: as its options say, or those for everywhere
abbrev pub eol_of : ℕ → Flat → Eol
eol_of n flat = if is_seen_as (codes "crlf") (seen_from (InBuffer n) (codes "eolformat") (options_of flat)) then Crlf else Lf

abbrev pub bom_of : ℕ → Flat → Bom
bom_of n flat = if is_seen_as (codes "utf8") (seen_from (InBuffer n) (codes "BOM") (options_of flat)) then Utf8 else No

-- the bytes of a buffer's text in a form; none without a buffer
abbrev pub bytes_in : Eol → Bom → Option Buffer → List ℕ
bytes_in eol bom None = []
bytes_in eol bom (Some b) = saved b.story.text eol bom

-- the bytes that are to be written
unfoldable pub saved_bytes : Saving → Flat → List ℕ
saved_bytes saving flat = bytes_in (eol_of saving.buffer flat) (bom_of saving.buffer flat) (slice_index_or flat.buffers saving.buffer None)

-- a buffer whose text was written to the file of its own name counts as saved
abbrev pub marked_if_own : Saving → Flat → Flat
marked_if_own saving flat =
    if is_named (chars saving.file) (slice_index_or flat.buffers saving.buffer None) then saved_in saving.buffer flat else flat

-- a client may be to leave behind a write, once hooks heard of that
abbrev pub behind_write : Bool → Flat → RowEnd
behind_write true flat = asks (Then Quit) flat
behind_write false flat = does flat

-- what is made of a file that was to be written, which hooks hear where it was
unfoldable pub row_saved : Saving → Put → ℕ → Flat → RowEnd
row_saved saving put.Done who flat = behind_write saving.quits (noted (event_of BufWritePost saving.file saving.buffer) (marked_if_own saving flat))
row_saved saving put.Failed who flat = refuses (FileFault saving.file) flat
