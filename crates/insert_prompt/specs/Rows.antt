-- The rows of insert mode and of prompts: what each key does.
use Rattle.std.specs.Prelude.{ℕ, false, not, ◌==◌, ◌&&◌, ◌||◌, if◌then◌else◌, List, [], ◌∷◌, map, encode_utf8_all, None, Some}
use Rattle.std.specs.declared.option.Option.{Option}
use Rattle.key_names.specs.declared.key.Key.{Key}
use Rattle.key_names.specs.declared.key.Base.{Base}
use Rattle.key_names.specs.declared.key.Base.TheVariants.{Char, Ret, Tab, Backspace, Del, Left, Right, Up, Down, Home, End, Esc}
use Rattle.key_names.specs.Modified.{is_modified}
use Rattle.edit_line.specs.Halves.{Halves, whole, empty}
use Rattle.edit_line.specs.Edits.{put_before_cursor, erased_before, erased_at, gone_left, gone_right, gone_home, gone_to_end}
use Rattle.kak_world.specs.declared.ask.Ask.TheVariants.{Commands}
use Rattle.kak_world.specs.declared.own.Mode.TheVariants.{Normal, Insert, Prompt}
use Rattle.edit_ops.specs.declared.kinds.Erase.{Erase}
use Rattle.edit_ops.specs.declared.kinds.Erase.TheVariants.{BeforeCursor, AtCursor}
use Rattle.edit_ops.specs.declared.kinds.Put.TheVariants.{BeforeCursor as PutBeforeCursor}
use Rattle.edit_ops.specs.Typing.{typed_before}
use Rattle.edit_ops.specs.Erasing.{erasures}
use Rattle.directions.specs.declared.direction.Direction.TheVariants.{Forward, Backward}
use Rattle.motion_keys.specs.declared.finding.Motion.TheVariants.{Step, Line, To}
use Rattle.motion_keys.specs.declared.finding.Reach.TheVariants.{Select}
use Rattle.motion_keys.specs.declared.landmarks.Place.TheVariants.{LineStart}
use Rattle.key_rows.specs.declared.each.Each.TheVariants as each
use Rattle.key_rows.specs.declared.shapes.Shape.TheVariants.{CursorNewline, OneBack}
use Rattle.kak_world.specs.declared.purpose.Purpose.{Purpose}
use Rattle.kak_world.specs.declared.purpose.Purpose.TheVariants as purpose
use Rattle.kak_world.specs.declared.purpose.Use.{Use}
use Rattle.kak_world.specs.Registers.{set_row}
use Rattle.key_rows.specs.Sequence.{then_row}
use Rattle.key_rows.specs.Each.{each_changed, each_moved}
use Rattle.key_rows.specs.Naming.{register_named}
use Rattle.key_rows.specs.Reading.{strings_read, joined_text}
use Rattle.key_rows.specs.Patterns.{asks_for, asks_for_last}
use Rattle.key_rows.specs.Edits.{with_strings, puts_of}
use Rattle.kak_world.specs.Flat.{Flat, sels_of, pending_of, is_appending, purpose_of, prompt_of, with_own}
use Rattle.kak_world.specs.Changing.{commits}
use Rattle.kak_world.specs.Rows.{RowEnd, Asks, does}
use Rattle.kak_world.specs.Editing.{edit_row}
use Rattle.kak_world.specs.Events.{mode_left, character_typed}

-- characters go in before each cursor
abbrev pub typed : List ℕ → ℕ → Flat → RowEnd
typed s who flat = edit_row (map (typed_before s) (sels_of who flat).list) who flat

-- a character is erased before each cursor, where there is one, or at it
abbrev pub erased_row : Erase → ℕ → Flat → RowEnd
erased_row what who flat = edit_row (erasures what (sels_of who flat).list) who flat

-- a character goes in before each cursor, which hooks hear once
abbrev pub character_row : ℕ → ℕ → Flat → RowEnd
character_row c who flat = then_row (typed (c ∷ []) who flat) (λ w. does (character_typed c who w))

-- where insert mode was entered behind selections, the cursors go back
abbrev pub taken_back : ℕ → Flat → Flat
taken_back who flat = if is_appending who flat then each_changed (each.Reshaped OneBack) who flat else flat

-- the client is in normal mode, which hooks hear
abbrev pub leave_insert : ℕ → Flat → Flat
leave_insert who flat = with_own who (λ o. record o { mode = Normal; appending = false }) (taken_back who (mode_left Insert who flat))

-- the row of a key without modifiers in insert mode: a character goes in as itself, return as a newline (10), tab as a
-- tab (9); others erase or move
abbrev pub insert_base : Base → ℕ → Flat → RowEnd
insert_base (Char c) who flat = character_row c who flat
insert_base Ret who flat = character_row 10 who flat
insert_base Tab who flat = character_row 9 who flat
insert_base Backspace who flat = erased_row BeforeCursor who flat
insert_base Del who flat = erased_row AtCursor who flat
insert_base Left who flat = does (each_moved (Step Backward) Select who flat)
insert_base Right who flat = does (each_moved (Step Forward) Select who flat)
insert_base Up who flat = does (each_moved (Line Backward) Select who flat)
insert_base Down who flat = does (each_moved (Line Forward) Select who flat)
insert_base Home who flat = does (each_moved (To LineStart) Select who flat)
insert_base End who flat = does (each_changed (each.Reshaped CursorNewline) who flat)
insert_base Esc who flat = does (leave_insert who flat)
insert_base _ who flat = does flat

-- a client for whose next key one waits, or none
abbrev pub awaiting : Option Key → ℕ → Flat → Flat
awaiting key who flat = with_own who (λ o. record o { pending = key }) flat

-- what a character does with control: `<c-u>` commits what is pending of the client, and `<c-r>` waits for the name of a register
abbrev pub control_character : ℕ → Key → ℕ → Flat → RowEnd
control_character c key who flat = if c == 117 then does (commits who flat) else (if c == 114 then does (awaiting (Some key) who flat) else does flat)

-- the row of a key with control alone in insert mode
abbrev pub insert_control : Base → Key → ℕ → Flat → RowEnd
insert_control (Char c) key who flat = control_character c key who flat
insert_control _ key who flat = does flat

-- the n-th string of a register goes in before the n-th cursor
abbrev pub put_register : ℕ → ℕ → Flat → RowEnd
put_register name who flat = with_strings (strings_read name who flat) name (λ strings w. edit_row (puts_of PutBeforeCursor strings who w) who w) flat

abbrev pub put_named : Option ℕ → ℕ → Flat → RowEnd
put_named None who flat = does flat
put_named (Some name) who flat = put_register name who flat

-- the row of a key in insert mode that no other key waits for; a key without a row does nothing
abbrev pub insert_first : Key → ℕ → Flat → RowEnd
insert_first key who flat =
    if key.control && not (key.alt || key.shift) then insert_control key.base key who flat
    else (if is_modified key then does flat else insert_base key.base who flat)

-- by the key that waits for it, if one does
abbrev pub insert_pending : Option Key → Key → ℕ → Flat → RowEnd
insert_pending None key who flat = insert_first key who flat
insert_pending (Some waits) key who flat = put_named (register_named key) who (awaiting None who flat)

-- the row of a key in insert mode
unfoldable pub row_insert : Key → ℕ → Flat → RowEnd
row_insert key who flat = insert_pending (pending_of who flat) key who flat

-- the line of the prompt is edited
abbrev pub prompt_edited : (Halves → Halves) → ℕ → Flat → Flat
prompt_edited f who flat = with_own who (λ o. record o { prompt = f o.prompt }) flat

-- what a key without modifiers does to the line of a prompt at its cursor: it erases there, or moves the cursor; any other
-- leaves the line
abbrev pub line_edited : Base → Halves → Halves
line_edited Backspace line = erased_before line
line_edited Del line = erased_at line
line_edited Left line = gone_left line
line_edited Right line = gone_right line
line_edited Home line = gone_home line
line_edited End line = gone_to_end line
line_edited _ line = line

-- the prompt is left, which hooks hear, and is empty
abbrev pub leave_prompt : ℕ → Flat → Flat
leave_prompt who flat = with_own who (λ o. record o { mode = Normal; prompt = empty }) (mode_left Prompt who flat)

-- what was typed, as a register holds it
abbrev pub typed_strings : ℕ → Flat → List (List ℕ)
typed_strings who flat = encode_utf8_all (whole (prompt_of who flat)) ∷ []

-- the prompt is left, and a register holds what was typed
abbrev pub typed_kept : ℕ → ℕ → Flat → RowEnd
typed_kept name who flat = set_row name (typed_strings who flat) (leave_prompt who flat)

-- what was typed is run as commands, and held by register `:` (58)
abbrev pub commands_accepted : ℕ → Flat → RowEnd
commands_accepted who flat = then_row (typed_kept 58 who flat) (λ w. record { world = w; row = Asks (Commands (whole (prompt_of who flat))) })

-- what was typed is the pattern that is asked for, and held by register `/` (47); where nothing was, it is the one looked for last
abbrev pub pattern_typed : List ℕ → Use → ℕ → Flat → RowEnd
pattern_typed [] wanted who flat = asks_for_last wanted (leave_prompt who flat)
pattern_typed (c ∷ cs) wanted who flat = then_row (typed_kept 47 who flat) (asks_for (c ∷ cs) wanted)

-- a prompt that is accepted, by what it is for
abbrev pub accepted_as : Purpose → ℕ → Flat → RowEnd
accepted_as purpose.Commands who flat = commands_accepted who flat
accepted_as (purpose.Pattern wanted) who flat = pattern_typed (whole (prompt_of who flat)) wanted who flat

abbrev pub accepted : ℕ → Flat → RowEnd
accepted who flat = accepted_as (purpose_of who flat) who flat

-- the row of a key without modifiers in a prompt: a character goes in before the cursor; the prompt is accepted, or left; others
-- edit the line, or leave it as it is
abbrev pub prompt_base : Base → ℕ → Flat → RowEnd
prompt_base (Char c) who flat = does (prompt_edited (put_before_cursor (c ∷ [])) who flat)
prompt_base Ret who flat = accepted who flat
prompt_base Esc who flat = does (leave_prompt who flat)
prompt_base base who flat = does (prompt_edited (line_edited base) who flat)

-- the row of a key with control alone in a prompt: `<c-r>` (114) waits for the name of a register
abbrev pub prompt_control : Base → Key → ℕ → Flat → RowEnd
prompt_control (Char c) key who flat = if c == 114 then does (awaiting (Some key) who flat) else does flat
prompt_control _ key who flat = does flat

-- the strings of a register go in before the cursor of the prompt, joined by spaces
abbrev pub prompt_register : ℕ → ℕ → Flat → RowEnd
prompt_register name who flat = with_strings (strings_read name who flat) name (λ strings w. does (prompt_edited (put_before_cursor (joined_text strings)) who w)) flat

abbrev pub prompt_named : Option ℕ → ℕ → Flat → RowEnd
prompt_named None who flat = does flat
prompt_named (Some name) who flat = prompt_register name who flat

-- the row of a key in a prompt that no other key waits for; a key without a row does nothing
abbrev pub prompt_first : Key → ℕ → Flat → RowEnd
prompt_first key who flat =
    if key.control && not (key.alt || key.shift) then prompt_control key.base key who flat
    else (if is_modified key then does flat else prompt_base key.base who flat)

-- by the key that waits for it, if one does
abbrev pub prompt_pending : Option Key → Key → ℕ → Flat → RowEnd
prompt_pending None key who flat = prompt_first key who flat
prompt_pending (Some waits) key who flat = prompt_named (register_named key) who (awaiting None who flat)

-- the row of a key in a prompt
unfoldable pub row_prompt : Key → ℕ → Flat → RowEnd
row_prompt key who flat = prompt_pending (pending_of who flat) key who flat
