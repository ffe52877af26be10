-- The rows of normal mode: what the world is after each key, and what comes next.
use Rattle.std.specs.Prelude.{ℕ, ◌+◌, ◌-◌, ◌*◌, min, Bool, false, not, ◌&&◌, ◌==◌, if◌then◌else◌, List, [], ◌∷◌, None, Some, option_and_then}
use Rattle.std.specs.declared.option.Option.{Option}
use Rattle.key_names.specs.declared.key.Key.{Key}
use Rattle.key_names.specs.declared.key.Base.{Base}
use Rattle.key_names.specs.declared.key.Base.TheVariants as base
use Rattle.key_names.specs.Modified.{is_modified}
use Rattle.motion_keys.specs.declared.landmarks.Place.{Place}
use Rattle.motion_keys.specs.declared.landmarks.Place.TheVariants as place
use Rattle.motion_keys.specs.declared.char_moves.CharSearch.{CharSearch}
use Rattle.motion_keys.specs.declared.finding.Motion.TheVariants.{Character, To}
use Rattle.motion_keys.specs.declared.finding.Reach.{Reach}
use Rattle.edit_line.specs.Halves.{empty}
use Rattle.kak_world.specs.declared.own.Mode.TheVariants.{Prompt}
use Rattle.kak_world.specs.declared.purpose.Purpose.{Purpose}
use Rattle.kak_world.specs.declared.purpose.Use.TheVariants.{Step, Add}
use Rattle.kak_world.specs.Flat.{Flat, count_of, register_of, pending_of, with_own}
use Rattle.kak_world.specs.Rows.{RowEnd, does}
use Rattle.kak_world.specs.Events.{mode_entered}
use Rattle.text_objects.specs.declared.kinds.Object.{Object}
use Rattle.text_objects.specs.declared.kinds.Object.TheVariants as object
use Rattle.key_rows.specs.declared.each.Extent.{Extent}
use Rattle.key_rows.specs.declared.each.Each.TheVariants as each
use Rattle.key_rows.specs.Each.{each_changed, each_moved}
use Rattle.key_rows.specs.Naming.{register_named}
use Rattle.key_rows.specs.Patterns.{asks_for_last, main_remembered}
use Rattle.key_rows.specs.Edits.{fill_row, edit_done}
use Rattle.key_rows.specs.Entering.{enter_row}
use Rattle.key_rows.specs.Playing.{row_macro}
use Rattle.normal_keys.specs.declared.prefixes.Prefix.{Prefix}
use Rattle.normal_keys.specs.declared.actions.Action.{Action}
use Rattle.normal_keys.specs.declared.actions.Action.TheVariants as action
use Rattle.normal_keys.specs.Actions.{code, looked_up, action_of}
use Rattle.normal_keys.specs.Running.{runs}
use Rattle.normal_keys.specs.Listing.{list_changed}
use Rattle.normal_keys.specs.declared.actions.Repeated.TheVariants.{Moves}
use Rattle.normal_keys.specs.Repeating.{once}
use Rattle.normal_keys.specs.Recording.{macro_of, recording_of, recording_ended, recording_turned}

-- a count with one more digit, at most 999,999
abbrev pub with_digit : ℕ → ℕ → ℕ
with_digit count digit = min 999999 (count * 10 + digit)

-- what stands before a key of a client
abbrev pub prefix_of : ℕ → Flat → Prefix
prefix_of who flat = record { count = count_of who flat; register = register_of who flat }

-- a client without a count and a register, and with no key that waits
abbrev pub client_cleared : ℕ → Flat → Flat
client_cleared who flat = with_own who (λ o. record o { count = 0; register = None; pending = None }) flat

-- a client with a count, and with a register that was chosen, or none
abbrev pub prefixed : ℕ → Option ℕ → ℕ → Flat → Flat
prefixed count register who flat = with_own who (λ o. record o { count = count; register = register }) flat

-- a key of a client waits for the next one, with a count
abbrev pub waiting : Key → ℕ → ℕ → Flat → Flat
waiting key count who flat = with_own who (λ o. record o { count = count; pending = Some key }) flat

-- an empty prompt, which hooks hear
abbrev pub open_prompt : Purpose → ℕ → Flat → Flat
open_prompt purpose who flat = with_own who (λ o. record o { mode = Prompt; purpose = purpose; prompt = empty }) (mode_entered Prompt who flat)

-- the first character of the line that the count says, or, without one, waiting for the name of a place
abbrev pub go_to_line : Key → Reach → ℕ → ℕ → Flat → Flat
go_to_line key reach count who flat =
    if count == 0 then waiting key 0 who flat
    else each_moved (To (place.Line (count - 1))) reach who flat

-- what a key does, by its action, with what stands before it, in a world that has that no more
abbrev pub acted : Key → Action → Prefix → ℕ → Flat → RowEnd
acted key action.Nothing prefix who flat = does flat
acted key (action.Digit digit) prefix who flat = does (prefixed (with_digit prefix.count digit) prefix.register who flat)
acted key action.ChoosesRegister prefix who flat = does (waiting key prefix.count who flat)
acted key (action.Repeats what) prefix who flat = runs prefix.count (once what prefix.register who) flat
acted key (action.MovesOnce motion reach) prefix who flat = does (each_moved motion reach who flat)
acted key (action.Seeks search reach) prefix who flat = does (waiting key prefix.count who flat)
acted key (action.Goes reach) prefix who flat = does (go_to_line key reach prefix.count who flat)
acted key (action.Shapes shape) prefix who flat = does (each_changed (each.Reshaped shape) who flat)
acted key (action.Lists change) prefix who flat = list_changed change who flat
acted key (action.Edits edit) prefix who flat = edit_done edit prefix.register who flat
acted key (action.SelectsObject extent) prefix who flat = does (waiting key prefix.count who flat)
acted key action.Fills prefix who flat = does (waiting key prefix.count who flat)
acted key (action.Inserts entry) prefix who flat = enter_row entry prefix.register who flat
acted key (action.Prompts purpose) prefix who flat = does (open_prompt purpose who flat)
acted key (action.StepsToMatch direction) prefix who flat = asks_for_last (Step direction (prefix.count - 1)) flat
acted key (action.AddsMatch direction) prefix who flat = asks_for_last (Add direction (prefix.count - 1)) flat
acted key (action.Remembers bounds) prefix who flat = main_remembered bounds who flat
acted key action.Records prefix who flat = recording_turned (recording_of who flat) prefix.register who flat
acted key action.EndsRecording prefix who flat = recording_ended (recording_of who flat) who flat
acted key action.Plays prefix who flat = row_macro (macro_of prefix) who flat

-- the character that a key without modifiers stands for
abbrev pub base_character : Base → Option ℕ
base_character (base.Char c) = Some c
base_character base.Ret = Some 10
base_character base.Tab = Some 9
base_character _ = None

-- the character that a key stands for where one is waited for
abbrev pub character_of : Key → Option ℕ
character_of key = if is_modified key then None else base_character key.base

-- the names of places
abbrev pub place_names : List (ℕ × Option Place)
place_names =
    (code "g", Some place.First)
    ∷ (code "k", Some place.First)
    ∷ (code "j", Some place.LastLine)
    ∷ (code "e", Some place.Last)
    ∷ (code "h", Some place.LineStart)
    ∷ (code "l", Some place.LineEnd)
    ∷ (code "i", Some place.NonBlank)
    ∷ (code "t", Some place.WindowTop)
    ∷ (code "c", Some place.WindowMiddle)
    ∷ (code "b", Some place.WindowBottom)
    ∷ []

abbrev pub place_named : ℕ → Option Place
place_named c = looked_up None c place_names

-- the place that a key names
abbrev pub place_of : Key → Option Place
place_of key = option_and_then place_named (character_of key)

-- the names of objects; those of brackets and quotes are a letter and the marks themselves. The grave mark is 96, and " is 34
abbrev pub objects : List (ℕ × Option Object)
objects =
    (code "w", Some object.Word)
    ∷ (code "p", Some object.Paragraph)
    ∷ (code "s", Some object.Sentence)
    ∷ (code " ", Some object.Blanks)
    ∷ (code "i", Some object.Indent)
    ∷ (code "n", Some object.Number)
    ∷ (code "b", Some object.Round)
    ∷ (code "(", Some object.Round)
    ∷ (code ")", Some object.Round)
    ∷ (code "B", Some object.Curly)
    ∷ (code "{", Some object.Curly)
    ∷ (code "}", Some object.Curly)
    ∷ (code "r", Some object.Square)
    ∷ (code "[", Some object.Square)
    ∷ (code "]", Some object.Square)
    ∷ (code "a", Some object.Angle)
    ∷ (code "<", Some object.Angle)
    ∷ (code ">", Some object.Angle)
    ∷ (code "Q", Some object.DoubleQuote)
    ∷ (34, Some object.DoubleQuote)
    ∷ (code "q", Some object.Quote)
    ∷ (code "'", Some object.Quote)
    ∷ (code "g", Some object.Grave)
    ∷ (96, Some object.Grave)
    ∷ []

abbrev pub object_named : ℕ → Option Object
object_named c = looked_up None c objects

-- whether a key stands for `w` (119) with alt alone
abbrev pub is_w : Base → Bool
is_w (base.Char c) = c == 119
is_w _ = false

abbrev pub is_alt_w : Key → Bool
is_alt_w key = key.alt && not key.control && not key.shift && is_w key.base

-- the object that a key names: `w` with alt names the word of which marks are parts too
abbrev pub object_of : Key → Option Object
object_of key = if is_alt_w key then Some object.BigWord else option_and_then object_named (character_of key)

-- what is done with the next key, for which another one waited; one that doesn't fit does nothing
abbrev pub sought_character : CharSearch → Reach → ℕ → ℕ → Option ℕ → Flat → RowEnd
sought_character search reach count who None flat = does flat
sought_character search reach count who (Some c) flat = runs count (once (Moves (Character search c) reach) None who) flat

abbrev pub filled_row : ℕ → Option ℕ → Flat → RowEnd
filled_row who None flat = does flat
filled_row who (Some c) flat = fill_row c who flat

-- the register that a key names is chosen for the next one
abbrev pub chosen_register : ℕ → ℕ → Option ℕ → Flat → RowEnd
chosen_register count who None flat = does flat
chosen_register count who (Some c) flat = does (prefixed count (Some c) who flat)

abbrev pub sought_place : Reach → ℕ → Option Place → Flat → RowEnd
sought_place reach who None flat = does flat
sought_place reach who (Some p) flat = does (each_moved (To p) reach who flat)

abbrev pub sought_object : Extent → ℕ → Option Object → Flat → RowEnd
sought_object extent who None flat = does flat
sought_object extent who (Some object) flat = does (each_changed (each.Object extent object) who flat)

-- what a key does for which another one waited, by the action of that one; only those that look for a character, go to a
-- place, select an object, fill or choose a register wait
abbrev pub answered : Action → Key → ℕ → ℕ → Flat → RowEnd
answered (action.Seeks search reach) key count who flat = sought_character search reach count who (character_of key) flat
answered (action.Goes reach) key count who flat = sought_place reach who (place_of key) flat
answered (action.SelectsObject extent) key count who flat = sought_object extent who (object_of key) flat
answered action.Fills key count who flat = filled_row who (character_of key) flat
answered action.ChoosesRegister key count who flat = chosen_register count who (register_named key) flat
answered _ key count who flat = does flat

-- a key, by the one that waits for it, if one does
abbrev pub row_pending : Option Key → Key → Prefix → ℕ → Flat → RowEnd
row_pending None key prefix who flat = acted key (action_of key) prefix who flat
row_pending (Some waits) key prefix who flat = answered (action_of waits) key prefix.count who flat

-- the row of a key in normal mode: it uses up what stands before it
unfoldable pub row_normal : Key → ℕ → Flat → RowEnd
row_normal key who flat = row_pending (pending_of who flat) key (prefix_of who flat) who (client_cleared who flat)
