-- The table of normal mode: what each key does.
use Prim.Native.String.{String}
use Rattle.std.specs.Prelude.{ℕ, ◌==◌, ◌||◌, if◌then◌else◌, List, [], ◌∷◌, slice_index, codes}
use Rattle.std.specs.Char.{digit_value, is_ascii_digit, is_ascii_uppercase, to_ascii_lowercase}
use Rattle.key_names.specs.declared.key.Key.{Key}
use Rattle.key_names.specs.declared.key.Base.{Base}
use Rattle.key_names.specs.declared.key.Base.TheVariants as base
use Rattle.directions.specs.declared.direction.Direction.{Direction}
use Rattle.directions.specs.declared.direction.Direction.TheVariants.{Forward, Backward}
use Rattle.motion_keys.specs.declared.char_moves.Until.{Until}
use Rattle.motion_keys.specs.declared.char_moves.Until.TheVariants.{On, Before}
use Rattle.motion_keys.specs.declared.words.WordMove.TheVariants.{Next as NextWord, End, Back}
use Rattle.motion_keys.specs.declared.words.WordKind.TheVariants.{Small, Big}
use Rattle.motion_keys.specs.declared.landmarks.LinePart.TheVariants.{ToStart, ToEnd}
use Rattle.motion_keys.specs.declared.finding.Motion.{Motion}
use Rattle.motion_keys.specs.declared.finding.Motion.TheVariants.{Step, Line, Page, Word, Along, Bracket}
use Rattle.motion_keys.specs.declared.finding.Reach.{Reach}
use Rattle.motion_keys.specs.declared.finding.Reach.TheVariants.{Select, Extend}
use Rattle.undo_model.specs.declared.travel.Travel.TheVariants.{Undo, Redo}
use Rattle.list_keys.specs.declared.cuts.Cut.TheVariants as cut
use Rattle.list_keys.specs.declared.parts.Split.TheVariants as split
use Rattle.list_keys.specs.declared.changes.ListChange.TheVariants as list
use Rattle.kak_world.specs.declared.purpose.Use.{Use}
use Rattle.kak_world.specs.declared.purpose.Use.TheVariants as pattern
use Rattle.kak_world.specs.declared.purpose.Purpose.TheVariants.{Commands, Pattern}
use Rattle.key_rows.specs.declared.patterns.Bounds.TheVariants.{Anywhere, AtWordEnds}
use Rattle.key_rows.specs.declared.shapes.Shape.TheVariants as shape
use Rattle.edit_ops.specs.declared.kinds.Put.TheVariants.{Before as PutBefore, After as PutAfter}
use Rattle.edit_ops.specs.declared.kinds.Indent.TheVariants.{More, Less}
use Rattle.key_rows.specs.declared.edits.Edit.TheVariants as edit
use Rattle.key_rows.specs.declared.entries.InsertEntry.TheVariants as entry
use Rattle.key_rows.specs.declared.each.Extent.TheVariants.{Inner, Around}
use Rattle.normal_keys.specs.declared.actions.Repeated.TheVariants as repeated
use Rattle.normal_keys.specs.declared.actions.Action.{Action}
use Rattle.normal_keys.specs.declared.actions.Action.TheVariants as action

-- the number of a character, by the character
abbrev pub code : String → ℕ
code c = slice_index (codes c) 0

-- what stands beside a character in the first of some rows that has it; in none, the other
abbrev pub looked_up : {A : Type 0} → A → ℕ → List (ℕ × A) → A
looked_up other c [] = other
looked_up other c (row ∷ rows) = if c == row.0 then row.1 else looked_up other c rows

-- a motion of each selection, as often as the count says
abbrev pub moves : Motion → Reach → Action
moves motion reach = action.Repeats (repeated.Moves motion reach)

-- looking for a character, behind the cursor or before it, onto it or up to it
abbrev pub seeks : Direction → Until → Reach → Action
seeks direction until reach = action.Seeks (record { direction = direction; until = until }) reach

-- a prompt for a pattern, of which a use is made
abbrev pub asks : Use → Action
asks wanted = action.Prompts (Pattern wanted)

-- small letters; their capitals do the same and extend
abbrev pub letters : Reach → List (ℕ × Action)
letters reach =
    (code "h", moves (Step Backward) reach)
    ∷ (code "j", moves (Line Forward) reach)
    ∷ (code "k", moves (Line Backward) reach)
    ∷ (code "l", moves (Step Forward) reach)
    ∷ (code "w", moves (Word NextWord Small) reach)
    ∷ (code "e", moves (Word End Small) reach)
    ∷ (code "b", moves (Word Back Small) reach)
    ∷ (code "f", seeks Forward On reach)
    ∷ (code "t", seeks Forward Before reach)
    ∷ (code "g", action.Goes reach)
    ∷ []

-- small letters with alt; their capitals too
abbrev pub alt_letters : Reach → List (ℕ × Action)
alt_letters reach =
    (code "w", moves (Word NextWord Big) reach)
    ∷ (code "e", moves (Word End Big) reach)
    ∷ (code "b", moves (Word Back Big) reach)
    ∷ (code "f", seeks Backward On reach)
    ∷ (code "t", seeks Backward Before reach)
    ∷ (code "h", action.MovesOnce (Along ToStart) reach)
    ∷ (code "l", action.MovesOnce (Along ToEnd) reach)
    ∷ []

-- the other characters
abbrev pub signs : List (ℕ × Action)
signs =
    (code "x", action.Shapes shape.Lines)
    ∷ (code "m", action.MovesOnce Bracket Select)
    ∷ (code ";", action.Shapes shape.Cursor)
    ∷ (code "%", action.Lists list.WholeText)
    ∷ (code ",", action.Lists list.MainAlone)
    ∷ (code "_", action.Lists (list.Cut cut.Trimmed))
    ∷ (code "C", action.Lists (list.Copied Forward))
    ∷ (code "(", action.Repeats (repeated.TurnsMain Backward))
    ∷ (code ")", action.Repeats (repeated.TurnsMain Forward))
    ∷ (code "u", action.Repeats (repeated.Travels Undo))
    ∷ (code "U", action.Repeats (repeated.Travels Redo))
    ∷ (code "d", action.Edits edit.Cut)
    ∷ (code "y", action.Edits edit.Keep)
    ∷ (code "R", action.Edits edit.Replace)
    ∷ (code "r", action.Fills)
    ∷ (code ">", action.Edits (edit.Indent More))
    ∷ (code "<", action.Edits (edit.Indent Less))
    ∷ (code "&", action.Edits edit.Align)
    ∷ (code "p", action.Repeats (repeated.Puts PutAfter))
    ∷ (code "P", action.Repeats (repeated.Puts PutBefore))
    ∷ (code "i", action.Inserts entry.Before)
    ∷ (code "a", action.Inserts entry.Behind)
    ∷ (code "I", action.Inserts entry.FirstLine)
    ∷ (code "A", action.Inserts entry.LastNewline)
    ∷ (code "o", action.Inserts (entry.Open Forward))
    ∷ (code "O", action.Inserts (entry.Open Backward))
    ∷ (code "c", action.Inserts entry.Cut)
    ∷ (34, action.ChoosesRegister)
    ∷ (code ":", action.Prompts Commands)
    ∷ (code "s", asks pattern.Select)
    ∷ (code "S", asks pattern.Split)
    ∷ (code "/", asks (pattern.Search Forward))
    ∷ (code "?", asks (pattern.Reach Forward))
    ∷ (code "n", action.StepsToMatch Forward)
    ∷ (code "N", action.AddsMatch Forward)
    ∷ (code "*", action.Remembers AtWordEnds)
    ∷ (code "Q", action.Records)
    ∷ (code "q", action.Plays)
    ∷ []

-- the same with alt
abbrev pub alt_signs : List (ℕ × Action)
alt_signs =
    (code "x", action.Lists (list.Cut cut.WholeLines))
    ∷ (code ";", action.Shapes shape.Turned)
    ∷ (code ":", action.Shapes shape.Straight)
    ∷ (code ",", action.Lists list.WithoutMain)
    ∷ (code "C", action.Lists (list.Copied Backward))
    ∷ (code "d", action.Edits edit.Erase)
    ∷ (code "j", action.Edits edit.Join)
    ∷ (code ")", action.Edits (edit.Rotate Forward))
    ∷ (code "(", action.Edits (edit.Rotate Backward))
    ∷ (code "c", action.Inserts entry.Erase)
    ∷ (code "i", action.SelectsObject Inner)
    ∷ (code "a", action.SelectsObject Around)
    ∷ (code "s", action.Lists (list.Split split.AtLineEnds))
    ∷ (code "S", action.Lists (list.Split split.IntoEnds))
    ∷ (code "k", asks pattern.Keep)
    ∷ (code "K", asks pattern.Drop)
    ∷ (code "/", asks (pattern.Search Backward))
    ∷ (code "?", asks (pattern.Reach Backward))
    ∷ (code "n", action.StepsToMatch Backward)
    ∷ (code "N", action.AddsMatch Backward)
    ∷ (code "*", action.Remembers Anywhere)
    ∷ []

-- characters with control
abbrev pub controls : List (ℕ × Action)
controls =
    (code "f", action.MovesOnce (Page Forward) Select)
    ∷ (code "b", action.MovesOnce (Page Backward) Select)
    ∷ (code "k", action.Repeats (repeated.GoesToNode Backward))
    ∷ (code "j", action.Repeats (repeated.GoesToNode Forward))
    ∷ []

-- the keys that go along the text do as letters do
abbrev pub arrow_action : Base → Reach → Action
arrow_action base.Left reach = moves (Step Backward) reach
arrow_action base.Right reach = moves (Step Forward) reach
arrow_action base.Down reach = moves (Line Forward) reach
arrow_action base.Up reach = moves (Line Backward) reach
arrow_action base.Home reach = action.MovesOnce (Along ToStart) reach
arrow_action base.End reach = action.MovesOnce (Along ToEnd) reach
arrow_action _ reach = action.Nothing

abbrev pub letter_action : ℕ → Reach → Action
letter_action c reach = looked_up action.Nothing c (letters reach)

abbrev pub alt_letter_action : ℕ → Reach → Action
alt_letter_action c reach = looked_up action.Nothing c (alt_letters reach)

abbrev pub sign_action : ℕ → Action
sign_action c = looked_up action.Nothing c signs

abbrev pub alt_sign_action : ℕ → Action
alt_sign_action c = looked_up action.Nothing c alt_signs

-- one action, or another where that does nothing
abbrev pub otherwise : Action → Action → Action
otherwise action.Nothing second = second
otherwise first second = first

-- a capital extends
abbrev pub reach_of : ℕ → Reach
reach_of c = if is_ascii_uppercase c then Extend else Select

-- a character without modifiers
abbrev pub character_action : ℕ → Action
character_action c =
    if is_ascii_digit c then action.Digit (digit_value c)
    else otherwise (letter_action (to_ascii_lowercase c) (reach_of c)) (sign_action c)

-- a key without modifiers
abbrev pub plain_action : Base → Action
plain_action (base.Char c) = character_action c
plain_action base.PageDown = action.MovesOnce (Page Forward) Select
plain_action base.PageUp = action.MovesOnce (Page Backward) Select
plain_action base.Esc = action.EndsRecording
plain_action key = arrow_action key Select

-- a key with control alone
abbrev pub control_action : Base → Action
control_action (base.Char c) = looked_up action.Nothing c controls
control_action _ = action.Nothing

-- a key with alt alone
abbrev pub alt_action : Base → Action
alt_action (base.Char c) = otherwise (alt_letter_action (to_ascii_lowercase c) (reach_of c)) (alt_sign_action c)
alt_action _ = action.Nothing

-- what a key does, by its modifiers; no key with two of them does anything
unfoldable pub action_of : Key → Action
action_of key =
    if key.control then (if key.alt || key.shift then action.Nothing else control_action key.base)
    else (if key.alt then (if key.shift then action.Nothing else alt_action key.base)
    else (if key.shift then arrow_action key.base Extend else plain_action key.base))
