-- Edits and moves in history as rows: what they do, and why they are refused.
use Rattle.std.specs.Prelude.{ℕ, Bool, not, ◌&&◌, nat_le, if◌then◌else◌, List, length, None, Some}
use Rattle.std.specs.declared.option.Option.{Option}
use Rattle.undo_model.specs.declared.travel.Travel.{Travel}
use Rattle.undo_model.specs.declared.travel.Travel.TheVariants.{Undo, Redo, Node}
use Rattle.undo_model.specs.declared.TheConstants.{MAX_NODES}
use Rattle.undo_model.specs.Stories.{Story, is_own, nodes_due, is_undo_full}
use Rattle.undo_model.specs.Moves.{target_of}
use Rattle.undo_model.specs.Edits.{Splice, is_too_long}
use Rattle.kak_world.specs.declared.ask.EditError.{EditError}
use Rattle.kak_world.specs.declared.ask.EditError.TheVariants.{UndoFull, TextFull, NothingToUndo, NothingToRedo, NoSuchNode}
use Rattle.kak_world.specs.Flat.{Flat, text_of, story_of}
use Rattle.kak_world.specs.Changing.{splice_changes_of, edited_by, traveled_by}
use Rattle.kak_world.specs.Rows.{RowEnd, does, fails}

-- a client's replacements in the text that it sees: they are refused where they would begin a group that the undo tree has no
-- place for, or else where the text behind one of them would be too long
unfoldable pub edit_row : List Splice → ℕ → Flat → RowEnd
edit_row splices who flat =
    if is_undo_full who (splice_changes_of splices who flat) (story_of who flat) then fails UndoFull flat
    else (if is_too_long (length (text_of who flat)) (text_of who flat) splices then fails TextFull flat
    else does (edited_by splices who flat))

-- whether the tree of a story has no place for a group that a client would begin
abbrev pub is_full_for : ℕ → Story → Bool
is_full_for who s = not (is_own who s.group) && nat_le MAX_NODES (nodes_due s)

-- why an edit of a client is refused that makes a change and gives a text that is too long
unfoldable pub long_refusal : ℕ → Flat → EditError
long_refusal who flat = if is_full_for who (story_of who flat) then UndoFull else TextFull

-- why a move leads nowhere
abbrev pub move_refusal : Travel → EditError
move_refusal Undo = NothingToUndo
move_refusal Redo = NothingToRedo
move_refusal (Node n) = NoSuchNode

-- a move, by whether it leads to a node; what was pending is committed in any case
abbrev pub move_ends : Option ℕ → Travel → Flat → RowEnd
move_ends None travel new = fails (move_refusal travel) new
move_ends (Some n) travel new = does new

-- a client moves in the history of the buffer that it sees
unfoldable pub travel_row : Travel → ℕ → Flat → RowEnd
travel_row travel who flat = move_ends (target_of travel (story_of who flat)) travel (traveled_by travel who flat)
