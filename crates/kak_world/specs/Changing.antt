-- How a buffer changes: each single change of its text moves every selection list on it.
use Rattle.std.specs.Prelude.{◌≡◌, ◌⊎◌, ℕ, List, [], ◌∷◌, length, map, option_map, take}
use Rattle.text_model.specs.Changes.{Change, all_changed}
use Rattle.undo_model.specs.declared.travel.Travel.{Travel}
use Rattle.undo_model.specs.Stories.{Story, edited, committed}
use Rattle.undo_model.specs.Moves.{moved_by, move_changes, forgotten}
use Rattle.undo_model.specs.Edits.{Splice, edit_changes}
use Rattle.undo_model.specs.Marks.{left_by}
use Rattle.list_shelf.specs.declared.holder.Holder.{Holder}
use Rattle.list_shelf.specs.declared.holder.Holder.TheVariants.{Of}
use Rattle.list_shelf.specs.Shelves.{list_moved}
use Rattle.kak_world.specs.Flat.{Buffer, Flat, changed_at, with_list, committed_for, shown_of, text_of, story_of, with_buffers}

-- a buffer with another story, to whose text single changes lead: they move every list on it, whoever holds it
abbrev pub buffer_changed : List Change → Story → Buffer → Buffer
buffer_changed cs story b = record b { story = story; lists = map (list_moved b.story.text cs) b.lists }

-- a buffer after single changes that a client made
abbrev pub buffer_edited : ℕ → List Change → Buffer → Buffer
buffer_edited who cs b = buffer_changed cs (edited who cs b.story) b

-- a buffer after a move in its history
abbrev pub buffer_moved : Travel → Buffer → Buffer
buffer_moved travel b = buffer_changed (move_changes travel b.story) (moved_by travel b.story) b

-- a buffer after a move that a holder made: its list is the one that the move leaves
abbrev pub buffer_traveled : Holder → Travel → Buffer → Buffer
buffer_traveled holder travel b = with_list holder (λ held. record held { sels = left_by b.story.text (move_changes travel b.story) held.sels }) (buffer_moved travel b)

-- a buffer after some of a client's changes, from the first on
pub record IsSomeEdited (who : ℕ) (cs : List Change) (old new : Buffer) : Type 0 where
  pub made : ℕ
  pub is : new ≡ buffer_edited who (take made cs) old

-- a story that was left within a move, behind some of its changes: before the first one what was pending is committed, and
-- behind it the history is lost, and the text counts as modified
abbrev pub broken_off : List Change → Story → Story
broken_off [] s = committed s
broken_off (c ∷ cs) s = forgotten (all_changed s.text (c ∷ cs))

-- a buffer that was left so
abbrev pub buffer_broken_off : List Change → Buffer → Buffer
buffer_broken_off cs b = buffer_changed cs (broken_off cs b.story) b

-- a buffer after some of the changes of a move, from the first on
pub record IsSomeMoved (cs : List Change) (old new : Buffer) : Type 0 where
  pub made : ℕ
  pub is : new ≡ buffer_broken_off (take made cs) old

-- a buffer after a move of a holder in which memory was wanting: some of its changes were made, from the first on, or the whole move was
abbrev pub IsCutMove : Holder → Travel → Buffer → Buffer → Type 0
IsCutMove holder travel old new = IsSomeMoved (move_changes travel old.story) old new ⊎ (new ≡ buffer_traveled holder travel old)

-- the world with the buffer of a number changed
unfoldable pub changed_in : ℕ → (Buffer → Buffer) → Flat → Flat
unfolding with_buffers
changed_in n f flat = with_buffers (changed_at n f flat.buffers) flat

-- the single changes of a client's replacements in the text that it sees
abbrev pub splice_changes_of : List Splice → ℕ → Flat → List Change
splice_changes_of splices who flat = edit_changes (length (text_of who flat)) (text_of who flat) splices

-- the world after an edit: a client's replacements in the text that it sees
unfoldable pub edited_by : List Splice → ℕ → Flat → Flat
edited_by splices who flat = changed_in (shown_of who flat) (buffer_edited who (splice_changes_of splices who flat)) flat

-- the world after a client moved in the history of the buffer that it sees
unfoldable pub traveled_by : Travel → ℕ → Flat → Flat
traveled_by travel who flat = changed_in (shown_of who flat) (buffer_traveled (Of who) travel) flat

-- the world in which all pending groups of a client are committed
unfoldable pub commits : ℕ → Flat → Flat
unfolding with_buffers
commits who flat = with_buffers (map (option_map (committed_for who)) flat.buffers) flat

-- the world after some of a client's changes of the buffer that it sees, from the first on
pub record IsAfterSomeChanges (who : ℕ) (cs : List Change) (old new : Flat) : Type 0 where
  pub made : ℕ
  pub is : new ≡ changed_in (shown_of who old) (buffer_edited who (take made cs)) old

-- the world after some of the changes of a move in the buffer that a client sees, from the first on
pub record IsMovedPartWay (who : ℕ) (cs : List Change) (old new : Flat) : Type 0 where
  pub made : ℕ
  pub is : new ≡ changed_in (shown_of who old) (buffer_broken_off (take made cs)) old

-- the world after a move of a client in which memory was wanting: some of its changes were made, from the first on, or the whole move was
abbrev pub IsMoveCutIn : ℕ → Travel → Flat → Flat → Type 0
IsMoveCutIn who travel old new = IsMovedPartWay who (move_changes travel (story_of who old)) old new ⊎ (new ≡ traveled_by travel who old)
