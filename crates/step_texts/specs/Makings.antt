-- The single changes that the tasks of a step make, one after another.
use Rattle.std.specs.Prelude.{◌≡◌, ◌⊎◌, ℕ, ◌<◌, max, true, List, [], ◌∷◌, map, take, None, Some, Ok, Err}
use Rattle.std.specs.declared.option.Option.{Option}
use Rattle.std.specs.declared.result.Result.{Result}
use Rattle.std.specs.Str.{chars}
use Rattle.text_model.specs.Changes.{Change}
use Rattle.undo_model.specs.declared.travel.Travel.{Travel}
use Rattle.undo_model.specs.declared.travel.Travel.TheVariants.{Node}
use Rattle.undo_model.specs.Moves.{move_changes}
use Rattle.undo_model.specs.Edits.{Splice}
use Rattle.key_names.specs.declared.key.Key.{Key}
use Rattle.key_names.specs.declared.key.Base.{Base}
use Rattle.key_names.specs.declared.key.Base.TheVariants.{Char, Ret, Tab, Backspace, Del}
use Rattle.motion_keys.specs.declared.char_moves.CharSearch.{CharSearch}
use Rattle.motion_keys.specs.declared.finding.Motion.TheVariants.{Character}
use Rattle.motion_keys.specs.declared.finding.Reach.{Reach}
use Rattle.edit_ops.specs.declared.kinds.Erase.{Erase}
use Rattle.edit_ops.specs.declared.kinds.Erase.TheVariants.{BeforeCursor, AtCursor}
use Rattle.edit_ops.specs.declared.kinds.Put.TheVariants.{BeforeCursor as PutBeforeCursor}
use Rattle.edit_ops.specs.Typing.{typed_before}
use Rattle.edit_ops.specs.Erasing.{erasures}
use Rattle.edit_ops.specs.Filling.{fillings}
use Rattle.text_coding.specs.declared.form.Loaded.{Loaded}
use Rattle.text_coding.specs.declared.form.DecodeError.{DecodeError}
use Rattle.text_coding.specs.Coding.{loaded}
use Rattle.kak_files.specs.declared.files.FileRead.{FileRead}
use Rattle.kak_files.specs.declared.files.FileRead.TheVariants as read
use Rattle.kak_world.specs.declared.own.Mode.{Mode}
use Rattle.kak_world.specs.declared.own.Mode.TheVariants.{Normal, Insert, Prompt}
use Rattle.kak_world.specs.Flat.{Flat, shown_of, story_of, sels_of, mode_of, pending_of, node_number_of}
use Rattle.kak_world.specs.Changing.{splice_changes_of, edited_by, traveled_by}
use Rattle.kak_world.specs.Showing.{buffer_opened}
use Rattle.key_rows.specs.Naming.{register_named}
use Rattle.key_rows.specs.Reading.{used, strings_read}
use Rattle.key_rows.specs.declared.edits.Edit.{Edit}
use Rattle.key_rows.specs.declared.edits.Edit.TheVariants as edit
use Rattle.key_rows.specs.declared.entries.InsertEntry.{InsertEntry}
use Rattle.key_rows.specs.declared.entries.InsertEntry.TheVariants as entry
use Rattle.key_rows.specs.Entering.{place_row}
use Rattle.key_rows.specs.Wanting.{puts_read, ready_for, splices_of, splices_before}
use Rattle.normal_keys.specs.declared.prefixes.Prefix.{Prefix}
use Rattle.normal_keys.specs.declared.actions.Action.{Action}
use Rattle.normal_keys.specs.declared.actions.Action.TheVariants as action
use Rattle.normal_keys.specs.declared.actions.Repeated.{Repeated}
use Rattle.normal_keys.specs.declared.actions.Repeated.TheVariants as repeated
use Rattle.normal_keys.specs.Actions.{action_of}
use Rattle.normal_keys.specs.Repeating.{once}
use Rattle.normal_keys.specs.Rows.{character_of, prefix_of, client_cleared}
use Rattle.normal_keys.specs.Wanting.{before_run, node_beside}
use Rattle.insert_prompt.specs.Rows.{awaiting}
use Rattle.kak_engine.specs.Course.{Task, RunsKey, ShowsFile}
use Rattle.kak_engine.specs.Doing.{task_row}
use Rattle.step_texts.specs.Texts.{HasSameTexts, texts_of, texts_changed}

-- What is made of a world's texts: the world, the single changes of the text that its client sees there, one after another, and the
-- world behind all of it.
pub record Making : Type 0 where
  pub world : Flat
  pub changes : List Change
  pub whole : Flat

-- nothing is made of them
abbrev pub nothing_made : Flat → Making
nothing_made flat = record { world = flat; changes = []; whole = flat }

-- a client's replacements; a move of a client
abbrev pub splicing : List Splice → ℕ → Flat → Making
splicing splices who flat = record { world = flat; changes = splice_changes_of splices who flat; whole = edited_by splices who flat }

abbrev pub traveling : Travel → ℕ → Flat → Making
traveling travel who flat = record { world = flat; changes = move_changes travel (story_of who flat); whole = traveled_by travel who flat }

-- one run of what a count repeats
abbrev pub once_made : Repeated → Option ℕ → ℕ → Flat → Making
once_made (repeated.Travels travel) register who flat = traveling travel who flat
once_made (repeated.GoesToNode direction) register who flat = traveling (Node (node_beside direction (node_number_of who flat))) who flat
once_made (repeated.Puts how) register who flat = splicing (puts_read how (strings_read (used register) who flat) who flat) who flat
once_made _ register who flat = nothing_made flat

-- an edit, in the world that is made ready for it
abbrev pub editing_made : Edit → Option ℕ → ℕ → Flat → Making
editing_made how register who flat = let ready : Flat = ready_for how register who flat in splicing (splices_of how register who ready) who ready

-- the edit that goes before insert mode
abbrev pub placing_made : InsertEntry → Option ℕ → ℕ → Flat → Making
placing_made entry.Cut register who flat = editing_made edit.Cut register who flat
placing_made how register who flat = splicing (splices_before how who flat) who flat

-- the way into insert mode: that edit, and behind all of it what becomes of the selections there
abbrev pub entering_made : InsertEntry → Option ℕ → ℕ → Flat → Making
entering_made how register who flat = record (placing_made how register who flat) { whole = (place_row how register who flat).world }

-- an action, behind so many runs where a count repeats it
abbrev pub action_made : ℕ → Action → Prefix → ℕ → Flat → Making
action_made runs (action.Repeats what) prefix who flat = once_made what prefix.register who (before_run runs (once what prefix.register who) flat)
action_made runs (action.Edits how) prefix who flat = editing_made how prefix.register who flat
action_made runs (action.Inserts how) prefix who flat = entering_made how prefix.register who flat
action_made runs _ prefix who flat = nothing_made flat

-- a character that is gone to; one that takes the place of those selected
abbrev pub seeking_made : ℕ → CharSearch → Reach → ℕ → Option ℕ → Flat → Making
seeking_made runs search reach who None flat = nothing_made flat
seeking_made runs search reach who (Some c) flat = nothing_made (before_run runs (once (repeated.Moves (Character search c) reach) None who) flat)

abbrev pub filling_made : ℕ → Option ℕ → Flat → Making
filling_made who None flat = nothing_made flat
filling_made who (Some c) flat = splicing (fillings c (sels_of who flat).list) who flat

-- what a key does for which another one waited
abbrev pub answer_made : ℕ → Action → Key → ℕ → Flat → Making
answer_made runs (action.Seeks search reach) key who flat = seeking_made runs search reach who (character_of key) flat
answer_made runs action.Fills key who flat = filling_made who (character_of key) flat
answer_made runs _ key who flat = nothing_made flat

-- a key of normal mode, by the key that waited for it, if one did
abbrev pub waited_made : ℕ → Option Key → Key → Prefix → ℕ → Flat → Making
waited_made runs None key prefix who flat = action_made runs (action_of key) prefix who flat
waited_made runs (Some waits) key prefix who flat = answer_made runs (action_of waits) key who flat

abbrev pub normal_made : ℕ → Key → ℕ → Flat → Making
normal_made runs key who flat = waited_made runs (pending_of who flat) key (prefix_of who flat) who (client_cleared who flat)

-- what is typed before each cursor, erased at each, and put from a register
abbrev pub typing_made : ℕ → ℕ → Flat → Making
typing_made c who flat = splicing (map (typed_before (c ∷ [])) (sels_of who flat).list) who flat

abbrev pub erasing_made : Erase → ℕ → Flat → Making
erasing_made what who flat = splicing (erasures what (sels_of who flat).list) who flat

abbrev pub putting_made : Option ℕ → ℕ → Flat → Making
putting_made None who flat = nothing_made flat
putting_made (Some name) who flat = splicing (puts_read PutBeforeCursor (strings_read name who flat) who flat) who flat

-- a key of insert mode, by the key that waited for it, if one did
abbrev pub base_made : Base → ℕ → Flat → Making
base_made (Char c) who flat = typing_made c who flat
base_made Ret who flat = typing_made 10 who flat
base_made Tab who flat = typing_made 9 who flat
base_made Backspace who flat = erasing_made BeforeCursor who flat
base_made Del who flat = erasing_made AtCursor who flat
base_made _ who flat = nothing_made flat

abbrev pub insert_made : Option Key → Key → ℕ → Flat → Making
insert_made None key who flat = base_made key.base who flat
insert_made (Some waits) key who flat = putting_made (register_named key) who (awaiting None who flat)

-- a key, by the mode of its client; in a prompt no key changes a text
abbrev pub key_made : ℕ → Mode → Key → ℕ → Flat → Making
key_made runs Normal key who flat = normal_made runs key who flat
key_made runs Insert key who flat = insert_made (pending_of who flat) key who flat
key_made runs Prompt key who flat = nothing_made flat

-- a file that is opened: no text changes, and behind it its own is there
abbrev pub opening_made : List ℕ → List ℕ → Flat → Making
opening_made name text flat = record { world = flat; changes = []; whole = buffer_opened (chars name) true text flat }

abbrev pub loading_made : List ℕ → Result Loaded DecodeError → Flat → Making
loading_made name (Ok l) flat = opening_made name l.text flat
loading_made name (Err e) flat = nothing_made flat

abbrev pub file_made : List ℕ → FileRead → Flat → Making
file_made name (read.Bytes bytes) flat = loading_made name (loaded bytes) flat
file_made name read.NotThere flat = opening_made name (10 ∷ []) flat
file_made name _ flat = nothing_made flat

-- a task, behind so many runs where it is a key that a count repeats; but keys and files none makes anything of a text before its
-- row is done
abbrev pub task_made : ℕ → Task → ℕ → Flat → Making
task_made runs (RunsKey key) who flat = key_made runs (mode_of who flat) key who flat
task_made runs (ShowsFile name answer) who flat = file_made name answer flat
task_made runs _ who flat = nothing_made flat

-- how often a task is run: a key of normal mode as often as its count says
abbrev pub runs_in : Mode → ℕ → Flat → ℕ
runs_in Normal who flat = max 1 (prefix_of who flat).count
runs_in _ who flat = 1

abbrev pub task_runs : Task → ℕ → Flat → ℕ
task_runs (RunsKey key) who flat = runs_in (mode_of who flat) who flat
task_runs _ who flat = 1

-- a world has the texts that stand behind so many of the single changes, from the first on
pub record IsBehindSome (who : ℕ) (made : Making) (new : Flat) : Type 0 where
  pub count : ℕ
  pub texts : texts_of new ≡ texts_changed (shown_of who made.world) (take count made.changes) (texts_of made.world)

-- or those behind all that is made
abbrev pub IsWithinMaking : ℕ → Making → Flat → Type 0
IsWithinMaking who made new = IsBehindSome who made new ⊎ HasSameTexts made.whole new

-- the texts of a world are those within a task that began in another: behind some of its single changes, in order, with some of its
-- runs before them; or they are those behind its row
pub record IsWithinRuns (task : Task) (who : ℕ) (flat new : Flat) : Type 0 where
  pub runs : ℕ
  pub few : runs < task_runs task who flat
  pub within : IsWithinMaking who (task_made runs task who flat) new

abbrev pub AreTextsWithin : Task → ℕ → Flat → Flat → Type 0
AreTextsWithin task who flat new = IsWithinRuns task who flat new ⊎ HasSameTexts (task_row task who flat).world new
