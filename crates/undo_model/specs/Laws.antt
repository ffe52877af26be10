-- Laws of the definitions, each proved as the contract of a function of `laws`.
use Rattle.std.specs.Prelude.{◌≡◌, ℕ, ◌+◌, ◌<◌, ◌≤◌, true, false, List, [], length, All, Some}
use Rattle.text_model.specs.Texts.{IsStored}
use Rattle.text_model.specs.Changes.{Change, all_changed}
use Rattle.list_model.specs.Ranges.{Range}
use Rattle.list_model.specs.Settled.{SomeOf}
use Rattle.undo_model.specs.Steps.{AreSteps, undoing}
use Rattle.undo_model.specs.declared.travel.Travel.{Travel}
use Rattle.undo_model.specs.declared.travel.Travel.TheVariants.{Undo, Redo, Node as NodeOf}
use Rattle.undo_model.specs.Tree.{Node, node_at, heir_after}
use Rattle.undo_model.specs.Ways.{leaving, entering, crossed, IsWay}
use Rattle.undo_model.specs.Stories.{Story, opened, committed, committed_by, edited, is_undo_full, changes_to, heir_of, is_modified, marked_saved}
use Rattle.undo_model.specs.Moves.{target_of, moved_by, move_changes, forgotten}
use Rattle.undo_model.specs.Named.{moved_to, undone, redone}
use Rattle.undo_model.specs.Edits.{Splice, AreInOrder, edit_changes, is_too_long}
use Rattle.undo_model.specs.Marks.{marks}
use Rattle.undo_model.specs.Kept.{IsTree, IsStory}

-- steps and what takes them back
pub record StepsAreTakenBack : Type 0 where
  pub old_text : (text : List ℕ) (cs : List Change) → AreSteps text cs → all_changed (all_changed text cs) (undoing text cs) ≡ text
  pub are_steps : (text : List ℕ) (cs : List Change) → IsStored text → AreSteps text cs → AreSteps (all_changed text cs) (undoing text cs)

-- whatever is done, a story is kept
pub record StoriesAreKept : Type 0 where
  pub opening : (text : List ℕ) → IsStored text → IsStory (opened text)
  pub committing : (s : Story) → IsStory s → IsStory (committed s)
  pub committing_own : (who : ℕ) (s : Story) → IsStory s → IsStory (committed_by who s)
  pub editing : (who : ℕ) (cs : List Change) (s : Story) → IsStory s → AreSteps s.text cs → is_undo_full who cs s ≡ false → IsStory (edited who cs s)
  pub moving : (n : ℕ) (s : Story) → IsStory s → IsStory (moved_to n s)
  pub going_back : (s : Story) → IsStory s → IsStory (undone s)
  pub going_on : (s : Story) → IsStory s → IsStory (redone s)
  pub saving : (s : Story) → IsStory s → IsStory (marked_saved s)

-- the changes of a move lead from the text to that of the node
pub record MovesLead : Type 0 where
  pub are_steps : (n : ℕ) (s : Story) → IsStory s → n < length (committed s).nodes → AreSteps s.text (changes_to n s)
  pub lead : (n : ℕ) (s : Story) → IsStory s → n < length (committed s).nodes → all_changed s.text (changes_to n s) ≡ (moved_to n s).text
  pub arrive : (n : ℕ) (s : Story) → IsStory s → n < length (committed s).nodes → (moved_to n s).current ≡ n
  pub bring_its_text : (n : ℕ) (s : Story) → IsStory s → n < length (committed s).nodes → (moved_to n s).text ≡ (node_at (committed s).nodes n).text
  pub keep_texts : (n m : ℕ) (s : Story) → IsStory s → n < length (committed s).nodes → (node_at (moved_to n s).nodes m).text ≡ (node_at (committed s).nodes m).text

-- a parent remembers the child that was last come back from or gone to; so redo brings back what undo took
pub record HeirsAreRemembered : Type 0 where
  pub by_each_step : (n m : ℕ) (s : Story) → IsStory s → n < length (committed s).nodes → (node_at (moved_to n s).nodes m).heir ≡ heir_after (node_at (committed s).nodes m).heir m (crossed ((committed s).current + n) (committed s).nodes (committed s).current n)
  pub by_undo : (s : Story) → IsStory s → 0 < (committed s).current → heir_of (undone s) ≡ Some (committed s).current
  pub by_redo : (s : Story) (n : ℕ) → IsStory s → heir_of (committed s) ≡ Some n → (node_at (redone s).nodes (committed s).current).heir ≡ Some n
  pub redo_goes_back : (s : Story) → IsStory s → 0 < (committed s).current → (redone (undone s)).current ≡ (committed s).current
  pub redo_brings_back : (s : Story) → IsStory s → 0 < (committed s).current → (redone (undone s)).text ≡ s.text

-- a move by its name is undo, redo or the move to a node; it leads to a node that is there, and its changes to the new text
pub record MovesByName : Type 0 where
  pub undo : (s : Story) → IsStory s → moved_by Undo s ≡ undone s
  pub redo : (s : Story) → moved_by Redo s ≡ redone s
  pub to_node : (n : ℕ) (s : Story) → moved_by (NodeOf n) s ≡ moved_to n s
  pub is_there : (travel : Travel) (n : ℕ) (s : Story) → IsStory s → target_of travel s ≡ Some n → n < length (committed s).nodes
  pub are_steps : (travel : Travel) (s : Story) → IsStory s → AreSteps s.text (move_changes travel s)
  pub lead : (travel : Travel) (s : Story) → IsStory s → all_changed s.text (move_changes travel s) ≡ (moved_by travel s).text
  pub kept : (travel : Travel) (s : Story) → IsStory s → IsStory (moved_by travel s)

-- a text without its history is a story, and is modified until it is saved
pub record ForgottenIsAStory : Type 0 where
  pub kept : (text : List ℕ) → IsStored text → IsStory (forgotten text)
  pub modified : (text : List ℕ) → is_modified (forgotten text) ≡ true
  pub stays_so : (text : List ℕ) → is_modified (committed (forgotten text)) ≡ true

-- a move goes node by node up to a common ancestor and from there down, and comes to no node twice: so to the nearest one
pub record MovesGoByNodes : Type 0 where
  pub way : (k : ℕ) (nodes : List Node) (a b : ℕ) → IsTree nodes → a < length nodes → b < length nodes → a + b ≤ k → IsWay nodes a b (leaving k nodes a b) (entering k nodes a b)
  pub apart : (k : ℕ) (nodes : List Node) (a b n : ℕ) → IsTree nodes → a < length nodes → b < length nodes → SomeOf (λ m. m ≡ n) (leaving k nodes a b) → ¬ SomeOf (λ m. m ≡ n) (entering k nodes a b)

-- the single changes of an edit that isn't refused are steps
pub record EditsAreSteps : Type 0 where
  pub are_steps : (text : List ℕ) (splices : List Splice) → IsStored text → AreInOrder 0 (length text) splices → is_too_long (length text) text splices ≡ false → AreSteps text (edit_changes (length text) text splices)

-- a range of a text
pub record IsInText (text : List ℕ) (r : Range) : Type 0 where
  pub ordered : r.low ≤ r.high
  pub inside : r.high < length text

-- the marks of steps are ranges of the text behind them
pub record MarksLieInside : Type 0 where
  pub inside : (text : List ℕ) (cs : List Change) → IsStored text → AreSteps text cs → All (IsInText (all_changed text cs)) (marks text [] cs)
