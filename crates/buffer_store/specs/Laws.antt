-- Laws of how what a buffer keeps is seen as its story.
use Rattle.std.specs.Prelude.{◌≡◌, ℕ, ◌+◌, ◌<◌, ◌≤◌, List, [], ◌∷◌, ◌++◌, length, slice_set, Some, None}
use Rattle.std.specs.declared.option.Option.{Option}
use Rattle.text_model.specs.Changes.{changed, all_changed}
use Rattle.change_list.specs.declared.change.Change.{Change as Kept}
use Rattle.undo_model.specs.declared.TheConstants.{MAX_NODES}
use Rattle.undo_model.specs.Steps.{undoing}
use Rattle.text_model.specs.Texts.{IsStored}
use Rattle.undo_model.specs.Tree.{with_heir}
use Rattle.undo_model.specs.Stories.{Story, opened, added, committed}
use Rattle.undo_model.specs.Named.{undone, redone}
use Rattle.buffer_store.specs.Stored.{KeptFits, AllFit, flat, flats, made, backs}
use Rattle.buffer_store.specs.Seen.{Branch, Pending, branch_at, node_of, nodes_of, pending_changes, story_from, story_kept, IsTold}

-- a branch with another heir
abbrev pub aimed_branch : Branch → ℕ → Branch
aimed_branch b child = record { parent = b.parent; heir = Some child; changes = b.changes }

-- the branch of the root
abbrev pub first_branch : Branch
first_branch = record { parent = 0; heir = None; changes = [] }

-- the branch of a committed group
abbrev pub committed_branch : ℕ → Pending → Branch
committed_branch current g = record { parent = current; heir = None; changes = g.changes }

-- what is pending, and one change more
abbrev pub one_pending : ℕ → Option Pending → Kept → Pending
one_pending who group k = record { owner = who; changes = pending_changes group ++ k ∷ [] }

-- kept changes that fit are made, and taken back, by offsets
pub record KeptChangesGoBothWays : Type 0 where
  pub made_by_offsets : (text : List ℕ) (ks : List Kept) → made text ks ≡ all_changed text (flats text ks)
  pub taken_back_by_inverses : (text : List ℕ) (ks : List Kept) → AllFit text ks → backs (made text ks) ks ≡ undoing text (flats text ks)
  pub old_text : (text : List ℕ) (ks : List Kept) → AllFit text ks → all_changed (made text ks) (backs (made text ks) ks) ≡ text

-- the story is found from the text alone, an heir of a branch is one of its node, and one branch more is one node more
pub record BranchesTellTheStory : Type 0 where
  pub first_text_is_found : (text : List ℕ) (bs : List Branch) (current saved : ℕ) (group : Option Pending) (h : IsTold text bs current saved group) → story_kept text bs current saved group ≡ story_from h.opening text bs current saved group
  pub heirs_are_heirs : (opening : List ℕ) (bs : List Branch) (n child : ℕ) → n < length bs → nodes_of opening (slice_set bs n (aimed_branch (branch_at bs n) child)) ≡ with_heir n child (nodes_of opening bs)
  pub one_more : (opening : List ℕ) (bs : List Branch) (b : Branch) → nodes_of opening (bs ++ b ∷ []) ≡ nodes_of opening bs ++ node_of opening (nodes_of opening bs) b ∷ []

-- what is kept tells that story
pub record TellsStory (text : List ℕ) (bs : List Branch) (current saved : ℕ) (group : Option Pending) (s : Story) : Type 0 where
  pub told : IsTold text bs current saved group
  pub story : story_kept text bs current saved group ≡ s

-- what is kept goes on to tell the story: when a text is opened, when one change more is pending, when a group is
-- committed, and when the group of a node is taken back or that of its heir made again, where one heir alone changes
pub record KeptTellsOn : Type 0 where
  pub opening : (text : List ℕ) → IsStored text → TellsStory text (first_branch ∷ []) 0 0 None (opened text)
  pub changing : (text : List ℕ) (bs : List Branch) (current saved who : ℕ) (group : Option Pending) (k : Kept) → IsTold text bs current saved group → KeptFits text k → length bs + 1 ≤ MAX_NODES → TellsStory (changed text (flat text k)) bs current saved (Some (one_pending who group k)) (added who (flat text k ∷ []) (story_kept text bs current saved group))
  pub committing : (text : List ℕ) (bs : List Branch) (current saved : ℕ) (g : Pending) → IsTold text bs current saved (Some g) → TellsStory text (bs ++ committed_branch current g ∷ []) (length bs) saved None (committed (story_kept text bs current saved (Some g)))
  pub undoing : (text : List ℕ) (bs : List Branch) (current saved : ℕ) → IsTold text bs current saved None → 0 < current → TellsStory (all_changed text (backs text (branch_at bs current).changes)) (slice_set bs (branch_at bs current).parent (aimed_branch (branch_at bs (branch_at bs current).parent) current)) (branch_at bs current).parent saved None (undone (story_kept text bs current saved None))
  pub redoing : (text : List ℕ) (bs : List Branch) (current saved n : ℕ) → IsTold text bs current saved None → (branch_at bs current).heir ≡ Some n → TellsStory (made text (branch_at bs n).changes) (slice_set bs current (aimed_branch (branch_at bs current) n)) n saved None (redone (story_kept text bs current saved None))
