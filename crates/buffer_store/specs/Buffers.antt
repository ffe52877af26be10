-- What edits of a buffer do, which contracts see as its story, and moves in its history.
use Rattle.std.specs.Prelude.{◌≡◌, ℕ, ◌⊎◌, List, [], length, map, take, Err, OnOk, MatchOption}
use Rattle.std.specs.List.{AllByRecursion}
use Rattle.std.specs.declared.option.Option.{Option}
use Rattle.std.specs.declared.result.Result.{Result}
use Rattle.text_model.specs.declared.coords.Shift.{Shift}
use Rattle.text_model.specs.Texts.{IsPlaceOrEnd, offset}
use Rattle.text_model.specs.Changes.{Change, all_changed}
use Rattle.selection_set.specs.Listing.{Listed}
use Rattle.move_marks.specs.Marking.{IsLeftBy}
use Rattle.undo_model.specs.Steps.{AreSteps}
use Rattle.undo_model.specs.declared.travel.Travel.{Travel}
use Rattle.undo_model.specs.declared.travel.Travel.TheVariants.{Undo, Redo, Node}
use Rattle.undo_model.specs.Stories.{Story, edited, committed}
use Rattle.undo_model.specs.Moves.{moved_by, forgotten}
use Rattle.undo_model.specs.Edits.{Splice, AreInOrder, edit_changes}
use Rattle.buffer_store.specs.declared.edits.Splice.{Splice as CodeSplice}
use Rattle.buffer_store.specs.declared.errors.BufferError.{BufferError}
use Rattle.buffer_store.specs.declared.errors.MoveError.{MoveError}
use Rattle.buffer_store.specs.declared.errors.MoveError.TheVariants.{AtRoot, NoChild, NoNode}
use Rattle.buffer_store.specs.Stored.{change_shifts}

-- a replacement by offsets
abbrev pub flat_splice : List ℕ → CodeSplice → Splice
flat_splice text s = record { from = offset text s.from; «to» = offset text s.to; put = s.text }

abbrev pub flat_splices : List ℕ → List CodeSplice → List Splice
flat_splices text ss = map (flat_splice text) ss

-- both ends of a replacement are places of the text, or its end
pub record IsSpliceOf (text : List ℕ) (s : CodeSplice) : Type 0 where
  pub from : IsPlaceOrEnd text s.from
  pub «to» : IsPlaceOrEnd text s.to

-- replacements of an edit of a text: they are in order, and don't overlap
pub record AreSplicesOf (text : List ℕ) (ss : List CodeSplice) : Type 0 where
  pub ends : AllByRecursion (IsSpliceOf text) ss
  pub in_order : AreInOrder 0 (length text) (flat_splices text ss)

-- the single changes of an edit of a text
abbrev pub changes_of : List ℕ → List CodeSplice → List Change
changes_of text ss = edit_changes (length text) text (flat_splices text ss)

-- some of a client's changes were made, from the first on, and these are their shifts; where the answer is well, all were
pub record IsEdited (who : ℕ) (cs : List Change) (r : Result (Unit {0}) BufferError) (old new : Story) (shifts : List Shift) : Type 0 where
  pub made : ℕ
  pub story : new ≡ edited who (take made cs) old
  pub steps : AreSteps old.text (take made cs)
  pub shifts_are : shifts ≡ change_shifts old.text (take made cs)
  pub all : OnOk r (take made cs ≡ cs)

-- why a move leads nowhere
abbrev pub refusal_of : Travel → MoveError
refusal_of Undo = AtRoot
refusal_of Redo = NoChild
refusal_of (Node n) = NoNode n

-- the list of selections that changes of a text leave, none where nothing was changed
abbrev pub AreLeftBy : List ℕ → List Change → Option Listed → Type 0
AreLeftBy text cs left = MatchOption left (cs ≡ []) (IsLeftBy text cs)

-- a move to no node is refused by the name for that, and the pending group is committed still
abbrev pub IsRefusedMove : {A : Type 0} → Travel → Result A MoveError → Story → Story → List Shift → Type 0
IsRefusedMove travel result old new shifts = (result ≡ Err (refusal_of travel)) × ((new ≡ moved_by travel old) × (shifts ≡ []))

-- memory was wanting in a move, after some of its changes, whose shifts these are: before the first one the tree stands, and
-- behind it its history is forgotten
pub record IsBroken (cs : List Change) (old new : Story) (shifts : List Shift) : Type 0 where
  pub made : ℕ
  pub steps : AreSteps old.text (take made cs)
  pub text : new.text ≡ all_changed old.text (take made cs)
  pub shifts_are : shifts ≡ change_shifts old.text (take made cs)
  pub story : ((take made cs ≡ []) × (new ≡ committed old)) ⊎ (new ≡ forgotten new.text)
  pub whole : take made cs ≡ [] → new ≡ committed old
