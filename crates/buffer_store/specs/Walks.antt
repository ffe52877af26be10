-- Going over the nodes of a tree by what is kept of them: the changes on a way, and the branches behind it.
use Rattle.std.specs.Prelude.{◌≡◌, ℕ, ◌+◌, ◌<◌, ◌⊎◌, List, [], ◌∷◌, ◌++◌, length, slice_set, ⊤, take}
use Rattle.text_model.specs.declared.coords.Shift.{Shift}
use Rattle.text_model.specs.Changes.{Change, all_changed}
use Rattle.undo_model.specs.Steps.{AreSteps}
use Rattle.undo_model.specs.Ways.{route}
use Rattle.undo_model.specs.Stories.{Story}
use Rattle.undo_model.specs.Moves.{forgotten}
use Rattle.buffer_store.specs.Stored.{change_shifts, AllFit, flats, made, backs, IsMade}
use Rattle.buffer_store.specs.Seen.{Branch, branch_at}
use Rattle.buffer_store.specs.Laws.{aimed_branch}

-- what takes the changes of nodes back, one node after another, of the text behind the first one's
abbrev pub back_over : List Branch → List ℕ → List ℕ → List Change
back_over bs text [] = []
back_over bs text (n ∷ ns) = backs text (branch_at bs n).changes ++ back_over bs (all_changed text (backs text (branch_at bs n).changes)) ns

-- these can be taken back: each node is there, and its changes were the last ones
abbrev pub CanGoBack : List Branch → List ℕ → List ℕ → Type 0
CanGoBack bs text [] = ⊤
CanGoBack bs text (n ∷ ns) = (n < length bs) × IsMade text (branch_at bs n).changes × CanGoBack bs (all_changed text (backs text (branch_at bs n).changes)) ns

-- the changes of nodes, one node after another
abbrev pub on_over : List Branch → List ℕ → List ℕ → List Change
on_over bs text [] = []
on_over bs text (n ∷ ns) = flats text (branch_at bs n).changes ++ on_over bs (made text (branch_at bs n).changes) ns

-- these can be made: each node is there, and its changes fit
abbrev pub CanGoForth : List Branch → List ℕ → List ℕ → Type 0
CanGoForth bs text [] = ⊤
CanGoForth bs text (n ∷ ns) = (n < length bs) × AllFit text (branch_at bs n).changes × CanGoForth bs (made text (branch_at bs n).changes) ns

-- the single changes of a way: the changes of some nodes are taken back, and then those of others made
abbrev pub way_changes : List Branch → List ℕ → List ℕ → List ℕ → List Change
way_changes bs text left entered = back_over bs text left ++ on_over bs (all_changed text (back_over bs text left)) entered

-- a way can be gone
pub record CanGoWay (bs : List Branch) (text left entered : List ℕ) : Type 0 where
  pub back : CanGoBack bs text left
  pub on : CanGoForth bs (all_changed text (back_over bs text left)) entered
  pub steps : AreSteps text (way_changes bs text left entered)

-- branches of which the parent of a node has it as its heir
abbrev pub heir_aimed_at : List Branch → ℕ → List Branch
heir_aimed_at bs n = slice_set bs (branch_at bs n).parent (aimed_branch (branch_at bs (branch_at bs n).parent) n)

-- and so of nodes, one after another
abbrev pub aimed_over : List Branch → List ℕ → List Branch
aimed_over bs [] = bs
aimed_over bs (n ∷ ns) = aimed_over (heir_aimed_at bs n) ns

-- nodes and their parents are there
abbrev pub AreThere : List Branch → List ℕ → Type 0
AreThere bs [] = ⊤
AreThere bs (n ∷ ns) = (n < length bs) × ((branch_at bs n).parent < length bs) × AreThere bs ns

-- the single changes of going to a node in a story without pending changes
abbrev pub changes_from : ℕ → Story → List Change
changes_from n s = route (s.current + n) s.nodes s.current n

-- a text is another one behind some of its changes, from the first on, whose shifts these are
pub record IsBehindSome (cs : List Change) (old new : List ℕ) (shifts : List Shift) : Type 0 where
  pub done : List Change
  pub left : List Change
  pub are : cs ≡ done ++ left
  pub text : new ≡ all_changed old done
  pub shifts_are : shifts ≡ change_shifts old done

-- memory was wanting on the way to a node, after some of the changes, whose shifts these are: before the first one nothing
-- was changed, and behind it the history is forgotten
pub record IsBrokenOff (cs : List Change) (old new : Story) (shifts : List Shift) : Type 0 where
  pub made : ℕ
  pub steps : AreSteps old.text (take made cs)
  pub text : new.text ≡ all_changed old.text (take made cs)
  pub shifts_are : shifts ≡ change_shifts old.text (take made cs)
  pub story : ((take made cs ≡ []) × (new ≡ old)) ⊎ (new ≡ forgotten new.text)
  pub whole : take made cs ≡ [] → new ≡ old
