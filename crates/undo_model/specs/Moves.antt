-- Moves in a buffer's history: where each leads, what it changes, and what is left where memory is wanting.
use Rattle.std.specs.Prelude.{ℕ, ◌==◌, nat_lt, if◌then◌else◌, List, [], ◌∷◌, length, Some, None}
use Rattle.std.specs.declared.option.Option.{Option}
use Rattle.text_model.specs.Changes.{Change}
use Rattle.undo_model.specs.declared.travel.Travel.{Travel}
use Rattle.undo_model.specs.declared.travel.Travel.TheVariants.{Undo, Redo, Node}
use Rattle.undo_model.specs.Tree.{root}
use Rattle.undo_model.specs.Stories.{Story, committed, parent_of, heir_of, went_to, changes_to}

-- the node that a move leads to in a story without pending changes, if there is one: the parent of the current node, its
-- heir, or the node of a number
abbrev pub target_in : Travel → Story → Option ℕ
target_in Undo s = if s.current == 0 then None else Some (parent_of s)
target_in Redo s = heir_of s
target_in (Node n) s = if nat_lt n (length s.nodes) then Some n else None

-- the node that a move leads to: what is pending is committed before
abbrev pub target_of : Travel → Story → Option ℕ
target_of travel s = target_in travel (committed s)

-- a story that went to a node, if there is one; what was pending is committed in any case
abbrev pub gone : Option ℕ → Story → Story
gone None s = committed s
gone (Some n) s = went_to n (committed s)

-- the single changes of that
abbrev pub gone_by : Option ℕ → Story → List Change
gone_by None s = []
gone_by (Some n) s = changes_to n s

-- the story after a move, and its single changes
abbrev pub moved_by : Travel → Story → Story
moved_by travel s = gone (target_of travel s) s

abbrev pub move_changes : Travel → Story → List Change
move_changes travel s = gone_by (target_of travel s) s

-- a text whose history was lost: it is the opening text of a new one, and counts as modified, since changes that nobody
-- knows any more are pending
abbrev pub forgotten : List ℕ → Story
forgotten text = record { text = text; nodes = root text ∷ []; current = 0; group = Some (record { owner = 0; changes = [] }); saved = 0 }
