-- Undo, redo and the move to a node, each by itself, for laws and worked examples: all else uses the one definition of moves,
-- `moved_by`, which a law says is these.
use Rattle.std.specs.Prelude.{ℕ, ◌==◌, nat_lt, if◌then◌else◌, length, Some, None}
use Rattle.std.specs.declared.option.Option.{Option}
use Rattle.undo_model.specs.Stories.{Story, committed, parent_of, heir_of, went_to}

-- the pending group is committed, and the buffer goes to a node, if there is one of that number
abbrev pub moved_to : ℕ → Story → Story
moved_to n s = if nat_lt n (length (committed s).nodes) then went_to n (committed s) else committed s

-- the pending group is committed, and the last group is taken back: at the root there is none
abbrev pub undone : Story → Story
undone s = if (committed s).current == 0 then committed s else moved_to (parent_of (committed s)) s

-- the buffer goes to an heir, if there is one
abbrev pub went_on : Option ℕ → Story → Story
went_on None s = s
went_on (Some n) s = went_to n s

-- the pending group is committed, and the group of the heir is made again
abbrev pub redone : Story → Story
redone s = went_on (heir_of (committed s)) (committed s)
