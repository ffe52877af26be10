-- A buffer's story: its text, its undo tree, and the changes that aren't in the tree yet.
use Rattle.std.specs.Prelude.{ℕ, ◌+◌, Bool, false, not, is_some, ◌==◌, nat_le, ◌&&◌, ◌||◌, if◌then◌else◌, List, [], ◌∷◌, ◌++◌, length}
use Rattle.std.specs.declared.option.Option.{Option}
use Rattle.std.specs.Prelude.{Some, None}
use Rattle.text_model.specs.Changes.{Change, all_changed}
use Rattle.undo_model.specs.declared.TheConstants.{MAX_NODES}
use Rattle.undo_model.specs.Tree.{Node, root, node_at}
use Rattle.undo_model.specs.Ways.{route, remembering}

-- a client's changes that aren't in the tree yet
pub record Group : Type 0 where
  pub owner : ℕ
  pub changes : List Change

-- the text, the tree's nodes, the node that the text was last at, the pending group, and the node that was last saved
pub record Story : Type 0 where
  pub text : List ℕ
  pub nodes : List Node
  pub current : ℕ
  pub group : Option Group
  pub saved : ℕ

-- a text is opened: it is the root, and counts as saved
abbrev pub opened : List ℕ → Story
opened text = record { text = text; nodes = root text ∷ []; current = 0; group = None; saved = 0 }

-- the changes that are pending
abbrev pub pending : Option Group → List Change
pending None = []
pending (Some g) = g.changes

-- whether a client's changes are pending
abbrev pub is_own : ℕ → Option Group → Bool
is_own who None = false
is_own who (Some g) = g.owner == who

-- the number of nodes, where a pending group counts as one
abbrev pub nodes_due : Story → ℕ
nodes_due s = length s.nodes + (if is_some s.group then 1 else 0)

-- a pending group becomes the next node, a child of the current one, and the current one
abbrev pub grown : Option Group → Story → Story
grown None s = s
grown (Some g) s = record {
  text = s.text;
  nodes = s.nodes ++ (record { parent = s.current; text = s.text; changes = g.changes; heir = None }) ∷ [];
  current = length s.nodes;
  group = None;
  saved = s.saved;
}

-- the pending group is committed, whoever's it is
abbrev pub committed : Story → Story
committed s = grown s.group s

-- the pending group is committed where it is that client's
abbrev pub committed_by : ℕ → Story → Story
committed_by who s = if is_own who s.group then committed s else s

-- changes of the text are added to the pending group, which is that client's, or begins with them
abbrev pub added : ℕ → List Change → Story → Story
added who cs s = record {
  text = all_changed s.text cs;
  nodes = s.nodes;
  current = s.current;
  group = Some (record { owner = who; changes = pending s.group ++ cs });
  saved = s.saved;
}

-- a client changes the text: another client's pending group is committed before; without a change nothing is
abbrev pub edited : ℕ → List Change → Story → Story
edited who [] s = s
edited who (c ∷ cs) s = added who (c ∷ cs) (if is_own who s.group then s else committed s)

-- whether an edit is refused since the tree is full: it would begin a group, and there is no place for its node
abbrev pub is_undo_full : ℕ → List Change → Story → Bool
is_undo_full who [] s = false
is_undo_full who (c ∷ cs) s = not (is_own who s.group) && nat_le MAX_NODES (nodes_due s)

-- the buffer goes to a node of its tree; nothing is pending
abbrev pub went_to : ℕ → Story → Story
went_to n s = record {
  text = (node_at s.nodes n).text;
  nodes = remembering (s.current + n) s.nodes s.current n;
  current = n;
  group = None;
  saved = s.saved;
}

-- what is pending is committed, and then these are the single changes of going there
abbrev pub changes_to : ℕ → Story → List Change
changes_to n s = route ((committed s).current + n) (committed s).nodes (committed s).current n

-- the parent of the current node
abbrev pub parent_of : Story → ℕ
parent_of s = (node_at s.nodes s.current).parent

-- the heir of the current node
abbrev pub heir_of : Story → Option ℕ
heir_of s = (node_at s.nodes s.current).heir

-- whether the text may differ from what was saved
abbrev pub is_modified : Story → Bool
is_modified s = is_some s.group || not (s.current == s.saved)

-- the pending group is committed, and the current node counts as saved
abbrev pub marked_saved : Story → Story
marked_saved s = record { text = (committed s).text; nodes = (committed s).nodes; current = (committed s).current; group = (committed s).group; saved = (committed s).current }
