-- How what a buffer keeps is seen as its story: the texts of the tree are those that the kept changes make.
use Rattle.std.specs.Prelude.{◌≡◌, ℕ, zero, suc, ◌<◌, ◌==◌, if◌then◌else◌, List, [], ◌∷◌, ◌++◌, length, slice_index_or, Some, None}
use Rattle.std.specs.declared.option.Option.{Option}
use Rattle.text_model.specs.Changes.{all_changed}
use Rattle.change_list.specs.declared.change.Change.{Change as Kept}
use Rattle.undo_model.specs.Tree.{Node, root, node_at}
use Rattle.undo_model.specs.Stories.{Group, Story}
use Rattle.undo_model.specs.Kept.{IsStory}
use Rattle.buffer_store.specs.Stored.{AllFit, flats, made, backs}

-- what is kept of a node: its parent, its heir, and the changes from its parent's text
pub record Branch : Type 0 where
  pub parent : ℕ
  pub heir : Option ℕ
  pub changes : List Kept

-- what is kept of a pending group
pub record Pending : Type 0 where
  pub owner : ℕ
  pub changes : List Kept

-- the branch of a number; none has no changes
abbrev pub branch_at : List Branch → ℕ → Branch
branch_at bs n = slice_index_or bs n (record { parent = 0; heir = None; changes = [] })

-- the node of a branch, behind the nodes before it; the first one has the opening text
abbrev pub node_of : List ℕ → List Node → Branch → Node
node_of opening nodes b = record {
  parent = b.parent;
  text = made (slice_index_or nodes b.parent (root opening)).text b.changes;
  changes = flats (slice_index_or nodes b.parent (root opening)).text b.changes;
  heir = b.heir;
}

-- nodes, and behind them those of branches
abbrev pub nodes_from : List ℕ → List Node → List Branch → List Node
nodes_from opening nodes [] = nodes
nodes_from opening nodes (b ∷ bs) = nodes_from opening (nodes ++ node_of opening nodes b ∷ []) bs

-- the nodes of branches
abbrev pub nodes_of : List ℕ → List Branch → List Node
nodes_of opening bs = nodes_from opening [] bs

-- the opening text, from the text of a node up to the root, over at most so many nodes
abbrev pub up_to_root : ℕ → List Branch → ℕ → List ℕ → List ℕ
up_to_root zero bs n text = text
up_to_root (suc k) bs n text = if n == 0 then text else up_to_root k bs (branch_at bs n).parent (all_changed text (backs text (branch_at bs n).changes))

-- the kept changes that are pending
abbrev pub pending_changes : Option Pending → List Kept
pending_changes None = []
pending_changes (Some g) = g.changes

-- a pending group by offsets, of the text before it
abbrev pub seen_group : List ℕ → Option Pending → Option Group
seen_group text None = None
seen_group text (Some g) = Some (record { owner = g.owner; changes = flats text g.changes })

-- the story of what is kept, whose first text was this one
abbrev pub story_from : List ℕ → List ℕ → List Branch → ℕ → ℕ → Option Pending → Story
story_from opening text bs current saved group = record {
  text = text;
  nodes = nodes_of opening bs;
  current = current;
  group = seen_group (node_at (nodes_of opening bs) current).text group;
  saved = saved;
}

-- the story of what is kept
abbrev pub story_kept : List ℕ → List Branch → ℕ → ℕ → Option Pending → Story
story_kept text bs current saved group = story_from (up_to_root current bs current (all_changed text (backs text (pending_changes group)))) text bs current saved group

-- what is kept tells a story: there is a first text from which all kept changes fit, and lead to the text
pub record IsTold (text : List ℕ) (bs : List Branch) (current saved : ℕ) (group : Option Pending) : Type 0 where
  pub opening : List ℕ
  pub story : IsStory (story_from opening text bs current saved group)
  pub fits : (n : ℕ) → 0 < n → n < length bs → AllFit (node_at (nodes_of opening bs) (branch_at bs n).parent).text (branch_at bs n).changes
  pub root_has_none : (branch_at bs 0).changes ≡ []
  pub pending_fit : AllFit (node_at (nodes_of opening bs) current).text (pending_changes group)
  pub text_is : text ≡ made (node_at (nodes_of opening bs) current).text (pending_changes group)
