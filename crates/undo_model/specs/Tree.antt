-- Undo trees: the texts that a buffer was left with, each made from an earlier one.
use Rattle.std.specs.Prelude.{ℕ, ◌==◌, if◌then◌else◌, List, [], ◌∷◌, slice_index_or, slice_set}
use Rattle.std.specs.declared.option.Option.{Option}
use Rattle.std.specs.Prelude.{Some, None}
use Rattle.text_model.specs.Changes.{Change}
use Rattle.undo_model.specs.Steps.{undoing}

-- a node: the one that it was made from, its text, the single changes from that one's text, and its heir, which is the
-- child that was last gone to, or come back from
pub record Node : Type 0 where
  pub parent : ℕ
  pub text : List ℕ
  pub changes : List Change
  pub heir : Option ℕ

-- the node that a tree begins with, which has the number 0
abbrev pub root : List ℕ → Node
root text = record { parent = 0; text = text; changes = []; heir = None }

-- the node of a number; for a number that no node has, a node without text
abbrev pub node_at : List Node → ℕ → Node
node_at nodes n = slice_index_or nodes n (root [])

-- a node with another heir
abbrev pub aimed : Node → ℕ → Node
aimed node child = record { parent = node.parent; text = node.text; changes = node.changes; heir = Some child }

-- nodes of which that one has that heir
abbrev pub with_heir : ℕ → ℕ → List Node → List Node
with_heir n child nodes = slice_set nodes n (aimed (node_at nodes n) child)

-- the single changes from a node up to its parent
abbrev pub up : List Node → ℕ → List Change
up nodes n = undoing (node_at nodes (node_at nodes n).parent).text (node_at nodes n).changes

-- a parent and one of its children that a way goes between
pub record TreeEdge : Type 0 where
  pub parent : ℕ
  pub child : ℕ

-- the heir of a node behind steps: the child of the last one that has it as the parent, or else the one before
abbrev pub heir_after : Option ℕ → ℕ → List TreeEdge → Option ℕ
heir_after heir n [] = heir
heir_after heir n (s ∷ ss) = heir_after (if s.parent == n then Some s.child else heir) n ss
