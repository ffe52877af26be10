-- What every undo tree and every story keeps.
use Rattle.std.specs.Prelude.{◌≡◌, ℕ, ◌<◌, ◌≤◌, List, length, IfSome}
use Rattle.text_model.specs.Texts.{IsStored}
use Rattle.text_model.specs.Changes.{all_changed}
use Rattle.undo_model.specs.declared.TheConstants.{MAX_NODES}
use Rattle.undo_model.specs.Steps.{AreSteps}
use Rattle.undo_model.specs.Tree.{Node, node_at}
use Rattle.undo_model.specs.Stories.{Story, pending, nodes_due}

-- the node of a number that isn't the root's, and its parent: the parent has a lower number, and the changes are steps that
-- lead from its text to the node's
pub record IsChild (n : ℕ) (parent node : Node) : Type 0 where
  pub below : node.parent < n
  pub steps : AreSteps parent.text node.changes
  pub made : node.text ≡ all_changed parent.text node.changes

-- an heir is a child of the node
pub record IsHeir (nodes : List Node) (n child : ℕ) : Type 0 where
  pub isnt_root : 0 < child
  pub is_there : child < length nodes
  pub is_child : (node_at nodes child).parent ≡ n

-- the nodes of a tree
pub record IsTree (nodes : List Node) : Type 0 where
  pub some : 0 < length nodes
  pub texts : (n : ℕ) → n < length nodes → IsStored (node_at nodes n).text
  pub children : (n : ℕ) → 0 < n → n < length nodes → IsChild n (node_at nodes (node_at nodes n).parent) (node_at nodes n)
  pub heirs : (n : ℕ) → n < length nodes → IfSome (node_at nodes n).heir (IsHeir nodes n)

-- a story: the current and the saved node are there, the pending changes are steps that lead from the current node's text to
-- the text, and the nodes are no more than there may be
pub record IsStory (s : Story) : Type 0 where
  pub tree : IsTree s.nodes
  pub current : s.current < length s.nodes
  pub saved : s.saved < length s.nodes
  pub steps : AreSteps (node_at s.nodes s.current).text (pending s.group)
  pub text : s.text ≡ all_changed (node_at s.nodes s.current).text (pending s.group)
  pub stored : IsStored s.text
  pub few : nodes_due s ≤ MAX_NODES
