-- Ways in an undo tree node by node: the nodes that a way leaves for their parents, and those that it then goes to; what it
-- changes, and what is remembered of it.
use Rattle.std.specs.Prelude.{◌≡◌, ℕ, zero, suc, ◌<◌, ◌==◌, nat_lt, if◌then◌else◌, List, [], ◌∷◌, ◌++◌, length, map}
use Rattle.text_model.specs.Changes.{Change}
use Rattle.undo_model.specs.Tree.{Node, node_at, with_heir, up, TreeEdge}

-- the nodes of a way: those that it leaves for their parents, and those that it then goes to from theirs, both in order
pub record NodeWay : Type 0 where
  pub left : List ℕ
  pub entered : List ℕ

-- from a node to itself
abbrev pub no_way : NodeWay
no_way = record { left = []; entered = [] }

-- a node is left for its parent, and then a way goes on
abbrev pub leaving_first : ℕ → NodeWay → NodeWay
leaving_first n way = record { left = n ∷ way.left; entered = way.entered }

-- behind a way a node is gone to from its parent
abbrev pub entering_last : ℕ → NodeWay → NodeWay
entering_last n way = record { left = way.left; entered = way.entered ++ n ∷ [] }

-- the way from one node to another, up to their nearest common ancestor and then down, over at most so many nodes: a parent
-- has a lower number than its children, so the greater of two nodes lies below that ancestor
abbrev pub way_between : ℕ → List Node → ℕ → ℕ → NodeWay
way_between zero nodes a b = no_way
way_between (suc k) nodes a b =
    if a == b then no_way else (if nat_lt b a
    then leaving_first a (way_between k nodes (node_at nodes a).parent b)
    else entering_last b (way_between k nodes a (node_at nodes b).parent))

-- the nodes that it leaves, and those that it then goes to
abbrev pub leaving : ℕ → List Node → ℕ → ℕ → List ℕ
leaving k nodes a b = (way_between k nodes a b).left

abbrev pub entering : ℕ → List Node → ℕ → ℕ → List ℕ
entering k nodes a b = (way_between k nodes a b).entered

-- the single changes of leaving nodes for their parents
abbrev pub rising : List Node → List ℕ → List Change
rising nodes [] = []
rising nodes (n ∷ ns) = up nodes n ++ rising nodes ns

-- the single changes of going to nodes from their parents
abbrev pub falling : List Node → List ℕ → List Change
falling nodes [] = []
falling nodes (n ∷ ns) = (node_at nodes n).changes ++ falling nodes ns

-- nodes behind that: the parent of each has it as its heir
abbrev pub remembered : List Node → List ℕ → List Node
remembered nodes [] = nodes
remembered nodes (n ∷ ns) = remembered (with_heir (node_at nodes n).parent n nodes) ns

-- the single changes from one node to another
abbrev pub route : ℕ → List Node → ℕ → ℕ → List Change
route k nodes a b = rising nodes (leaving k nodes a b) ++ falling nodes (entering k nodes a b)

-- the nodes behind that way: each parent on it has the child as its heir that the way came from or went to last
abbrev pub remembering : ℕ → List Node → ℕ → ℕ → List Node
remembering k nodes a b = remembered (remembered nodes (leaving k nodes a b)) (entering k nodes a b)

-- the step between a node and its parent
abbrev pub edge_of : List Node → ℕ → TreeEdge
edge_of nodes n = record { parent = (node_at nodes n).parent; child = n }

-- the steps of the way from one node to another, in order
abbrev pub crossed : ℕ → List Node → ℕ → ℕ → List TreeEdge
crossed k nodes a b = map (edge_of nodes) (leaving k nodes a b ++ entering k nodes a b)

-- from a node up to another, leaving these nodes for their parents
abbrev pub IsRise : List Node → ℕ → List ℕ → ℕ → Type 0
IsRise nodes a [] c = a ≡ c
IsRise nodes a (n ∷ ns) c = (a ≡ n) × (0 < n) × (n < length nodes) × IsRise nodes (node_at nodes n).parent ns c

-- from a node down to another, going to these nodes from their parents
abbrev pub IsFall : List Node → ℕ → List ℕ → ℕ → Type 0
IsFall nodes c [] b = c ≡ b
IsFall nodes c (n ∷ ns) b = ((node_at nodes n).parent ≡ c) × (0 < n) × (n < length nodes) × IsFall nodes n ns b

-- from one node up to a common ancestor, and from there down to another
pub record IsWay (nodes : List Node) (a b : ℕ) (left entered : List ℕ) : Type 0 where
  pub top : ℕ
  pub rise : IsRise nodes a left top
  pub fall : IsFall nodes top entered b
