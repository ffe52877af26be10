-- A history in memory: what is kept of its pending group, what it keeps in every state, and how it is changed.
use Rattle.std.specs.Prelude.{◌≡◌, ℕ, ◌+◌, ◌<◌, ◌≤◌, ◌==◌, if◌then◌else◌, List, [], ◌∷◌, ◌++◌, length, take, Some, None, OnSome, MatchBool, vec_len, vec_capacity}
use Rattle.std.specs.declared.option.Option.{Option}
use Rattle.std.specs.Global.{Vec}
use Rattle.text_model.specs.declared.coords.Coord.{Coord}
use Rattle.text_model.specs.declared.coords.Shift.{Shift}
use Rattle.text_model.specs.Texts.{IsStored, IsPlaceOrEnd, offset}
use Rattle.text_model.specs.Changes.{Change, put_in, erased, erasure, exchange, replacement}
use Rattle.change_list.specs.declared.change.Change.{Change as Kept}
use Rattle.selection_map.specs.Premises.{IsTied}
use Rattle.undo_model.specs.Stories.{Story, edited}
use Rattle.buffer_store.specs.declared.history.Pending.{Pending as CodePending}
use Rattle.buffer_store.specs.Stored.{change_shifts}
use Rattle.buffer_store.specs.Seen.{Branch, Pending, IsTold}

-- a pending group of the code, as it is seen
abbrev pub seen_pending : Option CodePending → Option Pending
seen_pending None = None
seen_pending (Some g) = Some (record { owner = g.owner; changes = g.changes.items })

-- what is kept tells a story, and where a group is pending there is a place for its branch, behind so many that are taken
pub record IsHistory (text : List ℕ) (bs : List Branch) (current saved : ℕ) (group : Option Pending) (taken places : ℕ) : Type 0 where
  pub told : IsTold text bs current saved group
  pub room : OnSome group (taken < places)

-- the branches behind a commit
abbrev pub committed_branches : ℕ → Option Pending → List Branch → List Branch
committed_branches current None bs = bs
committed_branches current (Some g) bs = bs ++ (record { parent = current; heir = None; changes = g.changes }) ∷ []

-- the current node behind a commit, which would be the next one of that number
abbrev pub committed_current : ℕ → Option Pending → ℕ → ℕ
committed_current current None next = current
committed_current current (Some g) next = next

-- what is pending of a client, and of another one
abbrev pub own_group : ℕ → Option Pending → Option Pending
own_group who None = None
own_group who (Some g) = if g.owner == who then Some g else None

abbrev pub other_group : ℕ → Option Pending → Option Pending
other_group who None = None
other_group who (Some g) = if g.owner == who then None else Some g

-- an empty list with room for a change, and places for two branches behind so many that are taken
pub record IsFreshList (taken places : ℕ) (fresh : Vec Kept) : Type 0 where
  pub none : fresh.items ≡ []
  pub one : vec_len fresh < vec_capacity fresh
  pub two : taken + 2 ≤ places

-- there is room for one change more of a client: in its pending group, or else in a fresh list for a group that begins
abbrev pub HasRoom : ℕ → Option CodePending → ℕ → ℕ → Vec Kept → Type 0
HasRoom who None taken places fresh = IsFreshList taken places fresh
HasRoom who (Some g) taken places fresh = MatchBool (g.owner == who) (vec_len g.changes < vec_capacity g.changes) (IsFreshList taken places fresh)

-- the change that takes out what stands between two coordinates
abbrev pub erasure_between : List ℕ → Coord → Coord → List Change
erasure_between text from to = erasure text (offset text from) (offset text to)

-- the changes that take it out and put characters in at its place
abbrev pub exchange_between : List ℕ → Coord → Coord → List ℕ → List Change
exchange_between text from to chars = exchange text (offset text from) (offset text to) chars

-- the offset behind what is put in then
abbrev pub behind_exchange : List ℕ → Coord → Coord → List ℕ → ℕ
behind_exchange text from to chars = offset text from + length (put_in (erased text (offset text from) (offset text to)) (offset text from) chars)

-- the changes that replace it by characters
abbrev pub replacement_between : List ℕ → Coord → Coord → List ℕ → List Change
replacement_between text from to chars = replacement text (offset text from) (offset text to) chars

-- the changes that replace the end of a text by characters, from a coordinate on
abbrev pub replacement_from : List ℕ → Coord → List ℕ → List Change
replacement_from text from chars = replacement text (offset text from) (length text) chars

-- all of a client's changes were made, and their shifts were added to a list
pub record IsWholly (who : ℕ) (cs : List Change) (old new : Story) (before after : List Shift) : Type 0 where
  pub story : new ≡ edited who cs old
  pub shifts_are : after ≡ before ++ change_shifts old.text cs

-- some of a client's changes were made, from the first on, and their shifts were added to a list
pub record IsPartly (who : ℕ) (cs : List Change) (old new : Story) (before after : List Shift) : Type 0 where
  pub made : ℕ
  pub story : new ≡ edited who (take made cs) old
  pub shifts_are : after ≡ before ++ change_shifts old.text (take made cs)

-- the coordinate behind what was put in at one
abbrev pub end_of : Coord → Option Shift → Coord
end_of at None = at
end_of at (Some s) = s.end

-- behind a place of a new text stands what stood behind a place of the old one
pub record IsBehind (old new : List ℕ) (at behind : Coord) : Type 0 where
  pub stored : IsStored new
  pub place : IsPlaceOrEnd new behind
  pub tied : IsTied old new (offset old at) (offset new behind)
