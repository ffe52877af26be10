-- Every selection list of the world is settled and lies inside the text that it is on.
use Rattle.std.specs.Prelude.{ℕ, ◌<◌, List, length}
use Rattle.std.specs.List.{AllByRecursion}
use Rattle.std.specs.declared.option.Option.{Option}
use Rattle.std.specs.Prelude.{Some, None}
use Rattle.list_model.specs.Ranges.{Range, Selected}
use Rattle.list_model.specs.Settled.{IsSettledList}
use Rattle.list_shelf.specs.Shelves.{Held}
use Rattle.kak_world.specs.Flat.{Buffer, Flat}

-- selections of a text are settled, and lie inside it
pub record AreSettledInside (text : List ℕ) (s : Selected) : Type 0 where
  pub settled : IsSettledList s
  pub inside : AllByRecursion (λ (r : Range). r.high < length text) s.list

-- so it is with each list on a buffer
abbrev pub ListsAreSettled : Buffer → Type 0
ListsAreSettled b = AllByRecursion (λ (held : Held). AreSettledInside b.story.text held.sels) b.lists

-- where there is one
abbrev pub SlotIsSettled : Option Buffer → Type 0
SlotIsSettled None = Unit {0}
SlotIsSettled (Some b) = ListsAreSettled b

-- and on each buffer of a world
abbrev pub AllListsSettled : Flat → Type 0
AllListsSettled flat = AllByRecursion SlotIsSettled flat.buffers
