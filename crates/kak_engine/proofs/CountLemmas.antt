-- A client that is here sees the world that the history of its engine led to, where that isn't broken.
use Rattle.std.proofs.Common.{◌≡◌, ℕ, true, List, length, sym, ap, ◌∙◌}
use Rattle.std.specs.Prelude.{None}
use Rattle.std.specs.declared.option.Option.{Option}
use Rattle.std.proofs.lemmas.List.{length-map}
use Rattle.list_model.specs.Ranges.{Selected}
use Rattle.selection_set.specs.Inside.{range_of}
use Rattle.selection_set.specs.Listing.{Listed}
use Rattle.selection_set.specs.Held.{selected}
use Rattle.kak_files.specs.Files.{Shelf}
use Rattle.session_events.specs.declared.event.Entry.{Entry}
use Rattle.session_events.specs.Legal.{Away, is_here, presence_from}
use Rattle.kak_world.specs.Flat.{Flat, is_joined}
use Rattle.kak_engine.specs.Steps.{run}
use Rattle.kak_engine.specs.Held.{EngineStands}

pub known-joined : (flat : Flat) (h k : List Entry) (m n : Option ℕ) (limit : ℕ) (shelf : Option Shelf) (who : ℕ) → EngineStands flat h m limit shelf → h ≡ k → m ≡ n → n ≡ None → is_here (presence_from who Away k) ≡ true → is_joined who flat ≡ true
known-joined flat h k m n limit shelf who s same mark free here = s.known (mark ∙ free) who ∙ ap (λ (e : List Entry). is_here (presence_from who Away e)) same ∙ here

pub led-world : (flat : Flat) (h k : List Entry) (m n : Option ℕ) (limit : ℕ) (shelf : Option Shelf) → EngineStands flat h m limit shelf → h ≡ k → m ≡ n → n ≡ None → flat ≡ run k
led-world flat h k m n limit shelf s same mark free = s.world (mark ∙ free) ∙ ap run same

-- a list has as many ranges in a text as it has selections
pub same-count : (text : List ℕ) (s : Listed) (ranges : Selected) → ranges ≡ selected text s → length s.list ≡ length ranges.list
same-count text s ranges e = sym (length-map s.list (range_of text)) ∙ sym (ap (λ (r : Selected). length r.list) e)
