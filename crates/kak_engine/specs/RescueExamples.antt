-- Worked examples of what a rescue writes.
use Rattle.std.specs.Prelude.{◌≡◌, ℕ, true, false, List, [], ◌∷◌, ◌++◌, Some, None, Ok, Err, codes}
use Rattle.std.specs.declared.option.Option.{Option}
use Rattle.kak_files.specs.Exchanges.{Written}
use Rattle.kak_ports.specs.declared.sink.Put.TheVariants as put
use Rattle.text_model.specs.Changes.{Change, Insertion}
use Rattle.undo_model.specs.Stories.{Story, opened, edited, marked_saved}
use Rattle.kak_world.specs.Flat.{Buffer, Flat, opening, made_buffer}
use Rattle.kak_world.specs.Changing.{buffer_edited, buffer_broken_off}
use Rattle.kak_world.specs.Saving.{marked_as_saved}
use Rattle.scope_options.specs.declared.scope.Scope.TheVariants.{Buffer as InBuffer}
use Rattle.command_set.specs.Files.{set_to}
use Rattle.session_events.specs.declared.event.Answered.TheVariants.{Wrote, WriteFailed}
use Rattle.kak_engine.specs.Asking.{OfFile}
use Rattle.kak_engine.specs.Honesty.{Outside, IsHonest}
use Rattle.kak_engine.specs.Rescue.{Due, due_below, AreTried, asks_of, answers_of}

-- client 7 types an a in front of the text of a buffer
abbrev pub typed : Buffer → Buffer
typed b = buffer_edited 7 (Insertion 0 (codes "a") ∷ []) b

-- buffers of these names, with a text of one newline
abbrev pub scratch : Buffer
scratch = made_buffer (codes "*scratch*") false (10 ∷ [])

abbrev pub notes : Buffer
notes = made_buffer (codes "notes") true (10 ∷ [])

-- a world with these buffers
abbrev pub holding : List (Option Buffer) → Flat
holding buffers = record opening { buffers = buffers }

abbrev pub scratch_due : Due
scratch_due = record { file = codes "*scratch*.kak-rescue"; bytes = codes "a\n" }

abbrev pub notes_due : Due
notes_due = record { file = codes "notes.kak-rescue"; bytes = codes "a\n" }

pub record RescueExamples : Type 0 where
  -- nothing is due before anything was typed, and of a text that was saved
  pub nothing_typed : due_below 3 opening ≡ []
  pub saved : due_below 3 (holding (Some (marked_as_saved (typed notes)) ∷ [])) ≡ []
  -- a text that was typed into is due, also where its name is no file's
  pub typed_into : due_below 3 (holding (Some (typed scratch) ∷ [])) ≡ scratch_due ∷ []
  -- each is, in order of number; where no buffer is, nothing is due
  pub two : due_below 3 (holding (Some (typed scratch) ∷ None ∷ Some (typed notes) ∷ [])) ≡ scratch_due ∷ notes_due ∷ []
  pub one_of_two : due_below 3 (holding (Some scratch ∷ None ∷ Some (typed notes) ∷ [])) ≡ notes_due ∷ []
  -- a text that a move left half way is due, as it stands then
  pub half_moved : due_below 3 (holding (Some (buffer_broken_off (Insertion 0 (codes "a") ∷ []) notes) ∷ [])) ≡ notes_due ∷ []
  -- it is written in the form in which its options have it
  pub its_form : due_below 1 (set_to (InBuffer 0) (codes "eolformat") (codes "crlf") (holding (Some (typed notes) ∷ []))) ≡ record { file = codes "notes.kak-rescue"; bytes = codes "a\r\n" } ∷ []
  -- where the first of two can't be written, the second is tried all the same, and one was written
  pub one_fails : (old new : Outside) → IsHonest (WriteFailed ∷ Wrote ∷ []) (OfFile (Written (codes "*scratch*.kak-rescue") (codes "a\n") put.Failed) ∷ OfFile (Written (codes "notes.kak-rescue") (codes "a\n") put.Done) ∷ []) old new
      → AreTried (scratch_due ∷ notes_due ∷ []) 1 false old new
  -- who tried the first alone hasn't tried both
  pub one_alone : (done : ℕ) (old new : Outside) → new.asked ≡ old.asked ++ OfFile (Written (codes "*scratch*.kak-rescue") (codes "a\n") put.Failed) ∷ [] → AreTried (scratch_due ∷ notes_due ∷ []) done false old new → ⊥
