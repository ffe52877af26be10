-- Worked examples of rows that ask the outside for something, and of windows of other sizes.
use Rattle.std.specs.Prelude.{◌≡◌, ℕ, Bool, true, false, List, [], ◌∷◌, Some, None, encode_utf8_all}
use Rattle.kak_files.specs.declared.files.FileRead.TheVariants as file
use Rattle.kak_files.specs.Exchanges.{Exchange, Read as WasRead, Written}
use Rattle.kak_ports.specs.declared.sink.Put.TheVariants as put
use Rattle.kak_world.specs.declared.ask.Ask.TheVariants.{Nothing, Make, Read as ToRead, Write}
use Rattle.kak_world.specs.declared.ask.Saving.{Saving}
use Rattle.kak_world.specs.declared.purpose.PatternUse.{PatternUse}
use Rattle.window_view.specs.Sizes.{sized}
use Rattle.kak_world.specs.Flat.{Flat, view_of}
use Rattle.kak_world.specs.Examples.{two_joined}
use Rattle.command_set.specs.Files.{saved_bytes}
use Rattle.session_turns.specs.Growth.{Begins}
use Rattle.session_events.specs.declared.event.Answered.{Answered}
use Rattle.session_events.specs.declared.event.Answered.TheVariants.{Read, NotThere, Wrote, WriteFailed, Built, Refused}
use Rattle.session_events.specs.declared.event.Event.TheVariants.{Resize}
use Rattle.session_events.specs.Meaning.{no_output}
use Rattle.kak_engine.specs.Steps.{after_event, output_of}
use Rattle.kak_engine.specs.Asking.{OfPattern, OfFile, files_in}
use Rattle.kak_engine.specs.Course.{UsesPattern, ShowsFile, NotesFile, Happened, WasAsked}
use Rattle.kak_engine.specs.Doing.{Fine, done_as, run_task, do_ask, Do, top}
use Rattle.kak_engine.specs.Seen.{moment_of}

pub record Examples : Type 0 where
  -- of what was asked for, what was exchanged with the files, in order
  pub files : (text : List ℕ) (built : Bool) (one other : Exchange) → files_in (OfFile one ∷ OfPattern text built ∷ OfFile other ∷ []) ≡ one ∷ other ∷ []
  -- a row that asks for a pattern takes the next answer: one that was built is made use of, and stands among what was asked for
  pub built : (who : ℕ) (wanted : PatternUse) (flat : Flat) (later : List Answered)
      → do_ask Do (top who) (Make wanted) (moment_of [] (Built ∷ later) flat)
      ≡ run_task Do (top who) (UsesPattern wanted.then (Some (encode_utf8_all wanted.pattern))) (moment_of (WasAsked (OfPattern (encode_utf8_all wanted.pattern) true) ∷ []) later flat)
  -- one that was refused is told
  pub refused : (who : ℕ) (wanted : PatternUse) (flat : Flat) (later : List Answered)
      → do_ask Do (top who) (Make wanted) (moment_of [] (Refused ∷ later) flat)
      ≡ run_task Do (top who) (UsesPattern wanted.then None) (moment_of (WasAsked (OfPattern (encode_utf8_all wanted.pattern) false) ∷ []) later flat)
  -- with no answer, or one of another kind, the answers don't fit what was asked for
  pub wanting : (who : ℕ) (wanted : PatternUse) (flat : Flat)
      → do_ask Do (top who) (Make wanted) (moment_of [] [] flat) ≡ done_as Fine (record { world = flat; answers = []; fit = false; course = [] })
  pub another : (who : ℕ) (wanted : PatternUse) (flat : Flat) (later : List Answered)
      → do_ask Do (top who) (Make wanted) (moment_of [] (Wrote ∷ later) flat) ≡ done_as Fine (record { world = flat; answers = Wrote ∷ later; fit = false; course = [] })
  -- a row that asks for a file goes on with what it was read as, which stands among what was asked for
  pub read : (who : ℕ) (name bytes : List ℕ) (flat : Flat) (later : List Answered)
      → do_ask Do (top who) (ToRead name) (moment_of [] (Read bytes ∷ later) flat)
      ≡ run_task Do (top who) (ShowsFile name (file.Bytes bytes)) (moment_of (WasAsked (OfFile (WasRead name (file.Bytes bytes))) ∷ []) later flat)
  -- and one that has a file written goes on with whether it was
  pub unwritten : (who : ℕ) (saving : Saving) (flat : Flat) (later : List Answered)
      → do_ask Do (top who) (Write saving) (moment_of [] (WriteFailed ∷ later) flat)
      ≡ run_task Do (top who) (NotesFile saving put.Failed) (moment_of (WasAsked (OfFile (Written saving.file (saved_bytes saving flat) put.Failed)) ∷ []) later flat)
  -- what is answered where a file is read says nothing of one that is written
  pub not_written : (who : ℕ) (saving : Saving) (flat : Flat) (later : List Answered)
      → do_ask Do (top who) (Write saving) (moment_of [] (NotThere ∷ later) flat) ≡ done_as Fine (record { world = flat; answers = NotThere ∷ later; fit = false; course = [] })
  -- where memory was wanting behind a file that was read, that read is a beginning of what happens
  pub begun : (who : ℕ) (name bytes : List ℕ) (flat : Flat)
      → Begins (do_ask Do (top who) (ToRead name) (moment_of [] (Read bytes ∷ []) flat)).moment.course (WasAsked (OfFile (WasRead name (file.Bytes bytes))) ∷ [])
  -- and whatever is answered, nothing is a beginning of what happens behind a row that asks for nothing
  pub unasked : (who : ℕ) (answers : List Answered) (what : Happened) (flat : Flat) → Begins (do_ask Do (top who) Nothing (moment_of [] answers flat)).moment.course (what ∷ []) → ⊥

-- of two clients, 7 and 9, the first has windows of another size
pub record SizeExamples : Type 0 where
  pub rows_and_columns : view_of 7 (after_event 7 (Resize (sized 10 40)) [] two_joined) ≡ record { top = 0; left = 0; rows = 10; columns = 40 }
  pub least_and_most : view_of 7 (after_event 7 (Resize (sized 0 5000)) [] two_joined) ≡ record { top = 0; left = 0; rows = 1; columns = 1000 }
  pub last_counts : view_of 7 (after_event 7 (Resize (sized 2 3)) [] (after_event 7 (Resize (sized 10 40)) [] two_joined)) ≡ record { top = 0; left = 0; rows = 2; columns = 3 }
  pub other_stays : view_of 9 (after_event 7 (Resize (sized 10 40)) [] two_joined) ≡ record { top = 0; left = 0; rows = 24; columns = 80 }
  pub gives_nothing : output_of 7 (Resize (sized 10 40)) [] two_joined ≡ no_output
