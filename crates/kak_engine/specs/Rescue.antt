-- What a rescue writes: the text of each buffer that may differ from what was saved, to a file beside the buffer's own.
use Rattle.std.specs.Prelude.{◌≡◌, ℕ, zero, suc, Bool, true, false, is_none, if◌then◌else◌, List, [], ◌∷◌, ◌++◌, map, count_by, slice_index_or, codes, encode_utf8_all, Some, None, Ok, Err}
use Rattle.std.specs.List.{list_any}
use Rattle.std.specs.declared.option.Option.{Option}
use Rattle.std.specs.declared.result.Result.{Result}
use Rattle.std.specs.declared.alloc.AllocError.{AllocError}
use Rattle.kak_files.specs.Exchanges.{Written}
use Rattle.kak_ports.specs.declared.sink.Put.{Put}
use Rattle.kak_ports.specs.declared.sink.Put.TheVariants as put
use Rattle.undo_model.specs.Stories.{is_modified}
use Rattle.kak_world.specs.declared.ask.Saving.{Saving}
use Rattle.kak_world.specs.declared.slots.TheConstants.{MAX_BUFFERS}
use Rattle.kak_world.specs.Flat.{Buffer, Flat}
use Rattle.command_set.specs.Files.{saved_bytes}
use Rattle.session_events.specs.declared.event.Answered.{Answered}
use Rattle.kak_engine.specs.Answering.{put_told}
use Rattle.kak_engine.specs.Asking.{Asked, OfFile}
use Rattle.kak_engine.specs.Honesty.{Outside, IsHonest}

-- the file to which the text of a buffer of some name is rescued, in UTF-8
abbrev pub rescue_file : List ℕ → List ℕ
rescue_file name = encode_utf8_all name ++ codes ".kak-rescue"

-- how the text of the buffer of a number is written there: as it would be written to any file
abbrev pub rescuing : ℕ → List ℕ → Saving
rescuing n name = record { file = rescue_file name; buffer = n; name = []; quits = false }

-- a text that is to be rescued: the file, and its bytes
pub record Due : Type 0 where
  pub file : List ℕ
  pub bytes : List ℕ

-- what is due of the buffer of a number: nothing where there is none, and where its text is what was saved
abbrev pub due_of : ℕ → Flat → Option Buffer → List Due
due_of n flat None = []
due_of n flat (Some b) = if is_modified b.story then record { file = rescue_file b.name; bytes = saved_bytes (rescuing n b.name) flat } ∷ [] else []

-- of the buffers with numbers below this one, in order of number
abbrev pub due_below : ℕ → Flat → List Due
due_below zero flat = []
due_below (suc n) flat = due_below n flat ++ due_of n flat (slice_index_or flat.buffers n None)

-- of all buffers that a world may have
unfoldable pub due : Flat → List Due
due flat = due_below MAX_BUFFERS flat

-- How it went with one of them: it was asked for that it be written, and this was answered; or memory was wanting for its bytes or
-- its name, and nothing was asked for.
pub record Attempt : Type 0 where
  pub due : Due
  pub answer : Option Put

abbrev pub ask_of : Due → Option Put → List Asked
ask_of due None = []
ask_of due (Some answer) = OfFile (Written due.file due.bytes answer) ∷ []

abbrev pub answer_of : Option Put → List Answered
answer_of None = []
answer_of (Some answer) = put_told answer ∷ []

-- what the outside was asked for in some attempts, in order, and what it answered
abbrev pub asks_of : List Attempt → List Asked
asks_of [] = []
asks_of (attempt ∷ later) = ask_of attempt.due attempt.answer ++ asks_of later

abbrev pub answers_of : List Attempt → List Answered
answers_of [] = []
answers_of (attempt ∷ later) = answer_of attempt.answer ++ answers_of later

-- an answer is that it was written; where nothing was asked for, nothing was
abbrev pub is_written : Option Put → Bool
is_written (Some put.Done) = true
is_written (Some put.Failed) = false
is_written None = false

-- it was written; memory was wanting for it
abbrev pub is_done : Attempt → Bool
is_done attempt = is_written attempt.answer

abbrev pub is_wanting : Attempt → Bool
is_wanting attempt = is_none attempt.answer

-- Each of some texts was tried once, in order, and nothing else was asked for; so many were written, and whether memory was
-- wanting for one.
pub record AreTried (dues : List Due) (done : ℕ) (wanting : Bool) (old new : Outside) : Type 0 where
  pub attempts : List Attempt
  pub each : map (λ attempt. attempt.due) attempts ≡ dues
  pub honest : IsHonest (answers_of attempts) (asks_of attempts) old new
  pub done_is : done ≡ count_by is_done attempts
  pub wanting_is : wanting ≡ list_any is_wanting attempts

-- The texts of a world were rescued: each that is due was tried. On Ok memory was wanting for none, and so many were written; else
-- it was wanting for one.
abbrev pub Rescues : Flat → Result ℕ AllocError → Outside → Outside → Type 0
Rescues flat (Ok done) old new = AreTried (due flat) done false old new
Rescues flat (Err e) old new = (done : ℕ) × AreTried (due flat) done true old new
