-- A task that came part of the way leaves the texts that stand behind some of its single changes.
use Rattle.std.proofs.Common.{ℕ, true, false, [], ◌∷◌, List, ap, ◌∙◌, inl, inr}
use Rattle.std.specs.Prelude.{codes, Ok, Err}
use Rattle.std.specs.declared.result.Result.{Result}
use Rattle.std.specs.Str.{chars}
use Rattle.text_coding.specs.declared.form.Eol.{Eol}
use Rattle.text_coding.specs.declared.form.Bom.{Bom}
use Rattle.text_coding.specs.declared.form.Loaded.{Loaded}
use Rattle.text_coding.specs.declared.form.DecodeError.{DecodeError}
use Rattle.text_coding.specs.Coding.{loaded}
use Rattle.kak_ports.specs.declared.sink.Put.TheVariants as put
use Rattle.kak_files.specs.declared.files.FileRead.{FileRead}
use Rattle.kak_files.specs.declared.files.FileRead.TheVariants as read
use Rattle.scope_options.specs.Changes.{option_set_in}
use Rattle.scope_options.specs.declared.scope.Scope.{Scope}
use Rattle.scope_options.specs.declared.scope.Scope.TheVariants.{Buffer as InBuffer}
use Rattle.kak_world.specs.Flat.{Flat, options_of, mode_of}
use Rattle.kak_world.specs.Events.{coming_noted}
use Rattle.kak_world.specs.Showing.{first_gap, buffer_opened}
use Rattle.command_set.specs.Buffers.{row_later}
use Rattle.command_set.specs.Files.{set_to, eol_word, formatted, loaded_as, loaded_noted, made_empty, made_noted, row_saved}
use Rattle.command_set.specs.Rows.{row_command}
use Rattle.command_set.specs.Wanting.{IsPartOfFormat, IsPartOfLoad, IsPartOfLoaded, IsPartOfEmpty, IsPartOfRead}
use Rattle.kak_engine.specs.Course.{Task, RunsKey, RunsCommand, RunsMacro, UsesPattern, GoesOn, ShowsFile, NotesFile, GrantsLeave, GoesNormal, TakesArguments, NotesComing, NotesGoing, TakesDue, BeginsHook, TakesParameter, KeepsFault}
use Rattle.kak_engine.specs.Wanting.{IsPartOfTask, IsWithinTask}
use Rattle.step_texts.specs.Texts.{texts_of, HasSameTexts}
use Rattle.step_texts.specs.Makings.{opening_made, loading_made, file_made, task_made, task_runs, IsWithinMaking, AreTextsWithin}
use Rattle.step_texts.proofs.TextLemmas.{texts-set, texts-noted, texts-wanting, texts-shows}
use Rattle.step_texts.proofs.MakingLemmas.{within-none, within-same, WithinRuns, at-once, within-key}

-- the form of a file leaves the texts
set-texts : (scope : Scope) (name word : List ℕ) (flat : Flat) → HasSameTexts flat (set_to scope name word flat)
set-texts scope name word flat = texts-set (option_set_in scope name (word ∷ []) false (options_of flat)) flat

eol-texts : (n : ℕ) (eol : Eol) (flat : Flat) → HasSameTexts flat (set_to (InBuffer n) (codes "eolformat") (eol_word eol) flat)
eol-texts n eol flat = set-texts (InBuffer n) (codes "eolformat") (eol_word eol) flat

formatted-texts : (n : ℕ) (eol : Eol) (bom : Bom) (flat : Flat) → HasSameTexts flat (formatted n eol bom flat)
formatted-texts n eol bom flat = set-texts (InBuffer n) (codes "BOM") _ (set_to (InBuffer n) (codes "eolformat") (eol_word eol) flat) ∙ eol-texts n eol flat

format-texts : (n : ℕ) (eol : Eol) (old new : Flat) → IsPartOfFormat n eol old new → HasSameTexts old new
format-texts n eol old new (inl e) = ap texts_of e
format-texts n eol old new (inr e) = ap texts_of e ∙ eol-texts n eol old

-- a file that is shown has its text, whatever hooks are to hear
loaded-texts : (name : List ℕ) (l : Loaded) (who : ℕ) (flat : Flat) → HasSameTexts (buffer_opened (chars name) true l.text flat) (loaded_noted name (first_gap flat.buffers) who (loaded_as name l who flat))
loaded-texts name l who flat =
    let n : ℕ = first_gap flat.buffers in
    let opened : Flat = buffer_opened (chars name) true l.text flat in
    let shown : Flat = loaded_as name l who flat in
    texts-noted _ _ ∙ (texts-noted _ _ ∙ (texts-noted _ shown ∙ (texts-shows who n (formatted n l.eol l.bom opened) ∙ formatted-texts n l.eol l.bom opened)))

empty-texts : (name : List ℕ) (who : ℕ) (flat : Flat) → HasSameTexts (buffer_opened (chars name) true (10 ∷ []) flat) (made_noted name (first_gap flat.buffers) who (made_empty name who flat))
empty-texts name who flat =
    let n : ℕ = first_gap flat.buffers in
    texts-noted _ _ ∙ (texts-noted _ (made_empty name who flat) ∙ texts-shows who n (buffer_opened (chars name) true (10 ∷ []) flat))

-- a file
within-load : (name : List ℕ) (l : Loaded) (who : ℕ) (old new : Flat) → IsPartOfLoad name l who old new → IsWithinMaking who (opening_made name l.text old) new
within-load name l who old new (inl (inl e)) = within-none who (opening_made name l.text old) new (ap texts_of e)
within-load name l who old new (inl (inr w)) = inr (texts-wanting (loaded_noted name (first_gap old.buffers) who (loaded_as name l who old)) new w ∙ loaded-texts name l who old)
within-load name l who old new (inr (inl f)) = inr (format-texts (first_gap old.buffers) l.eol (buffer_opened (chars name) true l.text old) new f)
within-load name l who old new (inr (inr e)) = inr (ap texts_of e ∙ formatted-texts (first_gap old.buffers) l.eol l.bom (buffer_opened (chars name) true l.text old))

within-loaded : (name : List ℕ) (r : Result Loaded DecodeError) (who : ℕ) (old new : Flat) → IsPartOfLoaded r name who old new → IsWithinMaking who (loading_made name r old) new
within-loaded name (Ok l) who old new p = within-load name l who old new p
within-loaded name (Err e) who old new p = within-same who old new p

within-empty : (name : List ℕ) (who : ℕ) (old new : Flat) → IsPartOfEmpty name who old new → IsWithinMaking who (opening_made name (10 ∷ []) old) new
within-empty name who old new (inl (inl e)) = within-none who (opening_made name (10 ∷ []) old) new (ap texts_of e)
within-empty name who old new (inl (inr w)) = inr (texts-wanting (made_noted name (first_gap old.buffers) who (made_empty name who old)) new w ∙ empty-texts name who old)
within-empty name who old new (inr e) = inr (ap texts_of e)

within-read : (name : List ℕ) (r : FileRead) (who : ℕ) (old new : Flat) → IsPartOfRead name r who old new → IsWithinMaking who (file_made name r old) new
within-read name (read.Bytes bytes) who old new p = within-loaded name (loaded bytes) who old new p
within-read name read.NotThere who old new p = within-empty name who old new p
within-read name read.TooBig who old new p = within-same who old new p
within-read name read.Failed who old new p = within-same who old new p

-- a task that came part of the way
part-within : (task : Task) (who : ℕ) (old new : Flat) → WithinRuns (task_runs task who old) (λ runs. task_made runs task who old) who new → AreTextsWithin task who old new
part-within task who old new w = inl (record { runs = w.runs; few = w.few; within = w.within })

within-part-of : (task : Task) (who : ℕ) (old new : Flat) → IsPartOfTask task who old new → AreTextsWithin task who old new
within-part-of (RunsKey key) who old new p = part-within (RunsKey key) who old new (within-key (mode_of who old) key who old new p)
within-part-of (RunsCommand command) who old new (inl e) = part-within (RunsCommand command) who old new (at-once _ who new (within-same who old new e))
within-part-of (RunsCommand command) who old new (inr w) = inr (texts-wanting (row_command command who old).world new w)
within-part-of (GoesOn later) who old new (inl e) = part-within (GoesOn later) who old new (at-once _ who new (within-same who old new e))
within-part-of (GoesOn later) who old new (inr w) = inr (texts-wanting (row_later later who old).world new w)
within-part-of (ShowsFile name answer) who old new p = part-within (ShowsFile name answer) who old new (at-once _ who new (within-read name answer who old new p))
within-part-of (NotesFile saving put.Done) who old new (inl e) = part-within (NotesFile saving put.Done) who old new (at-once _ who new (within-same who old new e))
within-part-of (NotesFile saving put.Done) who old new (inr w) = inr (texts-wanting (row_saved saving put.Done who old).world new w)
within-part-of (NotesFile saving put.Failed) who old new e = part-within (NotesFile saving put.Failed) who old new (at-once _ who new (within-same who old new e))
within-part-of NotesComing who old new (inl e) = part-within NotesComing who old new (at-once _ who new (within-same who old new e))
within-part-of NotesComing who old new (inr w) = inr (texts-wanting (coming_noted who old) new w)
within-part-of (RunsMacro macro) who old new e = part-within (RunsMacro macro) who old new (at-once _ who new (within-same who old new e))
within-part-of (UsesPattern wanted made) who old new e = part-within (UsesPattern wanted made) who old new (at-once _ who new (within-same who old new e))
within-part-of GrantsLeave who old new e = part-within GrantsLeave who old new (at-once _ who new (within-same who old new e))
within-part-of GoesNormal who old new e = part-within GoesNormal who old new (at-once _ who new (within-same who old new e))
within-part-of (TakesArguments arguments) who old new e = part-within (TakesArguments arguments) who old new (at-once _ who new (within-same who old new e))
within-part-of NotesGoing who old new e = part-within NotesGoing who old new (at-once _ who new (within-same who old new e))
within-part-of TakesDue who old new e = part-within TakesDue who old new (at-once _ who new (within-same who old new e))
within-part-of (BeginsHook at parameter) who old new e = part-within (BeginsHook at parameter) who old new (at-once _ who new (within-same who old new e))
within-part-of (TakesParameter parameter) who old new e = part-within (TakesParameter parameter) who old new (at-once _ who new (within-same who old new e))
within-part-of (KeepsFault fault) who old new e = part-within (KeepsFault fault) who old new (at-once _ who new (within-same who old new e))

pub within-task : (task : Task) (who : ℕ) (old new : Flat) → IsWithinTask task who old new → AreTextsWithin task who old new
within-task task who old new (inl p) = within-part-of task who old new p
within-task task who old new (inr e) = inr (ap texts_of e)
