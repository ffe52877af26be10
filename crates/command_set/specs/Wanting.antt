-- How far came what is made of a file for which memory was wanting. (A command for which it was leaves the world, or did all but what hooks are to hear.)
use Rattle.std.specs.Prelude.{◌≡◌, ◌⊎◌, ℕ, true, List, [], ◌∷◌, codes, Ok, Err}
use Rattle.std.specs.declared.result.Result.{Result}
use Rattle.std.specs.Str.{chars}
use Rattle.kak_ports.specs.declared.sink.Put.{Put}
use Rattle.kak_ports.specs.declared.sink.Put.TheVariants as put
use Rattle.kak_files.specs.declared.files.FileRead.{FileRead}
use Rattle.kak_files.specs.declared.files.FileRead.TheVariants as read
use Rattle.text_coding.specs.declared.form.Eol.{Eol}
use Rattle.text_coding.specs.declared.form.Loaded.{Loaded}
use Rattle.text_coding.specs.declared.form.DecodeError.{DecodeError}
use Rattle.text_coding.specs.Coding.{loaded}
use Rattle.scope_options.specs.declared.scope.Scope.TheVariants.{Buffer as InBuffer}
use Rattle.kak_world.specs.declared.ask.Saving.{Saving}
use Rattle.kak_world.specs.Flat.{Flat}
use Rattle.kak_world.specs.Showing.{first_gap, buffer_opened}
use Rattle.kak_world.specs.Rows.{does}
use Rattle.kak_world.specs.Events.{IsUnheard}
use Rattle.command_set.specs.Files.{set_to, eol_word, formatted, loaded_as, loaded_noted, made_empty, made_noted, row_saved}

-- of the form that a file had nothing is set yet in the buffer of a number, or how its lines end
abbrev pub IsPartOfFormat : ℕ → Eol → Flat → Flat → Type 0
IsPartOfFormat n eol old new = (new ≡ old) ⊎ (new ≡ set_to (InBuffer n) (codes "eolformat") (eol_word eol) old)

-- a file's text isn't opened yet; or it is, as a buffer that nobody is shown, in which some of its form is set, or all of it; or it is
-- shown, and hooks aren't to hear the last of it
abbrev pub IsPartOfLoad : List ℕ → Loaded → ℕ → Flat → Flat → Type 0
IsPartOfLoad name l who old new =
    let opened : Flat = buffer_opened (chars name) true l.text old in
    IsUnheard (does (loaded_noted name (first_gap old.buffers) who (loaded_as name l who old))) old new
    ⊎ (IsPartOfFormat (first_gap old.buffers) l.eol opened new ⊎ (new ≡ formatted (first_gap old.buffers) l.eol l.bom opened))

-- a buffer isn't opened yet for a file that isn't there; or it is, and nobody is shown it; or it is shown, in the same way
abbrev pub IsPartOfEmpty : List ℕ → ℕ → Flat → Flat → Type 0
IsPartOfEmpty name who old new = IsUnheard (does (made_noted name (first_gap old.buffers) who (made_empty name who old))) old new ⊎ (new ≡ buffer_opened (chars name) true (10 ∷ []) old)

-- bytes that are no text leave the world
abbrev pub IsPartOfLoaded : Result Loaded DecodeError → List ℕ → ℕ → Flat → Flat → Type 0
IsPartOfLoaded (Ok l) name who old new = IsPartOfLoad name l who old new
IsPartOfLoaded (Err e) name who old new = new ≡ old

-- what is made of a file that was to be read came part of the way
abbrev pub IsPartOfRead : List ℕ → FileRead → ℕ → Flat → Flat → Type 0
IsPartOfRead name (read.Bytes bytes) who old new = IsPartOfLoaded (loaded bytes) name who old new
IsPartOfRead name read.NotThere who old new = IsPartOfEmpty name who old new
IsPartOfRead name _ who old new = new ≡ old

-- what is made of a file that was to be written came part of the way: a text that was written to the file of its own name may
-- count as saved, and hooks aren't to hear that it was written
abbrev pub IsPartOfSaved : Saving → Put → ℕ → Flat → Flat → Type 0
IsPartOfSaved saving put.Done who old new = IsUnheard (row_saved saving put.Done who old) old new
IsPartOfSaved saving put.Failed who old new = new ≡ old
