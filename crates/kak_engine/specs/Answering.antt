-- What the outside answered, as those take it who asked, and as a history has it.
use Rattle.std.specs.Prelude.{ℕ, Bool, true, false, List, Some, None}
use Rattle.std.specs.declared.option.Option.{Option}
use Rattle.kak_files.specs.declared.files.FileRead.{FileRead}
use Rattle.kak_files.specs.declared.files.FileRead.TheVariants as file
use Rattle.kak_ports.specs.declared.sink.Put.{Put}
use Rattle.kak_ports.specs.declared.sink.Put.TheVariants as put
use Rattle.regex_ports.specs.declared.maker.Made.{Made}
use Rattle.regex_ports.specs.declared.maker.Made.TheVariants as maker
use Rattle.session_events.specs.declared.event.Answered.{Answered}
use Rattle.session_events.specs.declared.event.Answered.TheVariants.{Read, NotThere, TooBig, ReadFailed, Wrote, WriteFailed, Built, Refused}

-- an answer about the pattern of a text: that text where it was built, and none where it was refused; no other answer is one
abbrev pub as_made : List ℕ → Answered → Option (Option (List ℕ))
as_made text Built = Some (Some text)
as_made text Refused = Some None
as_made text _ = None

-- an answer about a file that was to be read
abbrev pub as_read : Answered → Option FileRead
as_read (Read bytes) = Some (file.Bytes bytes)
as_read NotThere = Some file.NotThere
as_read TooBig = Some file.TooBig
as_read ReadFailed = Some file.Failed
as_read _ = None

-- an answer about a file that was to be written
abbrev pub as_put : Answered → Option Put
as_put Wrote = Some put.Done
as_put WriteFailed = Some put.Failed
as_put _ = None

-- what a maker of patterns answered, as a history has it
abbrev pub made_told : {P : Type 0} → Made P → Answered
made_told (maker.Built pattern) = Built
made_told maker.Refused = Refused

-- whether a maker of patterns built one
abbrev pub is_built : {P : Type 0} → Made P → Bool
is_built (maker.Built pattern) = true
is_built maker.Refused = false

-- what was answered about a file that was read, and about one that was written
abbrev pub read_told : FileRead → Answered
read_told (file.Bytes bytes) = Read bytes
read_told file.NotThere = NotThere
read_told file.TooBig = TooBig
read_told file.Failed = ReadFailed

abbrev pub put_told : Put → Answered
put_told put.Done = Wrote
put_told put.Failed = WriteFailed
