-- What a note makes of all that was asked for so far.
use Rattle.std.specs.Prelude.{List, [], ◌∷◌, ◌++◌}
use Rattle.kak_files.specs.Exchanges.{Read, Written}
use Rattle.kak_engine.specs.declared.trace.Note.{Note}
use Rattle.kak_engine.specs.declared.trace.Note.TheVariants as note
use Rattle.kak_engine.specs.Asking.{Asked, OfPattern, OfFile}

-- what a note says was asked for
abbrev pub asked_as : Note → Asked
asked_as (note.OfPattern text built) = OfPattern text.now built
asked_as (note.OfRead name read) = OfFile (Read name.now read.now)
asked_as (note.OfWrite name bytes put) = OfFile (Written name.now bytes.now put)

-- this was asked for behind all else
abbrev pub noted : List Asked → Note → List Asked
noted asked n = asked ++ asked_as n ∷ []
