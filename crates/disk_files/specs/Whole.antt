-- What a read of an open file answers, where the file tells the bytes that are left in it, and one of a file that can't be
-- opened.
use Rattle.std.specs.Prelude.{◌≡◌, ◌≢◌, ℕ, List, None, Some}
use Rattle.std.specs.declared.io.ErrorKind.{ErrorKind}
use Rattle.std.specs.declared.io.ErrorKind.TheVariants.{NotFound}
use Rattle.std.specs.declared.option.Option.{Option}
use Rattle.kak_files.specs.declared.files.FileRead.{FileRead}
use Rattle.kak_files.specs.declared.files.FileRead.TheVariants.{Bytes, NotThere, TooBig, Failed}

-- the bytes that are answered are all that were left, where they are told; a file that is open is there
abbrev pub IsWholeRead : Option (List ℕ) → FileRead → Type 0
IsWholeRead left NotThere = ⊥
IsWholeRead (Some held) (Bytes bytes) = bytes ≡ held
IsWholeRead None (Bytes bytes) = Unit {0}
IsWholeRead left TooBig = Unit {0}
IsWholeRead left Failed = Unit {0}

-- where a file wasn't opened, there is none only if the error says that nothing stands under the name; else the read failed
abbrev pub IsUnopened : ErrorKind → FileRead → Type 0
IsUnopened kind NotThere = kind ≡ NotFound
IsUnopened kind Failed = kind ≢ NotFound
IsUnopened kind (Bytes bytes) = ⊥
IsUnopened kind TooBig = ⊥
