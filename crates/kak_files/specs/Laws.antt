-- What passes between files and whoever reads and writes them.
use Rattle.std.specs.Prelude.{◌≡◌, ℕ, ◌+◌, ◌-◌, ◌^◌, ◌≤◌, min, List, [], ◌∷◌, ◌++◌}
use Rattle.kak_ports.specs.declared.sink.Put.{Put}
use Rattle.kak_files.specs.declared.files.TheConstants.{MAX_FILE}
use Rattle.kak_files.specs.declared.files.FileRead.{FileRead}
use Rattle.kak_files.specs.Files.{Shelf, raised, Reads, ReadIsCounted, Writes, WriteIsCounted}
use Rattle.kak_files.specs.Exchanges.{Exchange, Read, Written, Passed}

-- the laws of what passes
pub record PassingLaws : Type 0 where
  -- nothing passes where the files are as they were
  pub none : (shelf : Shelf) → Passed [] shelf shelf
  -- a read passes, of at most `MAX_FILE` bytes
  pub read : (name : List ℕ) (answer : FileRead) (old new : Shelf) → Reads answer name MAX_FILE old.told → new.told ≡ old.told → ReadIsCounted answer old.faults new.faults → Passed (Read name answer ∷ []) old new
  -- so does a write
  pub written : (name bytes : List ℕ) (answer : Put) (old new : Shelf) → Writes answer name bytes old.told new.told → WriteIsCounted answer old.faults new.faults → Passed (Written name bytes answer ∷ []) old new
  -- and one part after another
  pub parts : (a b : List Exchange) (old mid new : Shelf) → Passed a old mid → Passed b mid new → Passed (a ++ b) old new
  -- a count in its range rises by as much, or to the end
  pub count : (times count : ℕ) → count ≤ 2 ^ 64 - 1 → raised times count ≡ min (count + times) (2 ^ 64 - 1)
