-- Files that are read and written.
use Rattle.std.specs.Prelude.{◌≡◌, ℕ, ◌-◌, ◌^◌, true, false, List, [], ◌∷◌, codes}
use Rattle.kak_ports.specs.declared.sink.Put.TheVariants.{Done, Failed as PutFailed}
use Rattle.kak_files.specs.declared.files.FileRead.TheVariants.{Bytes, NotThere, TooBig, Failed as ReadFailed}
use Rattle.kak_files.specs.Files.{Missing, Holds, Lost, FileRow, content_of, IsAnswer, raised}
use Rattle.kak_files.specs.Exchanges.{Exchange, Read, Written, held_after, Agree, failures}

-- a file of that name which holds these bytes
abbrev pub file : List ℕ → List ℕ → FileRow
file name bytes = record { name = name; content = Holds bytes }

-- two files
abbrev pub given_files : List FileRow
given_files = file (codes "a") (codes "one") ∷ file (codes "b") (codes "two") ∷ []

-- b is written, then read; a write of a fails, and a is read
abbrev pub some : List Exchange
some = Written (codes "b") (codes "new") Done ∷ Read (codes "b") (Bytes (codes "new")) ∷ Written (codes "a") (codes "x") PutFailed ∷ Read (codes "a") NotThere ∷ []

-- the table of examples
pub record WorkedExamples : Type 0 where
  pub there : content_of (codes "b") given_files ≡ Holds (codes "two")
  pub not_there : content_of (codes "c") given_files ≡ Missing
  -- reads
  pub read : IsAnswer (Bytes (codes "one")) 3 (content_of (codes "a") given_files)
  pub too_big : IsAnswer TooBig 2 (content_of (codes "a") given_files)
  pub none : IsAnswer NotThere 3 (content_of (codes "c") given_files)
  pub other_bytes : IsAnswer (Bytes (codes "two")) 3 (content_of (codes "a") given_files) → ⊥
  pub not_too_big : IsAnswer TooBig 3 (content_of (codes "a") given_files) → ⊥
  pub there_after_all : IsAnswer NotThere 3 (content_of (codes "a") given_files) → ⊥
  pub failed : IsAnswer ReadFailed 3 (content_of (codes "a") given_files)
  -- writes
  pub written : content_of (codes "b") (held_after false some given_files) ≡ Holds (codes "new")
  pub other_stays : content_of (codes "a") (held_after false (Written (codes "b") [] Done ∷ []) given_files) ≡ Holds (codes "one")
  pub made : content_of (codes "c") (held_after false (Written (codes "c") [] Done ∷ []) given_files) ≡ Holds []
  -- a failed write loses the file, or spares it
  pub lost : content_of (codes "a") (held_after false some given_files) ≡ Lost
  pub spared : content_of (codes "a") (held_after true some given_files) ≡ Holds (codes "one")
  pub found_again : content_of (codes "a") (held_after false (Written (codes "a") [] PutFailed ∷ Written (codes "a") (codes "x") Done ∷ []) given_files) ≡ Holds (codes "x")
  -- a read agrees with what was written before it; a lost file may be read as anything, a spared one as what it held
  pub agrees : Agree 9 false given_files some
  pub old_bytes : Agree 9 false given_files (Written (codes "b") (codes "new") Done ∷ Read (codes "b") (Bytes (codes "two")) ∷ []) → ⊥
  pub there_still : Agree 9 true given_files some → ⊥
  pub spared_bytes : Agree 9 true given_files (Written (codes "b") (codes "new") PutFailed ∷ Read (codes "b") (Bytes (codes "two")) ∷ [])
  -- failures are counted one by one, up to the end of the range
  pub one_failed : failures some ≡ 1
  pub none_failed : failures (Read (codes "a") TooBig ∷ Written (codes "a") [] Done ∷ []) ≡ 0
  pub two_failed : failures (Read (codes "a") ReadFailed ∷ Written (codes "a") [] PutFailed ∷ []) ≡ 2
  pub two_more : raised 2 5 ≡ 7
  pub at_the_end : raised 2 (2 ^ 64 - 2) ≡ 2 ^ 64 - 1
