-- Words, and the generated sessions that they name.
use Rattle.std.specs.Prelude.{◌≡◌, ℕ, List, [], ◌∷◌, Option, Some, None, codes}
use Rattle.program_words.specs.declared.generated.GenWords.{GenWords}
use Rattle.program_words.specs.GenWords.{gen_words}

-- `gen`, and three words more
abbrev pub generating : List ℕ → List ℕ → List ℕ → List (List ℕ)
generating clients keys seed = codes "gen" ∷ clients ∷ keys ∷ seed ∷ []

abbrev pub session_of : ℕ → ℕ → ℕ → Option GenWords
session_of clients keys seed = Some (record { clients = clients; keys = keys; seed = seed })

-- the table of examples
pub record GenExamples : Type 0 where
  pub plain : gen_words (generating (codes "8") (codes "20000") (codes "1")) ≡ session_of 8 20000 1
  pub zeros : gen_words (generating (codes "01") (codes "010") (codes "007")) ≡ session_of 1 10 7
  pub smallest : gen_words (generating (codes "1") (codes "0") (codes "0")) ≡ session_of 1 0 0
  pub greatest : gen_words (generating (codes "64") (codes "1000000") (codes "18446744073709551615")) ≡ session_of 64 1000000 18446744073709551615
  -- out of range
  pub nobody : gen_words (generating (codes "0") (codes "1") (codes "1")) ≡ None
  pub crowd : gen_words (generating (codes "65") (codes "1") (codes "1")) ≡ None
  pub too_many_keys : gen_words (generating (codes "1") (codes "1000001") (codes "1")) ≡ None
  pub too_great_a_seed : gen_words (generating (codes "1") (codes "10") (codes "18446744073709551616")) ≡ None
  pub more_than_32_bits : gen_words (generating (codes "4294967297") (codes "1") (codes "1")) ≡ None
  -- no numbers
  pub plus : gen_words (generating (codes "+1") (codes "1") (codes "1")) ≡ None
  pub minus : gen_words (generating (codes "-1") (codes "1") (codes "1")) ≡ None
  pub letter : gen_words (generating (codes "1") (codes "x") (codes "1")) ≡ None
  pub nothing : gen_words (generating (codes "1") (codes "1") []) ≡ None
  -- other words
  pub too_few : gen_words (codes "gen" ∷ codes "1" ∷ codes "1" ∷ []) ≡ None
  pub too_many : gen_words (codes "gen" ∷ codes "1" ∷ codes "1" ∷ codes "1" ∷ codes "1" ∷ []) ≡ None
  pub other_word : gen_words (codes "Gen" ∷ codes "1" ∷ codes "1" ∷ codes "1" ∷ []) ≡ None
  pub none : gen_words [] ≡ None
