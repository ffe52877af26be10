-- Words by which the programs may be called, and what generated sessions play.
use Rattle.std.specs.Prelude.{◌≡◌, ℕ, List, [], ◌∷◌, true, false, codes}
use Rattle.key_names.specs.declared.key.Base.TheVariants.{Char}
use Rattle.key_names.specs.Reading.{bare}
use Rattle.program_words.specs.declared.generated.GenWords.{GenWords}
use Rattle.session_events.specs.declared.event.Event.{Event}
use Rattle.session_events.specs.declared.event.Event.TheVariants.{Join, Key as Struck, Leave}
use Rattle.ui_board.specs.declared.ui.Kind.TheVariants.{Json, Silent, Screen}
use Rattle.kak_app.specs.Generated.{made_by, goings, drawn_moves, generated, generated_whole, is_call}
use Rattle.kak_app.specs.Replays.{says_kind, is_replay_call}

-- a generated session of so many clients and keys with that seed
abbrev pub session_of : ℕ → ℕ → ℕ → GenWords
session_of clients keys seed = record { clients = clients; keys = keys; seed = seed }

-- a letter is struck
abbrev pub struck_letter : ℕ → Event
struck_letter letter = Struck (bare (Char letter))

-- `gen` and three words
abbrev pub gen_call : List ℕ → List ℕ → List ℕ → List (List ℕ)
gen_call clients keys seed = codes "gen" ∷ clients ∷ keys ∷ seed ∷ []

-- the table of examples
pub record Examples : Type 0 where
  -- one client with the seed 0 comes, strikes y and goes
  pub one_key : generated_whole (session_of 1 1 0) ≡ made_by 0 Join ∷ made_by 0 (struck_letter 121) ∷ made_by 0 Leave ∷ []
  pub no_keys : generated (session_of 2 0 7) ≡ made_by 0 Join ∷ made_by 1 Join ∷ []
  pub goings_in_order : goings 3 ≡ made_by 0 Leave ∷ made_by 1 Leave ∷ made_by 2 Leave ∷ []
  -- of eight clients with the seed 1 the one with the number 6 strikes p, and then that with the number 4 strikes x
  pub two_keys : drawn_moves 8 2 1 ≡ made_by 6 (struck_letter 112) ∷ made_by 4 (struck_letter 120) ∷ []
  -- words of `kak`
  pub gen_words : is_call (gen_call (codes "2") (codes "0") (codes "7")) ≡ true
  pub nobody : is_call (gen_call (codes "0") (codes "1") (codes "1")) ≡ false
  pub no_number : is_call (gen_call (codes "1") (codes "x") (codes "1")) ≡ false
  pub client_words : is_call (codes "-ui" ∷ codes "json" ∷ []) ≡ true
  pub no_words : is_call [] ≡ false
  -- words of `kakreplay`: each says the kind of one user interface, in their order
  pub each_kind : is_replay_call (codes "json" ∷ codes "silent" ∷ codes "screen" ∷ []) (Json ∷ Silent ∷ Screen ∷ []) ≡ true
  pub other_order : is_replay_call (codes "json" ∷ codes "silent" ∷ []) (Silent ∷ Json ∷ []) ≡ false
  -- there is one for each word, and at least one
  pub too_few : is_replay_call (codes "screen" ∷ codes "screen" ∷ []) (Screen ∷ []) ≡ false
  pub too_many : is_replay_call (codes "json" ∷ []) (Json ∷ Json ∷ []) ≡ false
  pub no_uis : is_replay_call [] [] ≡ false
  -- other words say no kind
  pub other_kind : is_replay_call (codes "Screen" ∷ []) (Screen ∷ []) ≡ false
  pub other_word : says_kind (codes "jsons") Json ≡ false
