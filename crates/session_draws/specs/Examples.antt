-- Worked examples of draws, strikes and summaries.
use Rattle.std.specs.Prelude.{◌≡◌, ℕ, [], ◌∷◌, ◌++◌, Ok, map, codes}
use Rattle.key_names.specs.declared.key.Base.TheVariants.{Char}
use Rattle.key_names.specs.Reading.{read_text, bare}
use Rattle.session_draws.specs.declared.draws.Strike.{Strike}
use Rattle.session_draws.specs.Draws.{state_after, drawn, drawn_bases, key_numbered, strikes}
use Rattle.session_draws.specs.Summary.{head_text, sels_line}

-- a letter that a client strikes
abbrev pub letter_of : ℕ → ℕ → Strike
letter_of who letter = record { who = who; key = bare (Char letter) }

-- the table of examples
pub record Examples : Type 0 where
  -- the draws from the seed 0 are 167951807 and 218396424
  pub first_state : state_after 0 ≡ 1442695040888963407
  pub first_number : drawn 0 ≡ 167951807
  pub second_state : state_after 1442695040888963407 ≡ 1876011003808476466
  pub second_number : drawn 1442695040888963407 ≡ 218396424
  -- and the first from the greatest seed
  pub greatest_seed : drawn 18446744073709551615 ≡ 1574552488
  -- the keys
  pub keys : read_text (codes "hljkwbxdypia<esc><ret>uo") ≡ Ok (map bare drawn_bases)
  pub first_key : key_numbered 0 ≡ bare (Char 104)
  pub last_key : key_numbered 15 ≡ bare (Char 111)
  -- strikes: one client with the seed 0 strikes y, and eight with the seed 1 strike p, x, k, x, i and j
  pub no_strikes : strikes 2 0 7 ≡ []
  pub one_strike : strikes 1 1 0 ≡ letter_of 0 121 ∷ []
  pub some_strikes : strikes 8 6 1 ≡ letter_of 6 112 ∷ letter_of 4 120 ∷ letter_of 2 107 ∷ letter_of 2 120 ∷ letter_of 1 105 ∷ letter_of 3 106 ∷ []
  -- the summary of a session of two clients that struck no key
  pub head : head_text 2 1 1 ≡ codes "entries 2\nchars 1\nlines 1\n"
  pub sels : sels_line 0 1 ++ sels_line 63 262144 ≡ codes "client0 sels 1\nclient63 sels 262144\n"
