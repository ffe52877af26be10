-- Worked examples of the keys that select objects, which hold by computation.
use Rattle.std.specs.Prelude.{◌≡◌, ℕ, [], ◌∷◌, ◌++◌, codes}
use Rattle.list_model.specs.Ranges.{only}
use Rattle.normal_keys.specs.Examples.{alt, keys, list_after, all_after, one, listed, straight_range}

-- an object by itself (`i` is 105), and with what belongs to it (`a` is 97)
pub record ObjectExamples : Type 0 where
  pub between_brackets : list_after (keys (codes "lll") ++ alt 105 ∷ keys (codes "b")) (codes "f(a, b)\n") (only 0) ≡ one (straight_range 2 5)
  pub and_with_them : list_after (keys (codes "lll") ++ alt 105 ∷ keys (codes "b") ++ alt 97 ∷ keys (codes "b")) (codes "f(a, b)\n") (only 0) ≡ one (straight_range 1 6)
  pub a_bracket_holds_its_pair : list_after (alt 105 ∷ keys (codes "b")) (codes "(ab)\n") (only 0) ≡ one (straight_range 1 2)
  pub sentence : list_after (keys (codes "lll") ++ alt 105 ∷ keys (codes "s")) (codes "ab. cd\n") (only 0) ≡ one (straight_range 0 2)
  pub blanks_and_newlines : list_after (keys (codes "ll") ++ alt 97 ∷ keys (codes " ")) (codes "a \n b\n") (only 0) ≡ one (straight_range 1 3)
  pub word_with_marks : list_after (alt 105 ∷ alt 119 ∷ []) (codes "a.b c\n") (only 0) ≡ one (straight_range 0 2)
  pub word_without : list_after (alt 105 ∷ keys (codes "w")) (codes "a.b c\n") (only 0) ≡ one (only 0)
  pub quotes : list_after (alt 97 ∷ keys (codes "q")) (codes "x 'y' z\n") (only 3) ≡ one (straight_range 2 4)
  -- each selection has its own, or stays
  pub each_its_own : all_after (alt 105 ∷ keys (codes "n")) (codes "12 a 34\n") (listed (only 0 ∷ only 3 ∷ only 6 ∷ []) 2) ≡ listed (straight_range 0 1 ∷ only 3 ∷ straight_range 5 6 ∷ []) 2
  -- a key that names none does nothing, and is used up; so is the count
  pub no_name : list_after (alt 105 ∷ keys (codes "xl")) (codes "abcd\n") (only 0) ≡ one (only 1)
  pub no_count : list_after (keys (codes "3") ++ alt 105 ∷ keys (codes "wl")) (codes "abcd ef\n") (only 0) ≡ one (only 4)
