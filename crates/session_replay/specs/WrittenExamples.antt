-- Lines, and what they are in a replay.
use Rattle.std.specs.Prelude.{◌≡◌, [], ◌∷◌, codes}
use Rattle.session_replay.specs.Written.{Blank, Of, Bad, written, lines_for}

-- the table of examples
pub record WrittenExamples : Type 0 where
  pub plain : written 2 (codes "0 {}") ≡ Of 0 (codes "{}")
  pub zeros : written 2 (codes "00 {}") ≡ Of 0 (codes "{}")
  pub four_digits : written 2 (codes "0001 {}") ≡ Of 1 (codes "{}")
  pub five_digits : written 2 (codes "00001 {}") ≡ Bad
  pub highest_number : written 10000 (codes "9999 x") ≡ Of 9999 (codes "x")
  pub too_many_digits : written 20000 (codes "12345 x") ≡ Bad
  -- the first space ends the number, and what is behind it is the client's
  pub spaces : written 2 (codes "1  a b ") ≡ Of 1 (codes " a b ")
  pub nothing_behind : written 2 (codes "0 ") ≡ Of 0 []
  pub return_behind : written 2 (codes "0 {}\r") ≡ Of 0 (codes "{}\r")
  -- no number, or none that a space ends
  pub no_space : written 8 (codes "7{}") ≡ Bad
  pub number_alone : written 8 (codes "7") ≡ Bad
  pub tab : written 2 (codes "0\t{}") ≡ Bad
  pub space_before : written 2 (codes " 0 {}") ≡ Bad
  pub sign : written 2 (codes "-1 x") ≡ Bad
  pub letter : written 2 (codes "x {}") ≡ Bad
  -- no client has the number
  pub last_client : written 64 (codes "63 x") ≡ Of 63 (codes "x")
  pub behind_the_last : written 64 (codes "64 x") ≡ Bad
  pub no_client : written 0 (codes "0 x") ≡ Bad
  -- blank lines
  pub no_byte : written 2 [] ≡ Blank
  pub blanks : written 2 (codes " \t\r ") ≡ Blank
  pub newline : written 2 (10 ∷ []) ≡ Bad
  -- what each of two clients sends
  pub first_client : lines_for 2 0 (codes "0 a" ∷ codes "1 b" ∷ codes "" ∷ codes "2 c" ∷ codes "00 " ∷ []) ≡ codes "a" ∷ [] ∷ []
  pub second_client : lines_for 2 1 (codes "0 a" ∷ codes "1 b" ∷ codes "" ∷ codes "2 c" ∷ codes "00 " ∷ []) ≡ codes "b" ∷ []
