-- Worked examples of lines that are edited, which hold by computation.
use Rattle.std.specs.Prelude.{◌≡◌, List, ℕ, codes, []}
use Rattle.edit_line.specs.Halves.{Halves, whole, empty}
use Rattle.edit_line.specs.Edits.{put_before_cursor, erased_before, erased_at, gone_left, gone_right, gone_home, gone_to_end}

-- a line with its cursor on the first character of the second part
abbrev pub line : List ℕ → List ℕ → Halves
line before behind = record { before = before; behind = behind }

pub record WorkedExamples : Type 0 where
  pub goes_in_at_the_cursor : put_before_cursor (codes "x") (line (codes "ab") (codes "cd")) ≡ line (codes "abx") (codes "cd")
  pub erases_before_it : erased_before (line (codes "ab") (codes "cd")) ≡ line (codes "a") (codes "cd")
  pub nothing_before_the_first : erased_before (line [] (codes "cd")) ≡ line [] (codes "cd")
  pub erases_at_it : erased_at (line (codes "ab") (codes "cd")) ≡ line (codes "ab") (codes "d")
  pub nothing_behind_the_last : erased_at (line (codes "ab") []) ≡ line (codes "ab") []
  pub goes_back : gone_left (line (codes "ab") (codes "cd")) ≡ line (codes "a") (codes "bcd")
  pub stays_at_the_first : gone_left (line [] (codes "cd")) ≡ line [] (codes "cd")
  pub goes_on : gone_right (line (codes "ab") (codes "cd")) ≡ line (codes "abc") (codes "d")
  pub stays_behind_the_last : gone_right (line (codes "ab") []) ≡ line (codes "ab") []
  pub goes_home : gone_home (line (codes "ab") (codes "cd")) ≡ line [] (codes "abcd")
  pub goes_to_the_end : gone_to_end (line (codes "ab") (codes "cd")) ≡ line (codes "abcd") []
  pub nothing_is_lost : whole (gone_left (gone_right (line (codes "ab") (codes "cd")))) ≡ codes "abcd"
