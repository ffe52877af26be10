-- What is kept of a connection from one of its lines to the next.
use Rattle.std.specs.Prelude.{ℕ, Bool, ◌+◌, ◌-◌, ◌^◌, min}
use Rattle.line_reading.specs.Reading.{Reading}

-- what its reader is seen as, its client's number, whether this was let go by its coming, and how many of its lines were played
pub record Talked : Type 0 where
  pub reading : Reading
  pub who : ℕ
  pub let_go : Bool
  pub lines : ℕ

-- a count of lines with one more; at the end of its range it stands still
abbrev pub one_line_more : ℕ → ℕ
one_line_more lines = min (lines + 1) (2 ^ 64 - 1)
