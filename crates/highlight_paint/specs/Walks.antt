-- How far the characters of a line were gone over, with the bytes of UTF-8 that were passed.
use Rattle.std.specs.Prelude.{◌≡◌, ℕ, ◌+◌, ◌-◌, ◌*◌, ◌≤◌, List, length, drop}
use Rattle.regex_ports.specs.Matching.{chars_before}
use Rattle.highlight_paint.specs.declared.walking.LineWalk.{LineWalk}

-- a walk has passed so many characters of a line, and their bytes
pub record IsLineWalk (line : List ℕ) (w : LineWalk) : Type 0 where
  pub few : w.passed ≤ length line
  pub small : w.bytes ≤ 4 * w.passed
  pub rest : (b : ℕ) → w.bytes ≤ b → chars_before line b ≡ w.passed + chars_before (drop w.passed line) (b - w.bytes)
