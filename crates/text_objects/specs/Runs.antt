-- Runs: numbers, one behind the other, that all pass a test, such as the offsets of a word's characters.
use Rattle.std.specs.Prelude.{ℕ, ◌+◌, ◌-◌, Bool, not, if◌then◌else◌, List, length, slice_index, None, Some, unwrap_or}
use Rattle.std.specs.declared.option.Option.{Option}
use Rattle.motion_keys.specs.Extremes.{least_between, greatest_below}
use Rattle.motion_keys.specs.Words.{Ends, ends}

-- the number behind the one that was found, or 0 where none was
abbrev pub behind_found : Option ℕ → ℕ
behind_found None = 0
behind_found (Some n) = n + 1

-- where the numbers begin that pass a test, one behind the other, up to before a number
abbrev pub run_begin : (ℕ → Bool) → ℕ → ℕ
run_begin test n = behind_found (greatest_below (λ k. not (test k)) n)

-- behind the numbers that pass a test, one behind the other, from a number on and below a limit
abbrev pub run_end : (ℕ → Bool) → ℕ → ℕ → ℕ
run_end test n limit = unwrap_or (least_between (λ k. not (test k)) n limit) limit

-- whether the character at an offset passes a test
abbrev pub char_passes : (ℕ → Bool) → List ℕ → ℕ → Bool
char_passes test text o = test (slice_index text o)

-- where the characters that pass a test begin, up to before an offset
abbrev pub chars_begin : (ℕ → Bool) → List ℕ → ℕ → ℕ
chars_begin test text o = run_begin (char_passes test text) o

-- behind the characters that pass a test, from an offset on
abbrev pub chars_end : (ℕ → Bool) → List ℕ → ℕ → ℕ
chars_end test text o = run_end (char_passes test text) o (length text)

-- the run of characters that pass a test and that holds an offset, by its first and its last one
abbrev pub char_run : (ℕ → Bool) → List ℕ → ℕ → Option Ends
char_run test text o = if test (slice_index text o) then Some (ends (chars_begin test text o) (chars_end test text (o + 1) - 1)) else None
