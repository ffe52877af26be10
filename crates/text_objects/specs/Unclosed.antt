-- The bracket that opens the innermost pair around an offset, where there is such a pair.
use Rattle.std.specs.Prelude.{ℕ, ◌+◌, ◌==◌, Bool, if◌then◌else◌, List, slice_range, count_by, Some}
use Rattle.std.specs.declared.option.Option.{Option}
use Rattle.motion_keys.specs.Extremes.{greatest_below}
use Rattle.motion_keys.specs.Jumps.{holds}

-- whether from an offset on, and before another one, one bracket more opens than closes
abbrev pub opens_one_more : ℕ → ℕ → List ℕ → ℕ → ℕ → Bool
opens_one_more opening closing text end a = count_by (λ c. c == opening) (slice_range text a end) == count_by (λ c. c == closing) (slice_range text a end) + 1

-- the bracket that opens at an offset; where none does, the last before it that isn't closed before it
abbrev pub unclosed : ℕ → ℕ → List ℕ → ℕ → Option ℕ
unclosed opening closing text o = if holds text opening o then Some o else greatest_below (opens_one_more opening closing text o) o
