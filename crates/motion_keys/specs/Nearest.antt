-- The offset of a text that is nearest to another and whose character passes a test.
use Rattle.std.specs.Prelude.{ℕ, ◌+◌, Bool, List, length, slice_index}
use Rattle.std.specs.declared.option.Option.{Option}
use Rattle.motion_keys.specs.Extremes.{least_between, greatest_below}

-- the least offset from an offset on at which a test passes
abbrev pub least_from : (ℕ → Bool) → List ℕ → ℕ → Option ℕ
least_from test text o = least_between (λ k. test (slice_index text k)) o (length text)

-- the greatest offset up to an offset at which a test passes
abbrev pub greatest_to : (ℕ → Bool) → List ℕ → ℕ → Option ℕ
greatest_to test text o = greatest_below (λ k. test (slice_index text k)) (o + 1)
