-- The lemmas that callers use most, by topic, for `using(..)` and `grind`.
use Rattle.text_model.proofs.PlaceLemmas.{offset-below, offset-end, offset-le, offset-coord_at, coord_at-offset, coord_at-end, IsPlace-coord_at, nth_line_is_line, some_lines, offset-next_line, char-at}
use Rattle.text_model.proofs.ChangeLemmas.{IsText-inserted, length-inserted, put_in-inside, inserted-none, IsText-erased}
use Rattle.text_model.proofs.MappingLemmas.{past_insertion-before, past_insertion-behind, past_erasure-before, past_erasure-inside, past_erasure-behind, shifted-le}

-- offsets and coordinates
pub ruleset places = (offset-below, offset-end, offset-le, offset-coord_at, coord_at-offset, coord_at-end, IsPlace-coord_at, nth_line_is_line, some_lines, offset-next_line, char-at)

-- insertions and erasures
pub ruleset changes = (IsText-inserted, length-inserted, put_in-inside, inserted-none, IsText-erased)

-- where places go
pub ruleset mapping = (past_insertion-before, past_insertion-behind, past_erasure-before, past_erasure-inside, past_erasure-behind, shifted-le)
