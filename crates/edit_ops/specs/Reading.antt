-- The texts of selections.
use Rattle.std.specs.Prelude.{ℕ, ◌+◌, List, map, slice_range}
use Rattle.list_model.specs.Ranges.{Range}

-- the characters of a range, from its first to its last
abbrev pub text_of_range : List ℕ → Range → List ℕ
text_of_range text r = slice_range text r.low (r.high + 1)

-- those of each range of a list
abbrev pub texts_of : List ℕ → List Range → List (List ℕ)
texts_of text rs = map (text_of_range text) rs
