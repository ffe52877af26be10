-- What the lines of a buffer keep.
use Rattle.std.specs.Prelude.{◌≡◌, ℕ, List, length}
use Rattle.text_model.specs.Texts.{IsStored, lines_of, joined}

-- lines and a count of characters: the lines are those of a text within the limit, and the count is its length
pub record IsBuffer (lines : List (List ℕ)) (count : ℕ) : Type 0 where
  pub stored : IsStored (joined lines)
  pub same : lines_of (joined lines) ≡ lines
  pub counted : count ≡ length (joined lines)
