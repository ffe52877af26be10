-- Selections filled with one character, as the replacements of an edit.
use Rattle.std.specs.Prelude.{ℕ, ◌+◌, ◌-◌, List, replicate}
use Rattle.list_model.specs.Ranges.{Range}
use Rattle.undo_model.specs.Edits.{Splice}
use Rattle.edit_ops.specs.Each.{each_from}
use Rattle.edit_ops.specs.Putting.{put_over}

-- a character put in the place of each character of a range
abbrev pub filling_at : ℕ → Range → Splice
filling_at c r = put_over (replicate (r.high + 1 - r.low) c) r

-- in the place of each character of the ranges of a list
abbrev pub fillings : ℕ → List Range → List Splice
fillings c rs = each_from (λ n r. filling_at c r) 0 rs
