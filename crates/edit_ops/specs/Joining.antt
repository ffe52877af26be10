-- Lines joined to the next ones, as the replacements of an edit.
use Rattle.std.specs.Prelude.{ℕ, ◌+◌, ◌-◌, List, [], ◌∷◌, map}
use Rattle.text_model.specs.Texts.{nth_line}
use Rattle.list_model.specs.Ranges.{Range}
use Rattle.undo_model.specs.Edits.{Splice}
use Rattle.edit_ops.specs.declared.spans.LineReach.TheVariants.{Joined}
use Rattle.edit_ops.specs.Spans.{line_start, lines_reached}
use Rattle.edit_ops.specs.Blanks.{blanks}

-- the newline of a line and the blanks that the next one begins with, replaced by a space (32)
abbrev pub join_at : List ℕ → ℕ → Splice
join_at text n = record { from = line_start text (n + 1) - 1; «to» = line_start text (n + 1) + blanks (nth_line text (n + 1)); put = 32 ∷ [] }

-- each line that the ranges of a list join to the next one
abbrev pub joins : List ℕ → List Range → List Splice
joins text rs = map (join_at text) (lines_reached text Joined rs)
