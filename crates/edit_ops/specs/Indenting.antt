-- Blanks that lines get or lose at their start, as the replacements of an edit.
use Rattle.std.specs.Prelude.{ℕ, ◌+◌, Bool, ◌==◌, nat_lt, if◌then◌else◌, List, [], ◌∷◌, length, map, replicate}
use Rattle.std.specs.List.{filter}
use Rattle.text_model.specs.Texts.{nth_line}
use Rattle.list_model.specs.Ranges.{Range}
use Rattle.undo_model.specs.Edits.{Splice}
use Rattle.edit_ops.specs.declared.kinds.Indent.{Indent}
use Rattle.edit_ops.specs.declared.kinds.Indent.TheVariants.{More, Less}
use Rattle.edit_ops.specs.declared.spans.LineReach.TheVariants.{Touched}
use Rattle.edit_ops.specs.Spans.{line_start, lines_reached}
use Rattle.edit_ops.specs.Blanks.{blanks_within}

-- what a line gets: so many spaces (32), or one tab (9) where that is none
abbrev pub indentation : ℕ → List ℕ
indentation width = if width == 0 then 9 ∷ [] else replicate width 32

-- how many columns a line loses at most: that width, or those of a tab where it is none
abbrev pub most_columns : ℕ → ℕ → ℕ
most_columns width tabstop = if width == 0 then tabstop else width

-- what happens at the start of a line
abbrev pub indent_at : List ℕ → Indent → ℕ → ℕ → ℕ → Splice
indent_at text More width tabstop n = record { from = line_start text n; «to» = line_start text n; put = indentation width }
indent_at text Less width tabstop n = record { from = line_start text n; «to» = line_start text n + blanks_within tabstop (most_columns width tabstop) 0 (nth_line text n); put = [] }

-- whether a line has more than its newline
abbrev pub has_more : List ℕ → ℕ → Bool
has_more text n = nat_lt 1 (length (nth_line text n))

-- each line that the ranges of a list touch and that isn't empty
abbrev pub indents : List ℕ → Indent → ℕ → ℕ → List Range → List Splice
indents text how width tabstop rs = map (indent_at text how width tabstop) (filter (has_more text) (lines_reached text Touched rs))
