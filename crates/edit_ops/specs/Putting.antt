-- Strings put at selections, as the replacements of an edit.
use Rattle.std.specs.Prelude.{ℕ, ◌+◌, ◌-◌, min, Bool, false, ◌||◌, if◌then◌else◌, List, [], ◌∷◌, length, slice_index_or}
use Rattle.text_model.specs.Texts.{offset, coord_at, ends_in_newline}
use Rattle.list_model.specs.Ranges.{Range, cursor}
use Rattle.undo_model.specs.Edits.{Splice}
use Rattle.edit_ops.specs.declared.kinds.Put.{Put}
use Rattle.edit_ops.specs.declared.kinds.Put.TheVariants.{Before, After, Over, BeforeCursor}
use Rattle.edit_ops.specs.Each.{each_from}

-- the n-th string; the last one beyond them, and no characters where there are no strings
abbrev pub nth_string : List (List ℕ) → ℕ → List ℕ
nth_string strings n = slice_index_or strings (min n (length strings - 1)) []

-- whether some string ends in a newline
abbrev pub some_is_line : List (List ℕ) → Bool
some_is_line [] = false
some_is_line (s ∷ ss) = ends_in_newline s || some_is_line ss

-- where the line of an offset begins
abbrev pub line_begin_of : List ℕ → ℕ → ℕ
line_begin_of text o = offset text (record { line = (coord_at text o).line; column = 0 })

-- where the line behind that of an offset begins, or the end
abbrev pub line_behind : List ℕ → ℕ → ℕ
line_behind text o = offset text (record { line = (coord_at text o).line + 1; column = 0 })

-- characters put in at an offset
abbrev pub put_in_at : ℕ → List ℕ → Splice
put_in_at at s = record { from = at; «to» = at; put = s }

-- characters put in the place of a range's
abbrev pub put_over : List ℕ → Range → Splice
put_over s r = record { from = r.low; «to» = r.high + 1; put = s }

-- characters put at a range; before it and behind it, they go to its lines where whole lines are put
abbrev pub put_at : List ℕ → Bool → Put → List ℕ → Range → Splice
put_at text whole Before s r = put_in_at (if whole then line_begin_of text r.low else r.low) s
put_at text whole After s r = put_in_at (if whole then line_behind text r.high else r.high + 1) s
put_at text whole Over s r = put_over s r
put_at text whole BeforeCursor s r = put_in_at (cursor r) s

-- the n-th string put at the n-th range of a list; where some string ends in a newline, whole lines are put
abbrev pub puts : List ℕ → Put → List (List ℕ) → List Range → List Splice
puts text how strings rs = each_from (λ n r. put_at text (some_is_line strings) how (nth_string strings n) r) 0 rs
