-- Lines opened at selections, as the replacements of an edit.
use Rattle.std.specs.Prelude.{ℕ, List, [], ◌∷◌}
use Rattle.list_model.specs.Ranges.{Range}
use Rattle.undo_model.specs.Edits.{Splice}
use Rattle.directions.specs.declared.direction.Direction.{Direction}
use Rattle.directions.specs.declared.direction.Direction.TheVariants.{Forward, Backward}
use Rattle.edit_ops.specs.Each.{each_from}
use Rattle.edit_ops.specs.Putting.{line_begin_of, line_behind, put_in_at}

-- where a line is opened at a range: behind the line of its last character, or, backward, at the begin of that of its
-- first one
abbrev pub opened_from : List ℕ → Direction → Range → ℕ
opened_from text Forward r = line_behind text r.high
opened_from text Backward r = line_begin_of text r.low

-- a newline (10) put in there, for each range of a list
abbrev pub opens : List ℕ → Direction → List Range → List Splice
opens text direction rs = each_from (λ n r. put_in_at (opened_from text direction r) (10 ∷ [])) 0 rs
