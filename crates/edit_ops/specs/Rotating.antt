-- Texts of selections that change places, as the replacements of an edit.
use Rattle.std.specs.Prelude.{ℕ, ◌-◌, List, [], ◌++◌, length, take, drop, slice_index_or}
use Rattle.list_model.specs.Ranges.{Range}
use Rattle.undo_model.specs.Edits.{Splice}
use Rattle.directions.specs.declared.direction.Direction.{Direction}
use Rattle.directions.specs.declared.direction.Direction.TheVariants.{Forward, Backward}
use Rattle.edit_ops.specs.Each.{each_from}
use Rattle.edit_ops.specs.Putting.{put_over}
use Rattle.edit_ops.specs.Reading.{texts_of}

-- texts of which each goes to the place behind its own, and the last one to the first; or backward
abbrev pub rotated : Direction → List (List ℕ) → List (List ℕ)
rotated Forward ts = drop (length ts - 1) ts ++ take (length ts - 1) ts
rotated Backward ts = drop 1 ts ++ take 1 ts

-- the n-th text put in the place of the n-th range of a list
abbrev pub put_over_each : List (List ℕ) → List Range → List Splice
put_over_each ts rs = each_from (λ n r. put_over (slice_index_or ts n []) r) 0 rs

-- each range of a list replaced by the text of the one before it, or behind it, round the ends
abbrev pub rotations : List ℕ → Direction → List Range → List Splice
rotations text direction rs = put_over_each (rotated direction (texts_of text rs)) rs
