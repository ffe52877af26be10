-- Erasing at selections, as the replacements of an edit.
use Rattle.std.specs.Prelude.{ℕ, ◌+◌, ◌-◌, List, []}
use Rattle.list_model.specs.Ranges.{Range, cursor}
use Rattle.undo_model.specs.Edits.{Splice}
use Rattle.edit_ops.specs.declared.kinds.Erase.{Erase}
use Rattle.edit_ops.specs.declared.kinds.Erase.TheVariants.{Selection, BeforeCursor, AtCursor}
use Rattle.edit_ops.specs.Each.{each_from}

-- the characters from an offset to before another taken out
abbrev pub taken_out : ℕ → ℕ → Splice
taken_out from to = record { from = from; «to» = to; put = [] }

-- what is erased at a range: its characters, the one before its cursor where there is one, or the one at its cursor
abbrev pub erasure_at : Erase → Range → Splice
erasure_at Selection r = taken_out r.low (r.high + 1)
erasure_at BeforeCursor r = taken_out (cursor r - 1) (cursor r)
erasure_at AtCursor r = taken_out (cursor r) (cursor r + 1)

-- what is erased at the ranges of a list
abbrev pub erasures : Erase → List Range → List Splice
erasures what rs = each_from (λ n r. erasure_at what r) 0 rs
