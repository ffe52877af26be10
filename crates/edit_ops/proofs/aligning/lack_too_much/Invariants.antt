use Rattle.std.proofs.Common.{◌≡◌, ◌+◌, map, drop}
use Rattle.text_model.specs.declared.TheConstants.{MAX_CHARS}
use Rattle.selection_set.specs.Listing.{ranges_of}
use Rattle.edit_ops.specs.Aligning.{cursor_column, lacking}
use Rattle.edit_ops.proofs.aligning.lack_too_much.Given as goal

-- what is left of the room
abbrev pub invariant-loop-sel : goal.invariant-loop-sel
invariant-loop-sel l =
    lacking l.last (map (cursor_column l.lines l.tabstop.columns) (ranges_of l.lines l.sels)) + l.room ≡ MAX_CHARS + lacking l.last (map (cursor_column l.lines l.tabstop.columns) (ranges_of l.lines (drop l.sel-index l.sels)))
