-- What can be done as often as a count says.
use Rattle.std.specs.Prelude.{ℕ, zero, suc, ◌+◌, Bool, true, false}
use Rattle.std.specs.declared.option.Option.{Option}
use Rattle.undo_model.specs.declared.travel.Travel.TheVariants.{Node}
use Rattle.directions.specs.declared.direction.Direction.{Direction}
use Rattle.directions.specs.declared.direction.Direction.TheVariants.{Forward, Backward}
use Rattle.kak_world.specs.declared.ask.EditError.TheVariants.{NoSuchNode}
use Rattle.kak_world.specs.Flat.{Flat, node_number_of}
use Rattle.kak_world.specs.Rows.{RowEnd, does, fails}
use Rattle.kak_world.specs.Editing.{travel_row}
use Rattle.normal_keys.specs.declared.actions.Repeated.{Repeated}
use Rattle.normal_keys.specs.declared.actions.Repeated.TheVariants.{Moves, TurnsMain, Travels, GoesToNode, Puts}
use Rattle.key_rows.specs.Each.{each_moved}
use Rattle.key_rows.specs.Edits.{put_row}
use Rattle.normal_keys.specs.Listing.{main_moved}

-- the node below that of a number
abbrev pub node_below : ℕ → ℕ → Flat → RowEnd
node_below zero who flat = fails NoSuchNode flat
node_below (suc n) who flat = travel_row (Node n) who flat

-- the node of the undo tree with the next lower or the next higher number
abbrev pub node_row : Direction → ℕ → Flat → RowEnd
node_row Backward who flat = node_below (node_number_of who flat) who flat
node_row Forward who flat = travel_row (Node (node_number_of who flat + 1)) who flat

-- one run, with the register that was chosen, if one was
abbrev pub once : Repeated → Option ℕ → ℕ → Flat → RowEnd
once (Moves motion reach) register who flat = does (each_moved motion reach who flat)
once (TurnsMain direction) register who flat = does (main_moved direction who flat)
once (Travels travel) register who flat = travel_row travel who flat
once (GoesToNode direction) register who flat = node_row direction who flat
once (Puts how) register who flat = put_row how register who flat

-- whether it can change the text, or add selections to a list
abbrev pub repeated_grows : Repeated → Bool
repeated_grows (Moves motion reach) = false
repeated_grows (TurnsMain direction) = false
repeated_grows _ = true
