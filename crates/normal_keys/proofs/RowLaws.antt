-- What each change of the world leaves so, each key of normal mode leaves so.
use Rattle.std.proofs.Common.{◌≡◌, ℕ, zero, suc, ◌+◌, ◌-◌, Bool, true, false, refl, sym, subst}
use Rattle.std.specs.Prelude.{if◌then◌else◌, ◌==◌, nat_lt, None, Some}
use Rattle.std.specs.declared.option.Option.{Option}
use Rattle.key_names.specs.declared.key.Key.{Key}
use Rattle.text_model.specs.declared.TheConstants.{MAX_SELECTIONS}
use Rattle.list_model.specs.Ranges.{Selected}
use Rattle.undo_model.specs.declared.travel.Travel.TheVariants.{Node as NodeOf}
use Rattle.directions.specs.declared.direction.Direction.{Direction}
use Rattle.directions.specs.declared.direction.Direction.TheVariants.{Forward, Backward}
use Rattle.motion_keys.specs.declared.char_moves.CharSearch.{CharSearch}
use Rattle.motion_keys.specs.declared.landmarks.Place.{Place}
use Rattle.motion_keys.specs.declared.landmarks.Place.TheVariants as place
use Rattle.motion_keys.specs.declared.finding.Motion.TheVariants.{Character, To}
use Rattle.motion_keys.specs.declared.finding.Reach.{Reach}
use Rattle.list_keys.specs.Changes.{changed_list, made_count}
use Rattle.kak_world.specs.declared.ask.EditError.TheVariants.{TooManySelections}
use Rattle.kak_world.specs.Flat.{Flat, text_of, sels_of, node_number_of, units_of, with_units, pending_of}
use Rattle.kak_world.specs.Rows.{RowEnd, fails}
use Rattle.kak_world.specs.declared.own.Mode.TheVariants.{Prompt}
use Rattle.kak_world.specs.declared.own.Recording.{Recording}
use Rattle.kak_world.specs.Events.{mode_entered}
use Rattle.normal_keys.specs.declared.actions.Action.{Action}
use Rattle.normal_keys.specs.declared.actions.Action.TheVariants as action
use Rattle.normal_keys.specs.declared.actions.Repeated.{Repeated}
use Rattle.normal_keys.specs.declared.actions.Repeated.TheVariants.{Moves, TurnsMain, Travels, GoesToNode, Puts}
use Rattle.normal_keys.specs.declared.prefixes.Prefix.{Prefix}
use Rattle.text_objects.specs.declared.kinds.Object.{Object}
use Rattle.key_rows.specs.declared.each.Extent.{Extent}
use Rattle.key_rows.specs.Each.{each_moved}
use Rattle.key_rows.specs.Sequence.{then_row, after_unit}
use Rattle.key_rows.specs.Naming.{register_named}
use Rattle.key_rows.specs.Playing.{row_macro}
use Rattle.key_rows.proofs.PlayingLaws.{macro_stays}
use Rattle.key_rows.proofs.RowLaws.{HoldsIn, HoldsOfChanges, holds_behind, holds_leaving, holds_put, holds_edit, holds_entry}
use Rattle.normal_keys.specs.Recording.{macro_of, recording_of, not_recording, recording_kept, recording_ended, recording_turned}
use Rattle.normal_keys.specs.Actions.{action_of}
use Rattle.normal_keys.specs.Running.{further_runs, runs}
use Rattle.normal_keys.specs.Listing.{taken_if_any, taken_if_few}
use Rattle.normal_keys.specs.Repeating.{node_below, node_row, once}
use Rattle.normal_keys.specs.Rows.{prefix_of, client_cleared, waiting, open_prompt, go_to_line, acted, character_of, place_of, sought_character, sought_place, object_of, sought_object, filled_row, chosen_register, answered, row_pending, row_normal}

module _ (R : Flat → Flat → Type 0) (kept : HoldsOfChanges R) where
  -- a change of the world of which it holds
  abbrev Holds : (Flat → Flat) → Type 0
  Holds change = (flat : Flat) → R flat (change flat)

  holds-unit : (units : ℕ) (next : Flat → RowEnd) → HoldsIn R next → (flat : Flat) → units_of flat ≡ units → R flat (after_unit units next flat).world
  holds-unit zero next k flat e = kept.same flat
  holds-unit (suc left) next k flat e = kept.behind flat (with_units left flat) (next (with_units left flat)).world (kept.unit left flat e) (k (with_units left flat))

  holds-further : (n : ℕ) (run : Flat → RowEnd) → HoldsIn R run → HoldsIn R (further_runs n run)
  holds-further zero run k flat = kept.same flat
  holds-further (suc n) run k flat =
      holds-unit (units_of flat) (λ w. then_row (run w) (further_runs n run)) (λ w. holds_behind R kept (run w).row (further_runs n run) w (run w).world (k w) (holds-further n run k)) flat refl

  holds-runs : (count : ℕ) (run : Flat → RowEnd) → HoldsIn R run → HoldsIn R (runs count run)
  holds-runs count run k flat = holds_behind R kept (run flat).row (further_runs (count - 1) run) flat (run flat).world (k flat) (holds-further (count - 1) run k)

  holds-below : (n who : ℕ) → HoldsIn R (node_below n who)
  holds-below zero who flat = kept.same flat
  holds-below (suc n) who flat = kept.travels (NodeOf n) who flat

  holds-node : (direction : Direction) (who : ℕ) → HoldsIn R (node_row direction who)
  holds-node Backward who flat = holds-below (node_number_of who flat) who flat
  holds-node Forward who flat = kept.travels (NodeOf (node_number_of who flat + 1)) who flat

  pub holds-once : (what : Repeated) (register : Option ℕ) (who : ℕ) → HoldsIn R (once what register who)
  holds-once (Moves motion reach) register who flat = kept.sels who _ flat
  holds-once (TurnsMain direction) register who flat = kept.sels who _ flat
  holds-once (Travels travel) register who flat = kept.travels travel who flat
  holds-once (GoesToNode direction) register who flat = holds-node direction who flat
  holds-once (Puts how) register who flat = holds_put R kept how register who flat

  holds-chosen : (t : Bool) (flat : Flat) (a b : RowEnd) → R flat a.world → R flat b.world → R flat (if t then a else b).world
  holds-chosen true flat a b f g = f
  holds-chosen false flat a b f g = g

  holds-choice : (t : Bool) (flat a b : Flat) → R flat a → R flat b → R flat (if t then a else b)
  holds-choice true flat a b f g = f
  holds-choice false flat a b f g = g

  holds-any : (found : Option Selected) (who : ℕ) → HoldsIn R (taken_if_any found who)
  holds-any None who flat = kept.same flat
  holds-any (Some sels) who flat = kept.sels who sels flat

  holds-taken : (count : ℕ) (found : Option Selected) (who : ℕ) → HoldsIn R (taken_if_few count found who)
  holds-taken count found who flat = holds-chosen (nat_lt MAX_SELECTIONS count) flat (fails TooManySelections flat) (taken_if_any found who flat) (kept.same flat) (holds-any found who flat)

  holds-line : (key : Key) (reach : Reach) (count who : ℕ) → Holds (go_to_line key reach count who)
  holds-line key reach count who flat =
      holds-choice (count == 0) flat (waiting key 0 who flat) (each_moved (To (place.Line (count - 1))) reach who flat) (kept.own who _ flat) (kept.sels who _ flat)

  -- a row that leaves the world
  holds-same : (flat : Flat) (end : RowEnd) → end.world ≡ flat → R flat end.world
  holds-same flat end e = subst (λ (w : Flat). R flat w) (sym e) (kept.same flat)

  holds-kept : (o : Option Recording) → HoldsIn R (recording_kept o)
  holds-kept None flat = kept.same flat
  holds-kept (Some r) flat = kept.registers _ _ flat

  holds-ended : (o : Option Recording) (who : ℕ) → HoldsIn R (recording_ended o who)
  holds-ended o who flat = kept.behind flat (not_recording who flat) (recording_ended o who flat).world (kept.own who _ flat) (holds-kept o (not_recording who flat))

  holds-turned : (o : Option Recording) (register : Option ℕ) (who : ℕ) → HoldsIn R (recording_turned o register who)
  holds-turned None register who flat = kept.own who _ flat
  holds-turned (Some r) register who flat = holds-ended (Some r) who flat

  holds-acted : (key : Key) (a : Action) (prefix : Prefix) (who : ℕ) → HoldsIn R (acted key a prefix who)
  holds-acted key action.Nothing prefix who flat = kept.same flat
  holds-acted key (action.Digit digit) prefix who flat = kept.own who _ flat
  holds-acted key action.ChoosesRegister prefix who flat = kept.own who _ flat
  holds-acted key (action.Repeats what) prefix who flat = holds-runs prefix.count (once what prefix.register who) (holds-once what prefix.register who) flat
  holds-acted key (action.MovesOnce motion reach) prefix who flat = kept.sels who _ flat
  holds-acted key (action.Seeks search reach) prefix who flat = kept.own who _ flat
  holds-acted key (action.Goes reach) prefix who flat = holds-line key reach prefix.count who flat
  holds-acted key (action.Shapes shape) prefix who flat = kept.sels who _ flat
  holds-acted key (action.Lists change) prefix who flat = holds-taken (made_count change (text_of who flat) (sels_of who flat)) (changed_list change (text_of who flat) (sels_of who flat)) who flat
  holds-acted key (action.Edits edit) prefix who flat = holds_edit R kept edit prefix.register who flat
  holds-acted key (action.SelectsObject extent) prefix who flat = kept.own who _ flat
  holds-acted key action.Fills prefix who flat = kept.own who _ flat
  holds-acted key (action.Inserts entry) prefix who flat = holds_entry R kept entry prefix.register who flat
  holds-acted key (action.Prompts purpose) prefix who flat = kept.behind flat (mode_entered Prompt who flat) (open_prompt purpose who flat) (kept.notes _ flat) (kept.own who _ (mode_entered Prompt who flat))
  holds-acted key (action.StepsToMatch direction) prefix who flat = kept.same flat
  holds-acted key (action.AddsMatch direction) prefix who flat = kept.same flat
  holds-acted key (action.Remembers bounds) prefix who flat = kept.registers _ _ flat
  holds-acted key action.Records prefix who flat = holds-turned (recording_of who flat) prefix.register who flat
  holds-acted key action.EndsRecording prefix who flat = holds-ended (recording_of who flat) who flat
  holds-acted key action.Plays prefix who flat = holds-same flat (row_macro (macro_of prefix) who flat) (macro_stays (macro_of prefix) who flat)

  holds-character : (search : CharSearch) (reach : Reach) (count who : ℕ) (c : Option ℕ) → HoldsIn R (sought_character search reach count who c)
  holds-character search reach count who None flat = kept.same flat
  holds-character search reach count who (Some c) flat = holds-runs count (once (Moves (Character search c) reach) None who) (holds-once (Moves (Character search c) reach) None who) flat

  holds-place : (reach : Reach) (who : ℕ) (p : Option Place) → HoldsIn R (sought_place reach who p)
  holds-place reach who None flat = kept.same flat
  holds-place reach who (Some p) flat = kept.sels who _ flat

  holds-object : (extent : Extent) (who : ℕ) (o : Option Object) → HoldsIn R (sought_object extent who o)
  holds-object extent who None flat = kept.same flat
  holds-object extent who (Some o) flat = kept.sels who _ flat

  holds-filled : (who : ℕ) (c : Option ℕ) → HoldsIn R (filled_row who c)
  holds-filled who None flat = kept.same flat
  holds-filled who (Some c) flat = holds_leaving R kept _ who flat

  holds-chosen-register : (count who : ℕ) (name : Option ℕ) → HoldsIn R (chosen_register count who name)
  holds-chosen-register count who None flat = kept.same flat
  holds-chosen-register count who (Some c) flat = kept.own who _ flat

  holds-answered : (a : Action) (key : Key) (count who : ℕ) → HoldsIn R (answered a key count who)
  holds-answered (action.Seeks search reach) key count who flat = holds-character search reach count who (character_of key) flat
  holds-answered (action.Goes reach) key count who flat = holds-place reach who (place_of key) flat
  holds-answered (action.SelectsObject extent) key count who flat = holds-object extent who (object_of key) flat
  holds-answered action.Fills key count who flat = holds-filled who (character_of key) flat
  holds-answered action.ChoosesRegister key count who flat = holds-chosen-register count who (register_named key) flat
  holds-answered _ key count who flat = kept.same flat

  holds-pending : (waits : Option Key) (key : Key) (prefix : Prefix) (who : ℕ) → HoldsIn R (row_pending waits key prefix who)
  holds-pending None key prefix who flat = holds-acted key (action_of key) prefix who flat
  holds-pending (Some first) key prefix who flat = holds-answered (action_of first) key prefix.count who flat

  pub holds_normal : (key : Key) (who : ℕ) (flat : Flat) → R flat (row_normal key who flat).world
  unfolding row_normal
  holds_normal key who flat =
      kept.behind flat (client_cleared who flat) (row_normal key who flat).world (kept.own who _ flat)
      (holds-pending (pending_of who flat) key (prefix_of who flat) who (client_cleared who flat))
