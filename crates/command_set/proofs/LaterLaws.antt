-- What a row goes on with behind hooks takes no units, keeps those that have joined, and has fewer rows behind it.
use Rattle.std.proofs.Common.{◌<◌, ◌+◌, ◌*◌, ℕ, suc, Bool, true, false, List, ap, arith}
use Rattle.std.specs.Prelude.{if◌then◌else◌, codes, None, Some}
use Rattle.std.specs.declared.option.Option.{Option}
use Rattle.scope_tables.specs.declared.names.HookName.TheVariants.{BufCreate}
use Rattle.kak_world.specs.declared.ask.Ask.TheVariants.{Then, Write, Nothing}
use Rattle.kak_world.specs.declared.ask.Dropping.{Dropping}
use Rattle.kak_world.specs.declared.ask.Later.{Later}
use Rattle.kak_world.specs.declared.ask.Later.TheVariants as later
use Rattle.kak_world.specs.declared.ask.Saving.{Saving}
use Rattle.kak_world.specs.declared.command_error.CommandError.TheVariants.{NoSuchBuffer}
use Rattle.kak_world.specs.declared.events.HookEvent.{HookEvent}
use Rattle.kak_world.specs.Events.{event_of, noted}
use Rattle.kak_world.specs.Flat.{Flat, units_of, is_there}
use Rattle.kak_world.specs.Dropping.{KeepsJoined, dropped}
use Rattle.kak_world.specs.Saving.{unsaved_names, others_leave}
use Rattle.kak_world.specs.Rows.{RowEnd, Asks, does, stages_of}
use Rattle.kak_world.proofs.WorldLaws.{units_in}
use Rattle.kak_world.proofs.ShownLaws.{rest_dropped}
use Rattle.kak_world.proofs.StayingLemmas.{keeps_dropped}
use Rattle.command_set.specs.Buffers.{asks, refuses, quit_unless, quit_row, is_only, drop_noted, written_later, dropped_later, row_later}
use Rattle.command_set.specs.Laws.{IsTame}
use Rattle.command_set.proofs.PaintingLaws.{tame-same, tame-if}
use Rattle.command_set.proofs.NotingLaws.{tame_noted}

tame-quit : (who : ℕ) (flat : Flat) → IsTame flat (quit_row who flat)
tame-quit who flat = tame-if flat (others_leave who flat) _ _ (by (unsaved_names flat)) (tame-same flat _)
  where
    by : (o : Option (List ℕ)) → IsTame flat (quit_unless o flat)
    by None = tame-same flat _
    by (Some names) = tame-same flat _

tame-dropped : (n : ℕ) (flat : Flat) → IsTame flat (does (dropped n flat))
tame-dropped n flat = record { units = ap units_in (rest_dropped n flat); keeps = keeps_dropped n flat }

tame-drop : (n : ℕ) (flat : Flat) → IsTame flat (does (drop_noted n flat))
tame-drop n flat = by (is_only n flat)
  where
    event : HookEvent
    event = event_of BufCreate (codes "*scratch*") 0

    by : (t : Bool) → IsTame flat (does (if t then noted event (dropped n flat) else dropped n flat))
    by true = tame_noted event flat (dropped n flat) (Asks Nothing) (Asks Nothing) (tame-dropped n flat)
    by false = tame-dropped n flat

tame-written : (saving : Saving) (flat : Flat) → IsTame flat (written_later saving flat)
unfolding written_later
tame-written saving flat = tame-if flat (is_there saving.buffer flat.buffers) _ _ (tame-same flat _) (tame-same flat _)

tame-gone : (dropping : Dropping) (flat : Flat) → IsTame flat (dropped_later dropping flat)
unfolding dropped_later
tame-gone dropping flat = tame-if flat (is_there dropping.buffer flat.buffers) _ _ (tame-drop dropping.buffer flat) (tame-same flat _)

pub tame_later : (what : Later) (who : ℕ) (flat : Flat) → IsTame flat (row_later what who flat)
unfolding row_later
tame_later (later.Write saving) who flat = tame-written saving flat
tame_later later.Quit who flat = tame-quit who flat
tame_later (later.Drop dropping) who flat = tame-gone dropping flat

-- the rows behind one of two
fewer-of : (t : Bool) (a b : RowEnd) (n : ℕ) → stages_of a.row < n → stages_of b.row < n → stages_of (if t then a else b).row < n
fewer-of true a b n h g = h
fewer-of false a b n h g = g

suc-less : (n : ℕ) → n < suc n
suc-less n = omega arith

nothing-less : (n : ℕ) → 0 < suc n
nothing-less n = omega arith

quit-fewer : (who : ℕ) (flat : Flat) → stages_of (quit_row who flat).row < 1
quit-fewer who flat = fewer-of (others_leave who flat) _ _ 1 (by (unsaved_names flat)) (nothing-less 0)
  where
    by : (o : Option (List ℕ)) → stages_of (quit_unless o flat).row < 1
    by None = nothing-less 0
    by (Some names) = nothing-less 0

pub later_fewer : (what : Later) (who : ℕ) (flat : Flat) → stages_of (row_later what who flat).row < stages_of (Asks (Then what))
unfolding row_later written_later dropped_later
later_fewer (later.Write saving) who flat =
    fewer-of (is_there saving.buffer flat.buffers) (asks (Write saving) flat) (refuses (NoSuchBuffer saving.name) flat) (stages_of (Asks (Then (later.Write saving)))) (suc-less _) (nothing-less _)
later_fewer later.Quit who flat = quit-fewer who flat
later_fewer (later.Drop d) who flat = fewer-of (is_there d.buffer flat.buffers) _ _ 1 (nothing-less 0) (nothing-less 0)

pub later_falls : (what : Later) (who : ℕ) (flat : Flat)
    → 4 * units_of (row_later what who flat).world + stages_of (row_later what who flat).row < 4 * units_of flat + stages_of (Asks (Then what))
later_falls what who flat = omega (arith, (tame_later what who flat).units, later_fewer what who flat)

pub keeps_later : (what : Later) (who : ℕ) (flat : Flat) → KeepsJoined flat (row_later what who flat).world
keeps_later what who flat = (tame_later what who flat).keeps
