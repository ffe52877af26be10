-- What a use of a pattern leaves.
use Rattle.std.proofs.Common.{◌≡◌, ◌<◌, ◌+◌, ◌*◌, ℕ, zero, suc, Bool, true, false, List, [], ◌∷◌, refl, ap, arith}
use Rattle.std.specs.Prelude.{if◌then◌else◌, Some, None}
use Rattle.std.specs.declared.option.Option.{Option}
use Rattle.list_model.specs.Ranges.{Range, Selected}
use Rattle.kak_world.specs.declared.ask.EditError.TheVariants.{TooManySelections}
use Rattle.kak_world.specs.declared.purpose.Use.{Use}
use Rattle.kak_world.specs.declared.purpose.Use.TheVariants.{Select, Split, Keep, Drop, Search, Reach, Step, Add}
use Rattle.kak_world.specs.declared.purpose.Wanted.{Wanted}
use Rattle.kak_world.specs.declared.purpose.Wanted.TheVariants.{Selects, Paints, Hooks}
use Rattle.kak_world.specs.Flat.{Flat, units_of, with_sels}
use Rattle.kak_world.specs.Keeping.{KeepsClients}
use Rattle.kak_world.specs.Rows.{RowEnd, Fails, does, fails, stages_of}
use Rattle.kak_world.proofs.KeepingLaws.{keeps_same, keeps_sels, keeps_units}
use Rattle.kak_world.proofs.WorldLaws.{units_in, rest_sels, units_units}
use Rattle.key_rows.specs.Sequence.{then_row, after_unit}
use Rattle.key_rows.specs.Patterns.{asks_for_last}
use Rattle.key_rows.proofs.KeepingLaws.{KeepsIn, keeps_behind}
use Rattle.command_set.specs.Finishing.{unless_none, list_used, next_use, further_asked, made_row, row_finish}
use Rattle.command_set.proofs.PaintingLaws.{IsLast, last-painted, last-hooked}

-- A row that may take a list for a client, and asks for nothing.
data Lists (who : ℕ) (flat : Flat) : RowEnd → Type 0 where
  Takes : (sels : Selected) → Lists who flat (does (with_sels who sels flat))
  Refuses : (text : List ℕ) → Lists who flat (record { world = flat; row = Fails text })

lists-unless : (who : ℕ) (flat : Flat) (rs : List Range) (row : RowEnd) → Lists who flat row → Lists who flat (unless_none rs row flat)
lists-unless who flat [] row l = Refuses _
lists-unless who flat (r ∷ rs) row l = l

lists-within : (who : ℕ) (flat : Flat) (t : Bool) (sels : Selected) → Lists who flat (if t then fails TooManySelections flat else does (with_sels who sels flat))
lists-within who flat true sels = Refuses _
lists-within who flat false sels = Takes sels

lists-used : (wanted : Use) (source : List ℕ) (who : ℕ) (flat : Flat) → Lists who flat (list_used wanted source who flat)
lists-used Select source who flat = lists-unless who flat _ _ (lists-within who flat _ _)
lists-used Split source who flat = lists-unless who flat _ _ (lists-within who flat _ _)
lists-used Keep source who flat = lists-unless who flat _ _ (Takes _)
lists-used Drop source who flat = lists-unless who flat _ _ (Takes _)
lists-used (Search direction) source who flat = lists-unless who flat _ _ (Takes _)
lists-used (Reach direction) source who flat = lists-unless who flat _ _ (Takes _)
lists-used (Step direction further) source who flat = lists-unless who flat _ _ (Takes _)
lists-used (Add direction further) source who flat = lists-unless who flat _ _ (lists-within who flat _ _)

-- what may come behind a row
abbrev weight : RowEnd → ℕ
weight end = 4 * units_of end.world + stages_of end.row

-- a further use takes a unit
asked-falls : (next : Option Use) (units : ℕ) (flat : Flat) → units_of flat ≡ units → weight (further_asked next flat) < 4 * units + 1
asked-falls None units flat e = omega (arith, e)
asked-falls (Some next) units flat e = by (units_of flat) refl
  where
    by : (n : ℕ) → units_of flat ≡ n → weight (after_unit n (asks_for_last next) flat) < 4 * units + 1
    by zero h = omega (arith, e)
    by (suc n) h = omega (arith, e, h, units_units n flat)

falls-behind : (who : ℕ) (flat : Flat) (row : RowEnd) (next : Option Use) → Lists who flat row → weight (then_row row (further_asked next)) < 4 * units_of flat + 1
falls-behind who flat row next (Takes sels) = asked-falls next (units_of flat) (with_sels who sels flat) (ap units_in (rest_sels who sels flat))
falls-behind who flat row next (Refuses text) = omega arith

falls-last : (flat : Flat) (row : RowEnd) → IsLast flat row → weight row < 4 * units_of flat + 1
falls-last flat row h = omega (arith, h.units, h.ends)

falls-made : (wanted : Wanted) (source : List ℕ) (who : ℕ) (flat : Flat) → weight (made_row wanted source who flat) < 4 * units_of flat + 1
falls-made (Selects what) source who flat = falls-behind who flat (list_used what source who flat) (next_use what) (lists-used what source who flat)
falls-made (Paints new) source who flat = falls-last flat _ (last-painted new source flat)
falls-made (Hooks new) source who flat = falls-last flat _ (last-hooked new source flat)

pub finish_falls : (wanted : Wanted) (made : Option (List ℕ)) (who : ℕ) (flat : Flat)
    → 4 * units_of (row_finish wanted made who flat).world + stages_of (row_finish wanted made who flat).row < 4 * units_of flat + 1
unfolding row_finish
finish_falls wanted None who flat = omega arith
finish_falls wanted (Some source) who flat = falls-made wanted source who flat

-- and no client comes or goes
keeps-asked : (next : Option Use) → KeepsIn (further_asked next)
keeps-asked None flat = keeps_same flat
keeps-asked (Some next) flat = by (units_of flat)
  where
    by : (n : ℕ) → KeepsClients flat (after_unit n (asks_for_last next) flat).world
    by zero = keeps_same flat
    by (suc n) = keeps_units n flat

keeps-lists : (who : ℕ) (flat : Flat) (row : RowEnd) → Lists who flat row → KeepsClients flat row.world
keeps-lists who flat row (Takes sels) = keeps_sels who sels flat
keeps-lists who flat row (Refuses text) = keeps_same flat

keeps-made : (wanted : Wanted) (source : List ℕ) (who : ℕ) (flat : Flat) → KeepsClients flat (made_row wanted source who flat).world
keeps-made (Selects what) source who flat =
    let row : RowEnd = list_used what source who flat in
    keeps_behind row.row (further_asked (next_use what)) flat row.world (keeps-lists who flat row (lists-used what source who flat)) (keeps-asked (next_use what))
keeps-made (Paints new) source who flat = (last-painted new source flat).keeps
keeps-made (Hooks new) source who flat = (last-hooked new source flat).keeps

pub keeps_finish : (wanted : Wanted) (made : Option (List ℕ)) (who : ℕ) (flat : Flat) → KeepsClients flat (row_finish wanted made who flat).world
unfolding row_finish
keeps_finish wanted None who flat = keeps_same flat
keeps_finish wanted (Some source) who flat = keeps-made wanted source who flat
