-- How far a key came for which memory was wanting.
use Rattle.std.specs.Prelude.{◌≡◌, ℕ, zero, suc, ◌+◌, ◌-◌, ◌<◌, max, None, Some}
use Rattle.std.specs.declared.option.Option.{Option}
use Rattle.undo_model.specs.declared.travel.Travel.TheVariants.{Node}
use Rattle.key_names.specs.declared.key.Key.{Key}
use Rattle.motion_keys.specs.declared.char_moves.CharSearch.{CharSearch}
use Rattle.directions.specs.declared.direction.Direction.{Direction}
use Rattle.directions.specs.declared.direction.Direction.TheVariants.{Forward, Backward}
use Rattle.motion_keys.specs.declared.finding.Motion.TheVariants.{Character}
use Rattle.motion_keys.specs.declared.finding.Reach.{Reach}
use Rattle.kak_world.specs.Flat.{Flat, node_number_of, pending_of, units_of, with_units}
use Rattle.kak_world.specs.Rows.{RowEnd}
use Rattle.kak_world.specs.Changing.{IsMoveCutIn}
use Rattle.key_rows.specs.Wanting.{IsPartOfPut, IsPartOfFill, IsPartOfEdit, IsPartOfEntry}
use Rattle.normal_keys.specs.declared.prefixes.Prefix.{Prefix}
use Rattle.normal_keys.specs.declared.actions.Action.{Action}
use Rattle.normal_keys.specs.declared.actions.Action.TheVariants as action
use Rattle.normal_keys.specs.declared.actions.Repeated.{Repeated}
use Rattle.normal_keys.specs.declared.actions.Repeated.TheVariants as repeated
use Rattle.normal_keys.specs.Actions.{action_of}
use Rattle.normal_keys.specs.Recording.{not_recording}
use Rattle.normal_keys.specs.Repeating.{once}
use Rattle.normal_keys.specs.Rows.{character_of, prefix_of, client_cleared}

-- a unit was taken
abbrev pub unit_taken : Flat → Flat
unit_taken flat = with_units (units_of flat - 1) flat

-- the world in which a run begins that has so many before it; each but the first takes a unit
abbrev pub before_run : ℕ → (Flat → RowEnd) → Flat → Flat
before_run zero run flat = flat
before_run (suc n) run flat = unit_taken (run (before_run n run flat)).world

-- of the runs that a count says some were made, and then one came part of the way
pub record ArePartOfRuns (count : ℕ) (run : Flat → RowEnd) (part : Flat → Flat → Type 0) (old new : Flat) : Type 0 where
  pub made : ℕ
  pub few : made < max 1 count
  pub is : part (before_run made run old) new

-- the number of the node that is gone to
abbrev pub node_beside : Direction → ℕ → ℕ
node_beside Backward n = n - 1
node_beside Forward n = n + 1

-- one run came part of the way
abbrev pub is_part_of_once : Repeated → Option ℕ → ℕ → Flat → Flat → Type 0
is_part_of_once (repeated.Travels travel) register who old new = IsMoveCutIn who travel old new
is_part_of_once (repeated.GoesToNode direction) register who old new = IsMoveCutIn who (Node (node_beside direction (node_number_of who old))) old new
is_part_of_once (repeated.Puts how) register who old new = IsPartOfPut how register who old new
is_part_of_once _ register who old new = new ≡ old

abbrev pub ArePartOfKey : Repeated → ℕ → Option ℕ → ℕ → Flat → Flat → Type 0
ArePartOfKey what count register who old new = ArePartOfRuns count (once what register who) (is_part_of_once what register who) old new

-- an action came part of the way; a recording is over then, and those that don't change the text leave the world
abbrev pub IsPartOfAction : Action → Prefix → ℕ → Flat → Flat → Type 0
IsPartOfAction (action.Repeats what) prefix who old new = ArePartOfKey what prefix.count prefix.register who old new
IsPartOfAction (action.Edits edit) prefix who old new = IsPartOfEdit edit prefix.register who old new
IsPartOfAction (action.Inserts entry) prefix who old new = IsPartOfEntry entry prefix.register who old new
IsPartOfAction action.Records prefix who old new = new ≡ not_recording who old
IsPartOfAction action.EndsRecording prefix who old new = new ≡ not_recording who old
IsPartOfAction _ prefix who old new = new ≡ old

abbrev pub is_part_of_seeking : CharSearch → Reach → ℕ → ℕ → Option ℕ → Flat → Flat → Type 0
is_part_of_seeking search reach count who None old new = new ≡ old
is_part_of_seeking search reach count who (Some c) old new = ArePartOfKey (repeated.Moves (Character search c) reach) count None who old new

abbrev pub is_part_of_filling : ℕ → Option ℕ → Flat → Flat → Type 0
is_part_of_filling who None old new = new ≡ old
is_part_of_filling who (Some c) old new = IsPartOfFill c who old new

-- what a key does for which another one waited came part of the way
abbrev pub IsPartOfAnswer : Action → Key → ℕ → ℕ → Flat → Flat → Type 0
IsPartOfAnswer (action.Seeks search reach) key count who old new = is_part_of_seeking search reach count who (character_of key) old new
IsPartOfAnswer action.Fills key count who old new = is_part_of_filling who (character_of key) old new
IsPartOfAnswer _ key count who old new = new ≡ old

-- a key came part of the way, by the key that waited for it, if one did
abbrev pub IsPartOfKey : Option Key → Key → Prefix → ℕ → Flat → Flat → Type 0
IsPartOfKey None key prefix who old new = IsPartOfAction (action_of key) prefix who old new
IsPartOfKey (Some waits) key prefix who old new = IsPartOfAnswer (action_of waits) key prefix.count who old new

-- a key of normal mode came part of the way: what stood before it is used up
abbrev pub IsPartOfNormal : Key → ℕ → Flat → Flat → Type 0
IsPartOfNormal key who old new = IsPartOfKey (pending_of who old) key (prefix_of who old) who (client_cleared who old) new
