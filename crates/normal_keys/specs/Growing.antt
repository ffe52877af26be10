-- The keys that can change the text, add selections to a list, handle a pattern or run a macro, or end what is recorded.
use Rattle.std.specs.Prelude.{◌≡◌, ◌≤◌, ℕ, Bool, true, false, length, None, Some, is_some, IsErrOf}
use Rattle.std.specs.declared.option.Option.{Option}
use Rattle.std.specs.declared.result.Result.{Result}
use Rattle.key_names.specs.declared.key.Key.{Key}
use Rattle.list_keys.specs.Changes.{change_adds}
use Rattle.kak_world.specs.declared.ask.Ask.{Ask}
use Rattle.kak_world.specs.declared.ask.EditError.{EditError}
use Rattle.kak_world.specs.declared.ask.EditError.TheVariants.{NoMemory}
use Rattle.kak_world.specs.declared.own.Recording.{Recording}
use Rattle.kak_world.specs.Events.{has_hooks}
use Rattle.kak_world.specs.Flat.{Flat, sels_of}
use Rattle.key_rows.specs.Entering.{edits_first}
use Rattle.normal_keys.specs.declared.actions.Action.{Action}
use Rattle.normal_keys.specs.declared.actions.Action.TheVariants.{Lists, Repeats, Edits, Inserts, Fills, StepsToMatch, AddsMatch, Remembers, Records, EndsRecording, Plays}
use Rattle.normal_keys.specs.Actions.{action_of}
use Rattle.normal_keys.specs.Repeating.{repeated_grows}

-- whether an action can, by what the client records, if it does
abbrev pub action_grows : Option Recording → Action → Bool
action_grows recording (Lists change) = change_adds change
action_grows recording (Repeats what) = repeated_grows what
action_grows recording (Edits edit) = true
action_grows recording (Inserts entry) = edits_first entry
action_grows recording (StepsToMatch direction) = true
action_grows recording (AddsMatch direction) = true
action_grows recording (Remembers bounds) = true
action_grows recording Records = is_some recording
action_grows recording EndsRecording = is_some recording
action_grows recording Plays = true
action_grows recording _ = false

-- whether what a key does for which another one waited can, by the action of that one
abbrev pub answer_grows : Action → Bool
answer_grows Fills = true
answer_grows _ = false

-- whether a key can, by what the client records and the key that waits for it, if there are such
abbrev pub key_grows : Option Recording → Option Key → Key → Bool
key_grows recording None key = action_grows recording (action_of key)
key_grows recording (Some waiting) key = answer_grows (action_of waiting)

-- where no hook is held and the client has at most four selections, memory is wanting only for what can grow
abbrev pub IsWantedToGrow : Result Ask EditError → Bool → ℕ → Flat → Type 0
IsWantedToGrow result grows who flat = has_hooks flat ≡ false → length (sels_of who flat).list ≤ 4 → IsErrOf result NoMemory → grows ≡ true
