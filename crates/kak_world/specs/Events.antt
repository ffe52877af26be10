-- Events on which hooks are run: which are due, which hooks hear one, and what becomes of a hook that fails.
use Rattle.std.specs.Prelude.{◌≡◌, ◌⊎◌, ℕ, ◌+◌, ◌-◌, ◌^◌, min, nat_lt, Bool, true, if◌then◌else◌, List, [], ◌∷◌, ◌++◌, codes, decimal, encode_utf8_all, option_map, Some}
use Rattle.std.specs.declared.option.Option.{Option}
use Rattle.std.specs.Str.{chars}
use Rattle.scope_tables.specs.declared.hooks.HookRef.{HookRef}
use Rattle.scope_tables.specs.declared.names.HookName.{HookName}
use Rattle.scope_tables.specs.declared.names.HookName.TheVariants.{InsertChar, ModeChange, WinDisplay, ClientCreate, ClientClose, RegisterModified}
use Rattle.scope_tables.specs.Hooks.{Hook, hooks_for, hook_at, without_once, is_any}
use Rattle.kak_world.specs.declared.events.Fault.{Fault}
use Rattle.kak_world.specs.declared.events.HookEvent.{HookEvent}
use Rattle.kak_world.specs.declared.own.Mode.{Mode}
use Rattle.kak_world.specs.declared.own.Mode.TheVariants.{Normal, Insert, Prompt}
use Rattle.kak_world.specs.declared.own.StatusText.TheVariants.{Refused}
use Rattle.kak_world.specs.Flat.{Flat, rest_of, with_rest, with_own, tables_of, shown_of, name_of, number_of}
use Rattle.kak_world.specs.Rows.{RowEnd}
use Rattle.kak_world.specs.Scoping.{with_hooks}

-- an event of a name, by the text that its hooks' patterns are to match, and by the buffer whose hooks count
abbrev pub event_of : HookName → List ℕ → ℕ → HookEvent
event_of name parameter buffer = record { name = name; parameter = parameter; buffer = buffer }

-- the events that are due, in order
abbrev pub due_of : Flat → List HookEvent
due_of flat = (rest_of flat).step.due

-- the world in which others are
abbrev pub with_due : List HookEvent → Flat → Flat
with_due events flat = with_rest (λ r. record r { step = record r.step { due = events } }) flat

-- whether any hook is held
abbrev pub has_hooks : Flat → Bool
has_hooks flat = is_any (tables_of flat).hooks

-- the world in which an event is due behind those that are due already. Where no hook is held none hears it, and it isn't: events are
-- due between a row and the running of their hooks right behind it, and a row that makes one adds no hook
abbrev pub noted : HookEvent → Flat → Flat
noted event flat = with_due (if has_hooks flat then due_of flat ++ event ∷ [] else due_of flat) flat

-- so with events, in order
abbrev pub all_noted : List HookEvent → Flat → Flat
all_noted [] flat = flat
all_noted (event ∷ events) flat = all_noted events (noted event flat)

-- a client came from normal mode to another one; and it came back from that
abbrev pub mode_entered : Mode → ℕ → Flat → Flat
mode_entered Normal who flat = flat
mode_entered Insert who flat = noted (event_of ModeChange (codes "push:normal:insert") (shown_of who flat)) flat
mode_entered Prompt who flat = noted (event_of ModeChange (codes "push:normal:prompt") (shown_of who flat)) flat

abbrev pub mode_left : Mode → ℕ → Flat → Flat
mode_left Normal who flat = flat
mode_left Insert who flat = noted (event_of ModeChange (codes "pop:insert:normal") (shown_of who flat)) flat
mode_left Prompt who flat = noted (event_of ModeChange (codes "pop:prompt:normal") (shown_of who flat)) flat

-- a client typed a character in insert mode, at however many cursors
abbrev pub character_typed : ℕ → ℕ → Flat → Flat
character_typed c who flat = noted (event_of InsertChar (encode_utf8_all (c ∷ [])) (shown_of who flat)) flat

-- a client had a register set
abbrev pub register_modified : ℕ → ℕ → Flat → Flat
register_modified name who flat = noted (event_of RegisterModified (encode_utf8_all (name ∷ [])) (shown_of who flat)) flat

-- a client was shown the buffer that it sees
abbrev pub displayed : ℕ → Flat → Flat
displayed who flat = noted (event_of WinDisplay (encode_utf8_all (name_of who flat)) (shown_of who flat)) flat

-- a client came, which was shown a buffer by that; or it is about to go
abbrev pub client_event : HookName → ℕ → Flat → HookEvent
client_event name who flat = event_of name (codes "client" ++ decimal (number_of who flat)) (shown_of who flat)

abbrev pub coming_noted : ℕ → Flat → Flat
coming_noted who flat = noted (client_event ClientCreate who flat) (displayed who flat)

abbrev pub going_noted : ℕ → Flat → Flat
going_noted who flat = noted (client_event ClientClose who flat) flat

-- the hooks that are run on an event, for a client
abbrev pub hooks_heard : HookEvent → ℕ → Flat → List HookRef
hooks_heard event who flat = hooks_for event.buffer who event.name event.parameter (tables_of flat).hooks

-- the text that a hook runs, if it is held still
abbrev pub hook_text : HookRef → Flat → Option (List ℕ)
hook_text at flat = option_map (λ (h : Hook). chars h.commands) (hook_at at (tables_of flat).hooks)

-- the parameter of the innermost hook that runs; none where no hook runs
abbrev pub parameter_of : Flat → Option (List ℕ)
parameter_of flat = (rest_of flat).step.parameter

abbrev pub with_parameter : Option (List ℕ) → Flat → Flat
with_parameter parameter flat = with_rest (λ r. record r { step = record r.step { parameter = parameter } }) flat

-- the world when a hook begins: one that is run once isn't held any more, and the parameter of its event counts
abbrev pub hook_begun : HookRef → List ℕ → Flat → Flat
hook_begun at parameter flat = with_parameter (Some parameter) (with_hooks (without_once at) flat)

-- how many errors of hooks were told in the step
abbrev pub faults_of : Flat → ℕ
faults_of flat = (rest_of flat).step.faults

-- a client is told why something was refused
abbrev pub refused : ℕ → List ℕ → Flat → Flat
refused who text flat = with_own who (λ o. record o { status = Refused text }) flat

-- one more error of a hook was told in the step
abbrev pub one_more_fault : Flat → Flat
one_more_fault flat = with_rest (λ r. record r { step = record r.step { faults = min (r.step.faults + 1) (2 ^ 64 - 1) } }) flat

-- a client is told why something was refused, which counts as an error of a hook
abbrev pub fault_counted : ℕ → List ℕ → Flat → Flat
fault_counted who text flat = refused who text (one_more_fault flat)

-- a client is told of an error, unless one that arose behind it was told already
abbrev pub fault_kept : ℕ → Fault → Flat → Flat
fault_kept who fault flat = if nat_lt fault.at (faults_of flat) then flat else fault_counted who fault.text flat

-- The world is another one in which the last of its events aren't due.
pub record LacksEvents (full flat : Flat) : Type 0 where
  pub lacking : List HookEvent
  pub due : due_of full ≡ due_of flat ++ lacking
  pub is : flat ≡ with_due (due_of flat) full

-- Memory was wanting for the events of a row that did all else: some hook is held, and of the world that the row gives the last
-- events aren't due.
pub record WantsEvents (full new : Flat) : Type 0 where
  pub hooks : has_hooks new ≡ true
  pub lacks : LacksEvents full new

-- Memory was wanting for a row, and the world is as before; or the row did all, but that hooks aren't to hear the last of it.
abbrev pub IsUnheard : RowEnd → Flat → Flat → Type 0
IsUnheard end old new = (new ≡ old) ⊎ WantsEvents end.world new
