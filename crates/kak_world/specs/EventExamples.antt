-- Worked examples of events that are due, of hooks that begin, and of errors that are told, which hold by computation.
use Rattle.std.specs.Prelude.{◌≡◌, ℕ, Bool, true, false, List, [], ◌∷◌, ◌++◌, codes, decimal, encode_utf8_all, Some}
use Rattle.std.specs.Str.{chars}
use Rattle.scope_options.specs.declared.scope.Scope.TheVariants.{Global}
use Rattle.scope_tables.specs.declared.hooks.HookRef.{HookRef}
use Rattle.scope_tables.specs.declared.names.HookName.{HookName}
use Rattle.scope_tables.specs.declared.names.HookName.TheVariants.{ModeChange, BufCreate, WinDisplay, ClientCreate}
use Rattle.scope_tables.specs.Hooks.{Hook}
use Rattle.scope_tables.specs.Rows.{with_hook}
use Rattle.kak_world.specs.declared.events.Fault.{Fault}
use Rattle.kak_world.specs.declared.own.Mode.TheVariants.{Normal, Insert}
use Rattle.kak_world.specs.declared.own.StatusText.TheVariants.{Refused}
use Rattle.kak_world.specs.Flat.{Flat, tables_of, with_tables, status_of, step_ended}
use Rattle.kak_world.specs.Events.{event_of, due_of, has_hooks, noted, mode_entered, mode_left, coming_noted, hook_text, parameter_of, hook_begun, faults_of, fault_kept}
use Rattle.kak_world.specs.Examples.{one_client}

-- a hook, and client 7 on an empty text where it is held globally
abbrev pub hook_on : HookName → Bool → Hook
hook_on name once = record { name = name; pattern = codes ".*"; group = []; once = once; commands = codes "nop" }

abbrev pub hooked : Bool → Flat
hooked once = with_tables (with_hook Global (hook_on WinDisplay once) (tables_of one_client)) one_client

abbrev pub held : HookRef
held = record { scope = Global; number = 0 }

-- an error that arose when so many errors of hooks had been told
abbrev pub fault_at : ℕ → List ℕ → Fault
fault_at n text = record { at = n; text = text }

pub record EventExamples : Type 0 where
  -- where no hook is held nothing is due
  pub none_is_held : noted (event_of BufCreate (codes "a") 0) one_client ≡ one_client
  -- whatever hook is held: it may add one that hears the event
  pub another_is_held : due_of (noted (event_of BufCreate (codes "a") 0) (hooked false)) ≡ event_of BufCreate (codes "a") 0 ∷ []
  pub shown_and_then_come : due_of (coming_noted 7 (hooked false)) ≡ event_of WinDisplay (encode_utf8_all (codes "*scratch*")) 0 ∷ event_of ClientCreate (codes "client" ++ decimal 0) 0 ∷ []
  pub insert_mode : due_of (mode_entered Insert 7 (hooked false)) ≡ event_of ModeChange (codes "push:normal:insert") 0 ∷ []
  pub normal_mode_stays : mode_left Normal 7 (hooked false) ≡ hooked false
  -- nothing is due behind a step
  pub dropped : due_of (step_ended (coming_noted 7 (hooked false))) ≡ []
  -- a hook that is run once isn't held any more when it begins, and another one is
  pub once : has_hooks (hook_begun held (codes "x") (hooked true)) ≡ false
  pub always : hook_text held (hook_begun held (codes "x") (hooked false)) ≡ Some (chars (codes "nop"))
  pub parameter : parameter_of (hook_begun held (codes "x") (hooked true)) ≡ Some (codes "x")
  -- an error is told that arose behind all that were told, and not one that arose before
  pub later_error : status_of 7 (fault_kept 7 (fault_at 1 (codes "b")) (fault_kept 7 (fault_at 0 (codes "a")) one_client)) ≡ Refused (codes "b")
  pub earlier_error : status_of 7 (fault_kept 7 (fault_at 0 (codes "b")) (fault_kept 7 (fault_at 0 (codes "a")) one_client)) ≡ Refused (codes "a")
  pub counted : faults_of (fault_kept 7 (fault_at 0 (codes "b")) (fault_kept 7 (fault_at 0 (codes "a")) one_client)) ≡ 1
