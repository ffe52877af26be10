-- What events, and hooks that are run, leave as it is: the clients, and the units.
use Rattle.std.proofs.Common.{◌≡◌, ℕ, Bool, true, false, cond, List, [], ◌∷◌, ◌++◌, append_assoc, refl, sym, ap, ap₂, ◌∙◌}
use Rattle.std.specs.Prelude.{if◌then◌else◌, nat_lt, codes, decimal, Some}
use Rattle.std.specs.declared.option.Option.{Option}
use Rattle.std.proofs.lemmas.List.{append-nil}
use Rattle.scope_tables.specs.declared.hooks.HookRef.{HookRef}
use Rattle.scope_tables.specs.declared.names.HookName.{HookName}
use Rattle.scope_tables.specs.declared.names.HookName.TheVariants.{ClientCreate}
use Rattle.scope_tables.specs.Hooks.{is_any}
use Rattle.kak_world.specs.declared.events.Fault.{Fault}
use Rattle.kak_world.specs.declared.events.HookEvent.{HookEvent}
use Rattle.kak_world.specs.declared.own.Mode.{Mode}
use Rattle.kak_world.specs.declared.own.Mode.TheVariants.{Normal, Insert, Prompt}
use Rattle.kak_world.specs.declared.own.Own.{Own}
use Rattle.kak_world.specs.Flat.{Flat, Scoped, rest_of, with_rest, with_own, units_of}
use Rattle.kak_world.specs.Events.{event_of, due_of, with_due, has_hooks, noted, mode_entered, mode_left, displayed, client_event, coming_noted, with_parameter, hook_begun, faults_of, fault_counted, fault_kept, LacksEvents}
use Rattle.kak_world.specs.Keeping.{KeepsClients}
use Rattle.kak_world.proofs.KeepingLaws.{keeps_same, keeps_after, keeps_own, keeps_rest, keeps_scoped}
use Rattle.kak_world.proofs.WorldLaws.{units_in, rest_own, rest_rest, rest_scoped, scoped_own, scoped_rest, shown_rest, number_rest}

-- events that are due, and others that are
pub keeps_noted : (event : HookEvent) (flat : Flat) → KeepsClients flat (noted event flat)
keeps_noted event flat = keeps_rest _ flat (λ r. refl)

pub units_noted : (event : HookEvent) (flat : Flat) → units_of (noted event flat) ≡ units_of flat
units_noted event flat = ap units_in (rest_rest _ flat)

pub keeps_due : (events : List HookEvent) (flat : Flat) → KeepsClients flat (with_due events flat)
keeps_due events flat = keeps_rest _ flat (λ r. refl)

pub units_due : (events : List HookEvent) (flat : Flat) → units_of (with_due events flat) ≡ units_of flat
units_due events flat = ap units_in (rest_rest _ flat)

-- modes
pub keeps_entered : (mode : Mode) (who : ℕ) (flat : Flat) → KeepsClients flat (mode_entered mode who flat)
keeps_entered Normal who flat = keeps_same flat
keeps_entered Insert who flat = keeps_noted _ flat
keeps_entered Prompt who flat = keeps_noted _ flat

pub units_entered : (mode : Mode) (who : ℕ) (flat : Flat) → units_of (mode_entered mode who flat) ≡ units_of flat
units_entered Normal who flat = refl
units_entered Insert who flat = units_noted _ flat
units_entered Prompt who flat = units_noted _ flat

pub keeps_left : (mode : Mode) (who : ℕ) (flat : Flat) → KeepsClients flat (mode_left mode who flat)
keeps_left Normal who flat = keeps_same flat
keeps_left Insert who flat = keeps_noted _ flat
keeps_left Prompt who flat = keeps_noted _ flat

pub units_left : (mode : Mode) (who : ℕ) (flat : Flat) → units_of (mode_left mode who flat) ≡ units_of flat
units_left Normal who flat = refl
units_left Insert who flat = units_noted _ flat
units_left Prompt who flat = units_noted _ flat

-- clients that come, and are about to go
pub keeps_coming : (who : ℕ) (flat : Flat) → KeepsClients flat (coming_noted who flat)
keeps_coming who flat = keeps_after flat (displayed who flat) (coming_noted who flat) (keeps_noted _ flat) (keeps_noted _ (displayed who flat))

pub units_coming : (who : ℕ) (flat : Flat) → units_of (coming_noted who flat) ≡ units_of flat
units_coming who flat = units_noted _ (displayed who flat) ∙ units_noted _ flat

-- a hook that begins, and the parameter that counts
pub keeps_parameter : (parameter : Option (List ℕ)) (flat : Flat) → KeepsClients flat (with_parameter parameter flat)
keeps_parameter parameter flat = keeps_rest _ flat (λ r. refl)

pub units_parameter : (parameter : Option (List ℕ)) (flat : Flat) → units_of (with_parameter parameter flat) ≡ units_of flat
units_parameter parameter flat = ap units_in (rest_rest _ flat)

pub keeps_begun : (at : HookRef) (parameter : List ℕ) (flat : Flat) → KeepsClients flat (hook_begun at parameter flat)
keeps_begun at parameter flat = keeps_after flat _ (hook_begun at parameter flat) (keeps_scoped _ flat) (keeps_parameter (Some parameter) _)

pub units_begun : (at : HookRef) (parameter : List ℕ) (flat : Flat) → units_of (hook_begun at parameter flat) ≡ units_of flat
units_begun at parameter flat = units_parameter (Some parameter) _ ∙ ap units_in (rest_scoped _ flat)

-- errors that are told
keeps-counted : (who : ℕ) (text : List ℕ) (flat : Flat) → KeepsClients flat (fault_counted who text flat)
keeps-counted who text flat = keeps_after flat _ (fault_counted who text flat) (keeps_rest _ flat (λ r. refl)) (keeps_own who _ _)

units-counted : (who : ℕ) (text : List ℕ) (flat : Flat) → units_of (fault_counted who text flat) ≡ units_of flat
units-counted who text flat = ap units_in (rest_own who _ _) ∙ ap units_in (rest_rest _ flat)

pub keeps_fault : (who : ℕ) (fault : Fault) (flat : Flat) → KeepsClients flat (fault_kept who fault flat)
keeps_fault who fault flat = by (nat_lt fault.at (faults_of flat))
  where
    by : (t : Bool) → KeepsClients flat (if t then flat else fault_counted who fault.text flat)
    by true = keeps_same flat
    by false = keeps-counted who fault.text flat

pub units_fault : (who : ℕ) (fault : Fault) (flat : Flat) → units_of (fault_kept who fault flat) ≡ units_of flat
units_fault who fault flat = by (nat_lt fault.at (faults_of flat))
  where
    by : (t : Bool) → units_of (if t then flat else fault_counted who fault.text flat) ≡ units_of flat
    by true = refl
    by false = units-counted who fault.text flat

-- a world lacks no event of its own, and the last one of a world behind it
pub lacks_none : (flat : Flat) → LacksEvents flat flat
unfolding rest_of with_rest
lacks_none flat = record { lacking = []; due = sym (append-nil (due_of flat)); is = refl }

pub lacks_more : (event : HookEvent) (full flat : Flat) → LacksEvents full flat → LacksEvents (noted event full) flat
unfolding rest_of with_rest
lacks_more event full flat l = record {
  lacking = l.lacking ++ (if has_hooks full then event ∷ [] else []);
  due = by (has_hooks full) ∙ ap (λ es. es ++ (if has_hooks full then event ∷ [] else [])) l.due ∙ append_assoc (due_of flat) l.lacking (if has_hooks full then event ∷ [] else []);
  is = l.is;
}
  where
    by : (t : Bool) → (if t then due_of full ++ event ∷ [] else due_of full) ≡ due_of full ++ (if t then event ∷ [] else [])
    by true = refl
    by false = sym (append-nil (due_of full))

pub lacks_noted : (event : HookEvent) (flat : Flat) → LacksEvents (noted event flat) flat
lacks_noted event flat = lacks_more event flat flat (lacks_none flat)

-- what a client has of its own makes no difference to what hooks are held
pub hooks_own : (who : ℕ) (f : Own → Own) (flat : Flat) → has_hooks (with_own who f flat) ≡ has_hooks flat
hooks_own who f flat = ap (λ (s : Scoped). is_any s.tables.hooks) (scoped_own who f flat)

-- nor does an event that is due
pub hooks_noted : (event : HookEvent) (flat : Flat) → has_hooks (noted event flat) ≡ has_hooks flat
hooks_noted event flat = ap (λ (s : Scoped). is_any s.tables.hooks) (scoped_rest _ flat)

-- what a client did as a whole, behind an event that is due
pub coming-is : (name : HookName) (who : ℕ) (event : HookEvent) (flat : Flat) → client_event name who (noted event flat) ≡ client_event name who flat
coming-is name who event flat = ap₂ (λ number shown. event_of name (codes "client" ++ decimal number) shown) (number_rest who _ flat) (shown_rest who _ flat)

pub coming-now : (who : ℕ) (now old : Flat) → now ≡ displayed who old → noted (client_event ClientCreate who now) now ≡ coming_noted who old
coming-now who now old e = ap (λ f. noted (client_event ClientCreate who f) f) e ∙ ap (λ event. noted event (displayed who old)) (coming-is ClientCreate who _ old)
