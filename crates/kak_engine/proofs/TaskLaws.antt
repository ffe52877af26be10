-- What each task keeps: no client comes or goes by it, and it takes no unit back.
use Rattle.std.proofs.Common.{◌≡◌, ℕ, suc, ◌≤◌, ◌<◌, ◌+◌, ◌*◌, List, [], refl, sym, ap, ◌∙◌, subst, arith}
use Rattle.std.specs.declared.option.Option.{Option}
use Rattle.key_names.specs.declared.key.Key.{Key}
use Rattle.kak_world.specs.declared.own.Mode.{Mode}
use Rattle.kak_world.specs.declared.own.Mode.TheVariants.{Normal, Insert, Prompt}
use Rattle.kak_world.specs.declared.own.Own.{Own}
use Rattle.kak_world.specs.Dropping.{KeepsJoined}
use Rattle.kak_world.specs.Events.{mode_left}
use Rattle.kak_world.specs.Flat.{Flat, mode_of, units_of, with_own, with_units}
use Rattle.kak_world.specs.Keeping.{KeepsClients}
use Rattle.kak_world.specs.Running.{with_arguments}
use Rattle.kak_world.proofs.EventLaws.{keeps_noted, units_noted, keeps_due, units_due, keeps_left, units_left, keeps_coming, units_coming, keeps_begun, units_begun, keeps_parameter, units_parameter, keeps_fault, units_fault}
use Rattle.kak_world.proofs.KeepingLaws.{keeps_after, keeps_own, keeps_rest, keeps_units}
use Rattle.kak_world.proofs.WorldLaws.{units_in, rest_own, rest_rest, units_units}
use Rattle.key_rows.proofs.PlayingLaws.{macro_stays}
use Rattle.normal_keys.proofs.KeepingLaws.{keeps_normal, normal_units}
use Rattle.insert_prompt.proofs.KeepingLaws.{keeps_insert, keeps_prompt, insert_units, prompt_units}
use Rattle.command_set.proofs.CommandLaws.{command_units, keeps_command}
use Rattle.command_set.proofs.FileLaws.{tame_read, keeps_read, tame_saved, keeps_saved}
use Rattle.command_set.proofs.FinishLaws.{finish_falls, keeps_finish}
use Rattle.command_set.proofs.LaterLaws.{tame_later, keeps_later}
use Rattle.kak_engine.specs.Course.{Task, RunsKey, RunsCommand, RunsMacro, UsesPattern, GoesOn, ShowsFile, NotesFile, GrantsLeave, GoesNormal, TakesArguments, NotesComing, NotesGoing, TakesDue, BeginsHook, TakesParameter, KeepsFault}
use Rattle.kak_engine.specs.Doing.{row_in, row_key, normal_again, task_row}
use Rattle.kak_engine.proofs.CarryingLaws.{IsCarried}

-- a change that keeps the clients keeps who has joined
pub clients-joined : (old new : Flat) → KeepsClients old new → KeepsJoined old new
clients-joined old new k = record { whos = k.whos; joined = λ who j. k.joined who ∙ j; turn = k.turn }

pub joined-still : (flat : Flat) → KeepsJoined flat flat
joined-still flat = record { whos = refl; joined = λ who j. j; turn = refl }

joined-behind : (a b c : Flat) → KeepsJoined a b → KeepsJoined b c → KeepsJoined a c
joined-behind a b c f g = record { whos = g.whos ∙ f.whos; joined = λ who j. g.joined who (f.joined who j); turn = g.turn ∙ f.turn }

joined-same : (old new : Flat) → new ≡ old → KeepsJoined old new
joined-same old new e = subst (λ (f : Flat). KeepsJoined old f) (sym e) (joined-still old)

keeps-in : (mode : Mode) (key : Key) (who : ℕ) (flat : Flat) → KeepsClients flat (row_in mode key who flat).world
keeps-in Normal key who flat = keeps_normal key who flat
keeps-in Insert key who flat = keeps_insert key who flat
keeps-in Prompt key who flat = keeps_prompt key who flat

pub keeps_row : (key : Key) (who : ℕ) (flat : Flat) → KeepsJoined flat (row_key key who flat).world
keeps_row key who flat = clients-joined flat _ (keeps-in (mode_of who flat) key who flat)

keeps-again : (who : ℕ) (flat : Flat) → KeepsClients flat (normal_again who flat)
keeps-again who flat = keeps_after flat (mode_left (mode_of who flat) who flat) (normal_again who flat) (keeps_left (mode_of who flat) who flat) (keeps_own who _ (mode_left (mode_of who flat) who flat))

pub joined-task : (task : Task) (who : ℕ) (flat : Flat) → KeepsJoined flat (task_row task who flat).world
joined-task (RunsKey key) who flat = keeps_row key who flat
joined-task (RunsCommand command) who flat = keeps_command command who flat
joined-task (RunsMacro again) who flat = joined-same flat _ (macro_stays again who flat)
joined-task (UsesPattern wanted made) who flat = clients-joined flat _ (keeps_finish wanted made who flat)
joined-task (GoesOn later) who flat = keeps_later later who flat
joined-task (ShowsFile name read) who flat = keeps_read name read who flat
joined-task (NotesFile saving put) who flat = keeps_saved saving put who flat
joined-task GrantsLeave who flat = clients-joined flat _ (keeps_own who _ flat)
joined-task GoesNormal who flat = clients-joined flat _ (keeps-again who flat)
joined-task (TakesArguments arguments) who flat = clients-joined flat _ (keeps_rest _ flat (λ r. refl))
joined-task NotesComing who flat = clients-joined flat _ (keeps_coming who flat)
joined-task NotesGoing who flat = clients-joined flat _ (keeps_noted _ flat)
joined-task TakesDue who flat = clients-joined flat _ (keeps_due [] flat)
joined-task (BeginsHook at parameter) who flat = clients-joined flat _ (keeps_begun at parameter flat)
joined-task (TakesParameter parameter) who flat = clients-joined flat _ (keeps_parameter parameter flat)
joined-task (KeepsFault fault) who flat = clients-joined flat _ (keeps_fault who fault flat)

pub joined-carried : IsCarried KeepsJoined
joined-carried = record {
  same = joined-still;
  behind = joined-behind;
  unit = λ left flat e. clients-joined flat (with_units left flat) (keeps_units left flat);
  task = joined-task;
}

-- no more units are left than before
abbrev pub TakesUnits : Flat → Flat → Type 0
TakesUnits old new = units_of new ≤ units_of old

falls-units : (n s o : ℕ) → 4 * n + s < 4 * o + 1 → n ≤ o
falls-units n s o lt = omega (arith, lt)

same-units : (n o : ℕ) → n ≡ o → n ≤ o
same-units n o e = omega (arith, e)

after-unit : (n left o : ℕ) → n ≡ left → o ≡ suc left → n ≤ o
after-unit n left o e f = omega (arith, e, f)

after-units : (a b c : ℕ) → b ≤ a → c ≤ b → c ≤ a
after-units a b c e f = omega (arith, e, f)

no-units : (n : ℕ) → n ≤ n
no-units n = omega arith

units-own : (who : ℕ) (f : Own → Own) (flat : Flat) → units_of (with_own who f flat) ≤ units_of flat
units-own who f flat = same-units _ _ (ap units_in (rest_own who f flat))

units-again : (who : ℕ) (flat : Flat) → units_of (normal_again who flat) ≡ units_of flat
units-again who flat = ap units_in (rest_own who _ (mode_left (mode_of who flat) who flat)) ∙ units_left (mode_of who flat) who flat

units-row : (mode : Mode) (key : Key) (who : ℕ) (flat : Flat) → units_of (row_in mode key who flat).world ≤ units_of flat
units-row Normal key who flat = normal_units key who flat
units-row Insert key who flat = insert_units key who flat
units-row Prompt key who flat = prompt_units key who flat

pub units-task : (task : Task) (who : ℕ) (flat : Flat) → TakesUnits flat (task_row task who flat).world
units-task (RunsKey key) who flat = units-row (mode_of who flat) key who flat
units-task (RunsCommand command) who flat = same-units _ _ (command_units command who flat)
units-task (RunsMacro again) who flat = same-units _ _ (ap (λ (f : Flat). units_of f) (macro_stays again who flat))
units-task (UsesPattern wanted made) who flat = falls-units _ _ _ (finish_falls wanted made who flat)
units-task (GoesOn later) who flat = same-units _ _ (tame_later later who flat).units
units-task (ShowsFile name read) who flat = same-units _ _ (tame_read name read who flat).units
units-task (NotesFile saving put) who flat = same-units _ _ (tame_saved saving put who flat).units
units-task GrantsLeave who flat = units-own who _ flat
units-task GoesNormal who flat = same-units _ _ (units-again who flat)
units-task (TakesArguments arguments) who flat = same-units _ _ (ap units_in (rest_rest _ flat))
units-task NotesComing who flat = same-units _ _ (units_coming who flat)
units-task NotesGoing who flat = same-units _ _ (units_noted _ flat)
units-task TakesDue who flat = same-units _ _ (units_due [] flat)
units-task (BeginsHook at parameter) who flat = same-units _ _ (units_begun at parameter flat)
units-task (TakesParameter parameter) who flat = same-units _ _ (units_parameter parameter flat)
units-task (KeepsFault fault) who flat = same-units _ _ (units_fault who fault flat)

pub units-carried : IsCarried TakesUnits
units-carried = record {
  same = λ flat. no-units (units_of flat);
  behind = λ a b c f g. after-units (units_of a) (units_of b) (units_of c) f g;
  unit = λ left flat e. after-unit _ left _ (units_units left flat) e;
  task = units-task;
}
