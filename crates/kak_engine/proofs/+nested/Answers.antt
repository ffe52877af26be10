use Rattle.std.proofs.Common.{rules, refl, sym, ap, subst, ◌∙◌, ◌≡◌, ◌+◌, ◌*◌, ◌<◌, true, false, Ok, Err, Some, None, arith}
use Rattle.std.specs.Prelude.{IfOk, alloc_error}
use Rattle.std.proofs.lemmas.Bool.{not-true, not-false}
use Rattle.std.proofs.lemmas.Result.{err_from_is_err_and}
use Rattle.kak_world.specs.declared.ask.EditError.TheVariants.{NoMemory}
use Rattle.kak_world.specs.declared.own.Own.{Own}
use Rattle.kak_world.specs.Events.{parameter_of, with_parameter, hook_begun}
use Rattle.kak_world.specs.Flat.{Flat, units_of, acts}
use Rattle.command_set.specs.Files.{row_read, row_saved}
use Rattle.command_set.specs.Finishing.{row_finish, source_of}
use Rattle.command_set.proofs.FileLaws.{read_falls, keeps_read, saved_falls, keeps_saved}
use Rattle.command_set.proofs.FinishLaws.{finish_falls, keeps_finish}
use Rattle.command_set.proofs.LaterLaws.{later_falls, keeps_later}
use Rattle.kak_engine.specs.Course.{RunsKey, RunsCommand, GoesOn, GrantsLeave, GoesNormal, TakesArguments, TakesDue, BeginsHook, TakesParameter}
use Rattle.kak_engine.specs.Doing.{Fine, Failed, Do, done_as, end_by_error, settle, task_settled, task_row, run_task, run_command, run_text, run_deeper, run_with, run_hook, run_event, key_hooks, each, strike, play_key, play_once, quiet_unless, do_ask}
use Rattle.kak_world.specs.declared.ask.Ask.TheVariants.{Make, Read, Write, Then}
use Rattle.kak_world.specs.Rows.{Asks, RowEnd, stages_of}
use Rattle.kak_world.specs.Running.{arguments_of, with_arguments}
use Rattle.kak_engine.specs.declared.ending.Ending.TheVariants as code
use Rattle.kak_engine.specs.declared.ending.Limit.TheVariants.{Units, Depth}
use Rattle.kak_engine.specs.Seen.{end_seen}
use Rattle.kak_engine.proofs.DoingLemmas.{Do-body}
use Rattle.kak_engine.proofs.AskingLaws.{begins-same, grows-each, grows-read, grows-hook, grows-event, grows-hooks, grows-settled, grows-key, grows-ask, grows-do}
use Rattle.kak_engine.proofs.EndLemmas.{ends-by, does-alone, cut-before, does-task, task-then, task-ends, row-asks, given-up-row, failed-row, none-fine, untold-row, all-read, unread, ask-unasked, made-ends, made-unkept, read-ends, read-unkept, write-ends, write-unkept, unit-task, unit-wanting, unit-acts, acts-row}
use Rattle.kak_engine.proofs.TaskLaws.{clients-joined, units-task, joined-task}
use Rattle.kak_engine.proofs.HookingLemmas.{hook-gone, hook-held, hook-cut, event-ends, settles-none, settles-quiet, settles-all, key-nameless, key-quiet, key-unheard, key-heard}
use Rattle.kak_engine.proofs.LeftLemmas.{row-within}
use Rattle.kak_engine.proofs.LoopLemmas.{then-fine, then-failed, then-given-up, then-cut, one-more, one-failed, one-given-up, one-cut, all-done}
use Rattle.kak_engine.proofs.NestingLemmas.{nested-ends, too-deep, between-ends, between-stops, try-fine, try-caught, try-cut, try-given-up, none-played, play-cut, play-failed, play-given-up, play-over, play-spent, play-refused, macro-cut, macro-failed, macro-given-up, play-more, fewer-left, quiet-ends, key-alone, key-mapped, unmapped-ends, mapped-ends, text-ends, deeper-ends, items-end, acts-deeper, tame-command, tame-strike, tame-key, tame-each, tame-deeper, tame-hook, tame-event, tame-settle, tame-settled, tame-taking, fewer-taken, tame-then, tame-nested, tame-acts, tame-fewer, task-acts, task-fewer}
use Rattle.kak_engine.proofs.StageLemmas.{error_measure, error-measure, error-low, told-holds, refused-acts, low-answered, low-taken}
use Rattle.kak_engine.proofs.StrikingLemmas.{struck-spent, struck-cut, struck-fine, struck-failed, struck-fine-cut, struck-failed-cut, struck-given-up, once-cut, once-fine, once-failed, once-fine-cut, once-failed-cut, once-given-up, once-given-up-cut}
use Rattle.kak_engine.proofs.+nested.Goals as goal

pub asks::do_ask-returns-in-Nothing : goal.asks::do_ask-returns-in-Nothing
asks::do_ask-returns-in-Nothing g t c = record { does = rw c.in-Nothing.is (does-alone _ _ _ _ _ _ refl (λ course answers. refl)) }

pub asks::do_ask-returns-in-Commands : goal.asks::do_ask-returns-in-Commands
asks::do_ask-returns-in-Commands g t c = record { does = rw (c.in-Commands.is, sym c.as_slice.ensures) c.run_text.ensures.does }

pub asks::do_ask-returns-in-Make : goal.asks::do_ask-returns-in-Make
asks::do_ask-returns-in-Make g t c = record { does = rw c.in-Make.is c.make_and_use.ensures.does }

pub asks::do_ask-returns-in-Leave : goal.asks::do_ask-returns-in-Leave
asks::do_ask-returns-in-Leave g t c = record { does = rw c.in-Leave.is (does-task c.args.place.who GrantsLeave Fine _ _ _ _ c.grant_leave.ensures) }

pub asks::go_on-returns-in-Ok : goal.asks::go_on-returns-in-Ok
asks::go_on-returns-in-Ok g t c = record { does = rw c.in-Ok.is (row-asks c.args.place c.in-Ok.ask c.settle_and_do.result _ _ _ _ c.settle_and_do.ensures.does) }

pub asks::go_on-returns-in-Err : goal.asks::go_on-returns-in-Err
asks::go_on-returns-in-Err g t c = record { does = rw c.in-Err.is c.settle_and_fail.ensures.does }

-- what a row did is settled before it is gone on with
pub asks::settle_and_do-do_ask-requires : goal.asks::settle_and_do-do_ask-requires
asks::settle_and_do-do_ask-requires g t c =
    let acts = tame-acts c.args.place.who _ _ _ _ (tame-settle c.args.place) c.in_ok-settle.ensures.does c.requires in
    let fewer = tame-fewer _ _ _ _ (tame-settle c.args.place) c.in_ok-settle.ensures.does in
    let low : 128 * units_of c.settle.new.world.flat + 32 * stages_of (Asks c.args.ask) + 14 < 128 * units_of c.args.world.now.flat + 32 * stages_of (Asks c.args.ask) + 15 = omega (arith, fewer) in
    search rules

pub asks::settle_and_do-returns-in-Fine : goal.asks::settle_and_do-returns-in-Fine
asks::settle_and_do-returns-in-Fine g t c = record {
  does = ends-by c.do_ask.result _ _ _ _ (λ m. Do-body c.args.place (Asks c.args.ask) m)
      (then-fine (settle Do c.args.place) (do_ask Do c.args.place c.args.ask) c.do_ask.result _ _ _ _ c.in-Fine.is c.in_ok-settle.ensures.does c.do_ask.ensures.does);
}

pub asks::settle_and_do-returns-in-Failed : goal.asks::settle_and_do-returns-in-Failed
asks::settle_and_do-returns-in-Failed g t c = record {
  does = ends-by (Ok (code.Failed c.in-Failed.fault)) _ _ _ _ (λ m. Do-body c.args.place (Asks c.args.ask) m)
      (then-failed (settle Do c.args.place) (do_ask Do c.args.place c.args.ask) _ _ _ _ c.in-Failed.is c.in_ok-settle.ensures.does);
}

pub asks::settle_and_do-returns-in-GivenUp : goal.asks::settle_and_do-returns-in-GivenUp
asks::settle_and_do-returns-in-GivenUp g t c = record {
  does = ends-by (Ok (code.GivenUp c.in-GivenUp.limit)) _ _ _ _ (λ m. Do-body c.args.place (Asks c.args.ask) m)
      (then-given-up (settle Do c.args.place) (do_ask Do c.args.place c.args.ask) _ _ _ _ c.in-GivenUp.is c.in_ok-settle.ensures.does);
}

pub asks::settle_and_do-returns-in_err-settle : goal.asks::settle_and_do-returns-in_err-settle
asks::settle_and_do-returns-in_err-settle g t c =
    let p = err_from_is_err_and c.from_residual.result c.from_residual.ensures.1 in
    record {
      does = rw p.1 (ends-by (Err alloc_error) _ _ _ _ (λ m. Do-body c.args.place (Asks c.args.ask) m)
          (then-cut (settle Do c.args.place) (do_ask Do c.args.place c.args.ask) _ _ (grows-ask Do c.args.place c.args.ask grows-do) c.in_err-settle.ensures.does));
    }

-- and where it was refused, before it ends with its error
pub asks::settle_and_fail-settle_fault-requires : goal.asks::settle_and_fail-settle_fault-requires
asks::settle_and_fail-settle_fault-requires g t c =
    let told : c.args.error ≡ NoMemory → ⊥ = (λ is. let x = c.in_ok-ending_of.ensures.memory is in cc) in
    let acts = told-holds c.args.error told c.requires in
    let low = error-measure c.args.error (units_of c.args.world.now.flat) told in
    search rules

pub asks::settle_and_fail-returns-in-Fine : goal.asks::settle_and_fail-returns-in-Fine
asks::settle_and_fail-returns-in-Fine g t c = absurd (none-fine _ c.args.error (sym (ap end_seen c.in-Fine.is) ∙ c.in_ok-ending_of.ensures.ends))

pub asks::settle_and_fail-returns-in-Failed : goal.asks::settle_and_fail-returns-in-Failed
asks::settle_and_fail-returns-in-Failed g t c =
    let told : c.args.error ≡ NoMemory → ⊥ = (λ is. let x = c.in_ok-ending_of.ensures.memory is in cc) in
    record {
      does = λ end gives. failed-row c.args.place c.args.error c.in-Failed.fault c.settle_fault.result c.args.world.now.flat _ _ _
          (sym (ap end_seen c.in-Failed.is) ∙ c.in_ok-ending_of.ensures.ends ∙ ap (λ n. end_by_error n c.args.error) c.faults.ensures) told c.settle_fault.ensures.does end gives;
    }

pub asks::settle_and_fail-returns-in-GivenUp : goal.asks::settle_and_fail-returns-in-GivenUp
asks::settle_and_fail-returns-in-GivenUp g t c = record {
  does = λ end gives. given-up-row c.args.place c.args.error _ _ c.args.world.now.flat _ _ (sym (ap end_seen c.in-GivenUp.is) ∙ c.in_ok-ending_of.ensures.ends) end gives;
}

pub asks::settle_and_fail-returns-in_err-ending_of : goal.asks::settle_and_fail-returns-in_err-ending_of
asks::settle_and_fail-returns-in_err-ending_of g t c =
    let p = err_from_is_err_and c.from_residual.result c.from_residual.ensures.1 in
    record { does = rw p.1 (λ end gives. untold-row c.args.place c.args.world.now.flat _ _ end) }

pub asks::settle_fault-returns-in-Fine : goal.asks::settle_fault-returns-in-Fine
asks::settle_fault-returns-in-Fine g t c = record {
  does = then-fine (settle Do c.args.place) (done_as (Failed c.args.fault)) (Ok (code.Failed c.args.fault)) _ _ _ _ c.in-Fine.is c.in_ok-settle.ensures.does
      (does-alone (λ m. done_as (Failed c.args.fault) m) _ _ _ _ (Failed c.args.fault) refl (λ course answers. refl));
}

pub asks::settle_fault-returns-in-Failed : goal.asks::settle_fault-returns-in-Failed
asks::settle_fault-returns-in-Failed g t c = record { does = then-failed (settle Do c.args.place) (done_as (Failed c.args.fault)) _ _ _ _ c.in-Failed.is c.in_ok-settle.ensures.does }

pub asks::settle_fault-returns-in-GivenUp : goal.asks::settle_fault-returns-in-GivenUp
asks::settle_fault-returns-in-GivenUp g t c = record { does = then-given-up (settle Do c.args.place) (done_as (Failed c.args.fault)) _ _ _ _ c.in-GivenUp.is c.in_ok-settle.ensures.does }

pub asks::settle_fault-returns-in_err-settle : goal.asks::settle_fault-returns-in_err-settle
asks::settle_fault-returns-in_err-settle g t c =
    let p = err_from_is_err_and c.from_residual.result c.from_residual.ensures.1 in
    record { does = rw p.1 (then-cut (settle Do c.args.place) (done_as (Failed c.args.fault)) _ _ (λ m. begins-same m.course) c.in_err-settle.ensures.does) }

-- a row that is gone on with behind the hooks of what it did
pub asks::go_on_later-go_on-requires : goal.asks::go_on_later-go_on-requires
asks::go_on_later-go_on-requires g t c =
    let end : RowEnd = task_row (GoesOn c.args.later) c.args.place.who c.args.world.now.flat in
    let low = low-answered c.go_later-row.result _ (stages_of (Asks (Then c.args.later))) c.go_later-row.new.world.flat end c.go_later-row.ensures.row (later_falls c.args.later c.args.place.who c.args.world.now.flat) in
    let acts = acts-row c.args.place.who c.go_later-row.result c.args.world.now.flat c.go_later-row.new.world.flat end c.go_later-row.ensures.row (keeps_later c.args.later c.args.place.who c.args.world.now.flat) c.requires in
    search rules

pub asks::go_on_later-returns : goal.asks::go_on_later-returns
asks::go_on_later-returns g t c = record {
  does = task-ends c.args.place (GoesOn c.args.later) c.go_on.result c.args.world.now.flat c.go_later-row.new.world.flat _ _ _
      (row-within c.args.place.who (GoesOn c.args.later) c.go_later-row.result c.args.world.now.flat c.go_later-row.new.world.flat c.go_later-row.ensures.row c.go_later-row.ensures.wanting)
      (c.go_on.ensures.does (task_row (GoesOn c.args.later) c.args.place.who c.args.world.now.flat) c.go_later-row.ensures.row);
}

pub asks::make_and_use-go_on-requires : goal.asks::make_and_use-go_on-requires
asks::make_and_use-go_on-requires g t c =
    let end : RowEnd = row_finish c.args.wanted.then (source_of g.O.P.Pattern.source c.in_ok-made.made) c.args.place.who c.args.world.now.flat in
    let low = low-answered c.finish-row.result _ 1 c.finish-row.new.world.flat end c.finish-row.ensures.row (finish_falls c.args.wanted.then (source_of g.O.P.Pattern.source c.in_ok-made.made) c.args.place.who c.args.world.now.flat) in
    let acts = acts-row c.args.place.who c.finish-row.result c.args.world.now.flat c.finish-row.new.world.flat end c.finish-row.ensures.row
    (clients-joined _ _ (keeps_finish c.args.wanted.then (source_of g.O.P.Pattern.source c.in_ok-made.made) c.args.place.who c.args.world.now.flat)) c.requires in
    search rules

pub asks::make_and_use-returns : goal.asks::make_and_use-returns
asks::make_and_use-returns g t c =
    let end : RowEnd = row_finish c.args.wanted.then (source_of g.O.P.Pattern.source c.in_ok-made.made) c.args.place.who c.args.world.now.flat in
    record {
      does = made-ends c.args.place c.args.wanted _ g.O.P.Pattern.source c.in_ok-made.made _ c.finish-row.result c.go_on.result c.args.world.now.flat c.finish-row.new.world.flat _ _ _ _ _ c.as_slice.ensures c.made_told.ensures c.in_ok-made.ensures.built c.in_ok-made.ensures.honest c.in_ok-push.ensures.ok
          c.finish-row.ensures.row c.finish-row.ensures.wanting (c.go_on.ensures.does end c.finish-row.ensures.row);
    }

-- where the outside wasn't asked, and where it was and its answer couldn't be kept
pub asks::make_and_use-returns-in_err-made : goal.asks::make_and_use-returns-in_err-made
asks::make_and_use-returns-in_err-made g t c =
    let p = err_from_is_err_and c.from_residual.result c.from_residual.ensures.1 in
    record { does = rw p.1 (ask-unasked c.args.place (Make c.args.wanted) _ _ c.in_err-made.ensures.err refl) }

pub asks::make_and_use-returns-in_err-push : goal.asks::make_and_use-returns-in_err-push
asks::make_and_use-returns-in_err-push g t c =
    let p = err_from_is_err_and c.from_residual-in_err-push.result c.from_residual-in_err-push.ensures.1 in
    record { does = rw p.1 (made-unkept c.args.place c.args.wanted _ g.O.P.Pattern.source c.in_ok-made.made c.args.world.now.flat _ _ _ c.as_slice.ensures c.in_ok-made.ensures.built c.in_ok-made.ensures.honest refl) }

pub texts::run_one-go_on-requires : goal.texts::run_one-go_on-requires
texts::run_one-go_on-requires g t c =
    let before : Flat = c.take_unit.new.self.flat in
    let end : RowEnd = task_row (RunsCommand c.args.command.now) c.args.place.who before in
    let low = low-taken c.run_command-row.result _ _ c.run_command-row.new.world.flat end (c.if-not-take_unit.ensures.taken refl).0 c.run_command-row.ensures.row (units-task (RunsCommand c.args.command.now) c.args.place.who before) in
    let acts = acts-row c.args.place.who c.run_command-row.result before c.run_command-row.new.world.flat end c.run_command-row.ensures.row (joined-task (RunsCommand c.args.command.now) c.args.place.who before)
    (unit-acts c.args.place.who c.args.world.now.flat before (c.if-not-take_unit.ensures.taken refl).1 c.requires) in
    search rules

pub texts::run_one-returns : goal.texts::run_one-returns
texts::run_one-returns g t c =
    let before : Flat = c.take_unit.new.self.flat in
    record {
      does = unit-task c.args.place (RunsCommand c.args.command.now) c.run_command-row.result c.go_on.result c.args.world.now.flat before c.run_command-row.new.world.flat _ _ _ (c.if-not-take_unit.ensures.taken refl).0 (c.if-not-take_unit.ensures.taken refl).1
          c.run_command-row.ensures.row c.run_command-row.ensures.wanting (c.go_on.ensures.does (task_row (RunsCommand c.args.command.now) c.args.place.who before) c.run_command-row.ensures.row);
    }

pub texts::run_one-returns-then-not-take_unit : goal.texts::run_one-returns-then-not-take_unit
texts::run_one-returns-then-not-take_unit g t c = record {
  does = does-alone _ _ _ _ _ _ (c.if-not-take_unit.ensures.none refl).1 (λ course answers.
      unit-wanting (run_task Do c.args.place (RunsCommand c.args.command.now)) c.args.world.now.flat c.take_unit.new.self.flat course answers (c.if-not-take_unit.ensures.none refl).0 (c.if-not-take_unit.ensures.none refl).1);
}

pub texts::run_text-returns-in-Ok : goal.texts::run_text-returns-in-Ok
texts::run_text-returns-in-Ok g t c = record { does = all-read Do c.args.place _ _ c.run_each.result _ _ (c.in-Ok.ensures.commands ∙ ap Ok (sym c.as_slice.ensures.value)) c.run_each.ensures.does }

pub texts::run_text-returns-in-Err : goal.texts::run_text-returns-in-Err
texts::run_text-returns-in-Err g t c = record {
  does = unread Do c.args.place _ c.in-Err.error c.ending_of.result _ _ _ c.in-Err.ensures.why (subst (λ n. IfOk c.ending_of.result (λ e. end_seen e ≡ end_by_error n c.in-Err.error)) c.faults.ensures c.ending_of.ensures.ends) c.ending_of.ensures.memory
      (grows-read Do c.args.place _ grows-do);
}

pub asks::read_and_show-go_on-requires : goal.asks::read_and_show-go_on-requires
asks::read_and_show-go_on-requires g t c =
    let end : RowEnd = row_read c.args.name c.in_ok-read.read c.args.place.who c.args.world.now.flat in
    let low = low-answered c.open_read-row.result _ 1 c.open_read-row.new.world.flat end c.open_read-row.ensures.row (read_falls c.args.name c.in_ok-read.read c.args.place.who c.args.world.now.flat) in
    let acts = acts-row c.args.place.who c.open_read-row.result c.args.world.now.flat c.open_read-row.new.world.flat end c.open_read-row.ensures.row (keeps_read c.args.name c.in_ok-read.read c.args.place.who c.args.world.now.flat) c.requires in
    search rules

pub asks::read_and_show-returns : goal.asks::read_and_show-returns
asks::read_and_show-returns g t c = record {
  does = read-ends c.args.place c.args.name _ c.in_ok-read.read _ c.open_read-row.result c.go_on.result c.args.world.now.flat c.open_read-row.new.world.flat _ _ _ _ _ c.as_str.ensures c.read_told.ensures c.in_ok-read.ensures.honest c.in_ok-push.ensures.ok
      c.open_read-row.ensures.row c.open_read-row.ensures.err (c.go_on.ensures.does _ c.open_read-row.ensures.row);
}

pub asks::read_and_show-returns-in_err-read : goal.asks::read_and_show-returns-in_err-read
asks::read_and_show-returns-in_err-read g t c =
    let p = err_from_is_err_and c.from_residual.result c.from_residual.ensures.1 in
    record { does = rw p.1 (ask-unasked c.args.place (Read c.args.name) _ _ c.in_err-read.ensures.err refl) }

pub asks::read_and_show-returns-in_err-push : goal.asks::read_and_show-returns-in_err-push
asks::read_and_show-returns-in_err-push g t c =
    let p = err_from_is_err_and c.from_residual-in_err-push.result c.from_residual-in_err-push.ensures.1 in
    record { does = rw p.1 (read-unkept c.args.place c.args.name _ c.in_ok-read.read c.open_read-row.result c.args.world.now.flat _ _ _ c.as_str.ensures c.in_ok-read.ensures.honest c.open_read-row.ensures.row c.open_read-row.ensures.err) }

pub asks::write_and_note-go_on-requires : goal.asks::write_and_note-go_on-requires
asks::write_and_note-go_on-requires g t c =
    let end : RowEnd = row_saved c.args.saving c.in_ok-put.put c.args.place.who c.args.world.now.flat in
    let low = low-answered c.note_saved-row.result _ (stages_of (Asks (Write c.args.saving))) c.note_saved-row.new.world.flat end c.note_saved-row.ensures.row (saved_falls c.args.saving c.in_ok-put.put c.args.place.who c.args.world.now.flat) in
    let acts = acts-row c.args.place.who c.note_saved-row.result c.args.world.now.flat c.note_saved-row.new.world.flat end c.note_saved-row.ensures.row (keeps_saved c.args.saving c.in_ok-put.put c.args.place.who c.args.world.now.flat) c.requires in
    search rules

pub asks::write_and_note-returns : goal.asks::write_and_note-returns
asks::write_and_note-returns g t c = record {
  does = write-ends c.args.place c.args.saving c.in_ok-put.put _ c.note_saved-row.result c.go_on.result c.args.world.now.flat c.note_saved-row.new.world.flat _ _ _ _ _ c.put_told.ensures c.in_ok-put.ensures.honest c.in_ok-push.ensures.ok
      c.note_saved-row.ensures.row c.note_saved-row.ensures.err (c.go_on.ensures.does _ c.note_saved-row.ensures.row);
}

pub asks::write_and_note-returns-in_err-put : goal.asks::write_and_note-returns-in_err-put
asks::write_and_note-returns-in_err-put g t c =
    let p = err_from_is_err_and c.from_residual.result c.from_residual.ensures.1 in
    record { does = rw p.1 (ask-unasked c.args.place (Write c.args.saving) _ _ c.in_err-put.ensures.err refl) }

pub asks::write_and_note-returns-in_err-push : goal.asks::write_and_note-returns-in_err-push
asks::write_and_note-returns-in_err-push g t c =
    let p = err_from_is_err_and c.from_residual-in_err-push.result c.from_residual-in_err-push.ensures.1 in
    record { does = rw p.1 (write-unkept c.args.place c.args.saving c.in_ok-put.put c.args.world.now.flat _ _ _ c.in_ok-put.ensures.honest refl) }

pub asks::do_ask-returns-in-Play : goal.asks::do_ask-returns-in-Play
asks::do_ask-returns-in-Play g t c = record { does = rw c.in-Play.is c.play.ensures.does }

pub asks::do_ask-returns-in-Eval : goal.asks::do_ask-returns-in-Eval
asks::do_ask-returns-in-Eval g t c = record { does = rw (c.in-Eval.is, sym c.as_slice-in-Eval.ensures) c.run_deeper.ensures.does }

pub asks::do_ask-returns-in-Try : goal.asks::do_ask-returns-in-Try
asks::do_ask-returns-in-Try g t c = record { does = rw c.in-Try.is c.try_texts.ensures.does }

pub asks::do_ask-returns-in-Call : goal.asks::do_ask-returns-in-Call
asks::do_ask-returns-in-Call g t c = record { does = rw c.in-Call.is c.call_text.ensures.does }

pub texts::run_each-loop-command-preserved : goal.texts::run_each-loop-command-preserved
texts::run_each-loop-command-preserved g t c =
    one-more c.args.place.who (run_command Do c.args.place) (tame-command c.args.place) c.args.commands.now c.loop-command.command-index _ _ _ _ _ _ c.command-item.is c.loop-command-test.true c.loop-command.invariant c.in-Fine.is c.in_ok-run_one.ensures.does

pub texts::run_each-returns-in-Failed : goal.texts::run_each-returns-in-Failed
texts::run_each-returns-in-Failed g t c = record {
  does = one-failed c.args.place.who (run_command Do c.args.place) c.args.commands.now c.loop-command.command-index _ _ _ _ _ _ _ c.command-item.is c.loop-command-test.true c.loop-command.invariant c.in-Failed.is c.in_ok-run_one.ensures.does;
}

pub texts::run_each-returns-in-GivenUp : goal.texts::run_each-returns-in-GivenUp
texts::run_each-returns-in-GivenUp g t c = record {
  does = one-given-up c.args.place.who (run_command Do c.args.place) c.args.commands.now c.loop-command.command-index _ _ _ _ _ _ _ c.command-item.is c.loop-command-test.true c.loop-command.invariant c.in-GivenUp.is c.in_ok-run_one.ensures.does;
}

pub texts::run_each-returns : goal.texts::run_each-returns
texts::run_each-returns g t c = record { does = all-done c.args.place.who (run_command Do c.args.place) c.args.commands.now c.loop-command.command-index _ _ c.loop-command-test.false c.loop-command.invariant }

pub texts::run_each-returns-in_err-run_one : goal.texts::run_each-returns-in_err-run_one
texts::run_each-returns-in_err-run_one g t c =
    let p = err_from_is_err_and c.from_residual.result c.from_residual.ensures.1 in
    record { does = rw p.1 (one-cut c.args.place.who (run_command Do c.args.place) (tame-command c.args.place) c.args.commands.now c.loop-command.command-index _ _ _ _ _ c.command-item.is c.loop-command-test.true c.loop-command.invariant c.in_err-run_one.ensures.does) }

pub playing::strike_each-loop-key-preserved : goal.playing::strike_each-loop-key-preserved
playing::strike_each-loop-key-preserved g t c =
    one-more c.args.place.who (strike Do c.args.place) (tame-strike c.args.place) c.args.keys.now c.loop-key.key-index _ _ _ _ _ _ refl c.loop-key-test.true c.loop-key.invariant c.in-Fine.is c.in_ok-strike.ensures.does

pub playing::strike_each-returns-in-Failed : goal.playing::strike_each-returns-in-Failed
playing::strike_each-returns-in-Failed g t c = record {
  does = one-failed c.args.place.who (strike Do c.args.place) c.args.keys.now c.loop-key.key-index _ _ _ _ _ _ _ refl c.loop-key-test.true c.loop-key.invariant c.in-Failed.is c.in_ok-strike.ensures.does;
}

pub playing::strike_each-returns-in-GivenUp : goal.playing::strike_each-returns-in-GivenUp
playing::strike_each-returns-in-GivenUp g t c = record {
  does = one-given-up c.args.place.who (strike Do c.args.place) c.args.keys.now c.loop-key.key-index _ _ _ _ _ _ _ refl c.loop-key-test.true c.loop-key.invariant c.in-GivenUp.is c.in_ok-strike.ensures.does;
}

pub playing::strike_each-returns : goal.playing::strike_each-returns
playing::strike_each-returns g t c = record { does = all-done c.args.place.who (strike Do c.args.place) c.args.keys.now c.loop-key.key-index _ _ c.loop-key-test.false c.loop-key.invariant }

pub playing::strike_each-returns-in_err-strike : goal.playing::strike_each-returns-in_err-strike
playing::strike_each-returns-in_err-strike g t c =
    let p = err_from_is_err_and c.from_residual.result c.from_residual.ensures.1 in
    record { does = rw p.1 (one-cut c.args.place.who (strike Do c.args.place) (tame-strike c.args.place) c.args.keys.now c.loop-key.key-index _ _ _ _ _ refl c.loop-key-test.true c.loop-key.invariant c.in_err-strike.ensures.does) }

pub playing::play_each-loop-key-preserved : goal.playing::play_each-loop-key-preserved
playing::play_each-loop-key-preserved g t c =
    one-more c.args.place.who (play_key Do c.args.place true) (tame-key c.args.place true) c.args.keys.now c.loop-key.key-index _ _ _ _ _ _ refl c.loop-key-test.true c.loop-key.invariant c.in-Fine.is c.in_ok-strike_mapped.ensures.does

pub playing::play_each-returns-in-Failed : goal.playing::play_each-returns-in-Failed
playing::play_each-returns-in-Failed g t c = record {
  does = one-failed c.args.place.who (play_key Do c.args.place true) c.args.keys.now c.loop-key.key-index _ _ _ _ _ _ _ refl c.loop-key-test.true c.loop-key.invariant c.in-Failed.is c.in_ok-strike_mapped.ensures.does;
}

pub playing::play_each-returns-in-GivenUp : goal.playing::play_each-returns-in-GivenUp
playing::play_each-returns-in-GivenUp g t c = record {
  does = one-given-up c.args.place.who (play_key Do c.args.place true) c.args.keys.now c.loop-key.key-index _ _ _ _ _ _ _ refl c.loop-key-test.true c.loop-key.invariant c.in-GivenUp.is c.in_ok-strike_mapped.ensures.does;
}

pub playing::play_each-returns : goal.playing::play_each-returns
playing::play_each-returns g t c = record { does = all-done c.args.place.who (play_key Do c.args.place true) c.args.keys.now c.loop-key.key-index _ _ c.loop-key-test.false c.loop-key.invariant }

pub playing::play_each-returns-in_err-strike_mapped : goal.playing::play_each-returns-in_err-strike_mapped
playing::play_each-returns-in_err-strike_mapped g t c =
    let p = err_from_is_err_and c.from_residual.result c.from_residual.ensures.1 in
    record { does = rw p.1 (one-cut c.args.place.who (play_key Do c.args.place true) (tame-key c.args.place true) c.args.keys.now c.loop-key.key-index _ _ _ _ _ refl c.loop-key-test.true c.loop-key.invariant c.in_err-strike_mapped.ensures.does) }

pub playing::strike-go_on-requires : goal.playing::strike-go_on-requires
playing::strike-go_on-requires g t c =
    let before : Flat = c.take_unit.new.self.flat in
    let end : RowEnd = task_row (RunsKey c.args.key) c.args.place.who before in
    let low = low-taken c.run_row-row.result _ _ c.run_row-row.new.world.flat end (c.if-not-take_unit.ensures.taken refl).0 c.run_row-row.ensures.row (units-task (RunsKey c.args.key) c.args.place.who before) in
    let acts = acts-row c.args.place.who c.run_row-row.result before c.run_row-row.new.world.flat end c.run_row-row.ensures.row (joined-task (RunsKey c.args.key) c.args.place.who before)
    (unit-acts c.args.place.who c.args.world.now.flat before (c.if-not-take_unit.ensures.taken refl).1 c.requires) in
    search rules

-- behind the row of a key and what it asked for, its hooks are run
pub playing::strike-hear_key-requires : goal.playing::strike-hear_key-requires
playing::strike-hear_key-requires g t c =
    let before : Flat = c.take_unit.new.self.flat in
    let did = unit-task c.args.place (RunsKey c.args.key) c.run_row-row.result (Ok _) c.args.world.now.flat before c.run_row-row.new.world.flat _ _ _ (c.if-not-take_unit.ensures.taken refl).0 (c.if-not-take_unit.ensures.taken refl).1
    c.run_row-row.ensures.row c.run_row-row.ensures.wanting (c.in_ok-go_on.ensures.does (task_row (RunsKey c.args.key) c.args.place.who before) c.run_row-row.ensures.row) in
    let acts = tame-acts c.args.place.who _ _ _ _ (tame-taking c.args.place (RunsKey c.args.key)) did c.requires in
    let fewer = fewer-taken c.args.place (RunsKey c.args.key) _ _ _ _ did (c.if-not-take_unit.ensures.taken refl).0 in
    let low : 128 * units_of c.go_on.new.world.flat + 7 < 128 * units_of c.args.world.now.flat = omega (arith, fewer) in
    search rules

pub playing::strike-hear_key-requires-in-Failed : goal.playing::strike-hear_key-requires-in-Failed
playing::strike-hear_key-requires-in-Failed g t c =
    let before : Flat = c.take_unit.new.self.flat in
    let did = unit-task c.args.place (RunsKey c.args.key) c.run_row-row.result (Ok _) c.args.world.now.flat before c.run_row-row.new.world.flat _ _ _ (c.if-not-take_unit.ensures.taken refl).0 (c.if-not-take_unit.ensures.taken refl).1
    c.run_row-row.ensures.row c.run_row-row.ensures.wanting (c.in_ok-go_on.ensures.does (task_row (RunsKey c.args.key) c.args.place.who before) c.run_row-row.ensures.row) in
    let acts = tame-acts c.args.place.who _ _ _ _ (tame-taking c.args.place (RunsKey c.args.key)) did c.requires in
    let fewer = fewer-taken c.args.place (RunsKey c.args.key) _ _ _ _ did (c.if-not-take_unit.ensures.taken refl).0 in
    let low : 128 * units_of c.go_on.new.world.flat + 7 < 128 * units_of c.args.world.now.flat = omega (arith, fewer) in
    search rules

pub playing::strike-returns-in_ok-heard-in-Fine : goal.playing::strike-returns-in_ok-heard-in-Fine
playing::strike-returns-in_ok-heard-in-Fine g t c =
    let before : Flat = c.take_unit.new.self.flat in
    let did = unit-task c.args.place (RunsKey c.args.key) c.run_row-row.result (Ok _) c.args.world.now.flat before c.run_row-row.new.world.flat _ _ _ (c.if-not-take_unit.ensures.taken refl).0 (c.if-not-take_unit.ensures.taken refl).1
    c.run_row-row.ensures.row c.run_row-row.ensures.wanting (c.in_ok-go_on.ensures.does (task_row (RunsKey c.args.key) c.args.place.who before) c.run_row-row.ensures.row) in
    record { does = struck-fine c.args.place c.args.key _ _ _ _ (ap (λ (o : Own). o.mode) c.own.ensures) _ _ did c.in_ok-heard-in-Fine.heard _ _ c.in-Fine.is c.in_ok-heard-in-Fine.ensures.does c.still.ensures }

pub playing::strike-returns-in_ok-heard-in-Failed : goal.playing::strike-returns-in_ok-heard-in-Failed
playing::strike-returns-in_ok-heard-in-Failed g t c =
    let before : Flat = c.take_unit.new.self.flat in
    let did = unit-task c.args.place (RunsKey c.args.key) c.run_row-row.result (Ok _) c.args.world.now.flat before c.run_row-row.new.world.flat _ _ _ (c.if-not-take_unit.ensures.taken refl).0 (c.if-not-take_unit.ensures.taken refl).1
    c.run_row-row.ensures.row c.run_row-row.ensures.wanting (c.in_ok-go_on.ensures.does (task_row (RunsKey c.args.key) c.args.place.who before) c.run_row-row.ensures.row) in
    record { does = struck-failed c.args.place c.args.key _ _ _ _ (ap (λ (o : Own). o.mode) c.own.ensures) _ _ did c.in-Failed.fault c.in_ok-heard-in-Failed.heard _ _ c.in-Failed.is c.in_ok-heard-in-Failed.ensures.does c.still-in-Failed.ensures }

pub playing::strike-returns-in-GivenUp : goal.playing::strike-returns-in-GivenUp
playing::strike-returns-in-GivenUp g t c =
    let before : Flat = c.take_unit.new.self.flat in
    let did = unit-task c.args.place (RunsKey c.args.key) c.run_row-row.result (Ok _) c.args.world.now.flat before c.run_row-row.new.world.flat _ _ _ (c.if-not-take_unit.ensures.taken refl).0 (c.if-not-take_unit.ensures.taken refl).1
    c.run_row-row.ensures.row c.run_row-row.ensures.wanting (c.in_ok-go_on.ensures.does (task_row (RunsKey c.args.key) c.args.place.who before) c.run_row-row.ensures.row) in
    record { does = struck-given-up c.args.place c.args.key _ _ _ _ (ap (λ (o : Own). o.mode) c.own.ensures) _ _ did c.in-GivenUp.limit c.in-GivenUp.is }

pub playing::strike-returns-in_err-go_on : goal.playing::strike-returns-in_err-go_on
playing::strike-returns-in_err-go_on g t c =
    let p = err_from_is_err_and c.from_residual.result c.from_residual.ensures.1 in
    let before : Flat = c.take_unit.new.self.flat in
    let did = unit-task c.args.place (RunsKey c.args.key) c.run_row-row.result (Err alloc_error) c.args.world.now.flat before c.run_row-row.new.world.flat _ _ _ (c.if-not-take_unit.ensures.taken refl).0 (c.if-not-take_unit.ensures.taken refl).1
    c.run_row-row.ensures.row c.run_row-row.ensures.wanting (c.in_err-go_on.ensures.does (task_row (RunsKey c.args.key) c.args.place.who before) c.run_row-row.ensures.row) in
    record { does = rw p.1 (struck-cut c.args.place c.args.key _ _ _ _ (ap (λ (o : Own). o.mode) c.own.ensures) _ did) }

pub playing::strike-returns-in_err-heard-in-Fine : goal.playing::strike-returns-in_err-heard-in-Fine
playing::strike-returns-in_err-heard-in-Fine g t c =
    let p = err_from_is_err_and c.from_residual-in_err-heard-in-Fine.result c.from_residual-in_err-heard-in-Fine.ensures.1 in
    let before : Flat = c.take_unit.new.self.flat in
    let did = unit-task c.args.place (RunsKey c.args.key) c.run_row-row.result (Ok _) c.args.world.now.flat before c.run_row-row.new.world.flat _ _ _ (c.if-not-take_unit.ensures.taken refl).0 (c.if-not-take_unit.ensures.taken refl).1
    c.run_row-row.ensures.row c.run_row-row.ensures.wanting (c.in_ok-go_on.ensures.does (task_row (RunsKey c.args.key) c.args.place.who before) c.run_row-row.ensures.row) in
    record { does = rw p.1 (struck-fine-cut c.args.place c.args.key _ _ _ _ (ap (λ (o : Own). o.mode) c.own.ensures) _ _ did _ c.in-Fine.is c.in_err-heard-in-Fine.ensures.does) }

pub playing::strike-returns-in_err-heard-in-Failed : goal.playing::strike-returns-in_err-heard-in-Failed
playing::strike-returns-in_err-heard-in-Failed g t c =
    let p = err_from_is_err_and c.from_residual-in_err-heard-in-Failed.result c.from_residual-in_err-heard-in-Failed.ensures.1 in
    let before : Flat = c.take_unit.new.self.flat in
    let did = unit-task c.args.place (RunsKey c.args.key) c.run_row-row.result (Ok _) c.args.world.now.flat before c.run_row-row.new.world.flat _ _ _ (c.if-not-take_unit.ensures.taken refl).0 (c.if-not-take_unit.ensures.taken refl).1
    c.run_row-row.ensures.row c.run_row-row.ensures.wanting (c.in_ok-go_on.ensures.does (task_row (RunsKey c.args.key) c.args.place.who before) c.run_row-row.ensures.row) in
    record { does = rw p.1 (struck-failed-cut c.args.place c.args.key _ _ _ _ (ap (λ (o : Own). o.mode) c.own.ensures) _ _ did c.in-Failed.fault _ c.in-Failed.is c.in_err-heard-in-Failed.ensures.does) }

pub playing::strike-returns-then-not-take_unit : goal.playing::strike-returns-then-not-take_unit
playing::strike-returns-then-not-take_unit g t c = record {
  does = struck-spent c.args.place c.args.key _ _ _ _ (ap (λ (o : Own). o.mode) c.own.ensures) (code.GivenUp Units) _ refl (c.if-not-take_unit.ensures.none refl).0 (c.if-not-take_unit.ensures.none refl).1;
}

pub texts::run_deeper-returns : goal.texts::run_deeper-returns
texts::run_deeper-returns g t c = record { does = nested-ends c.args.place c.in-Some.inner (λ q. run_text Do q c.args.text.now) c.run_text.result _ _ c.in-Some.ensures.0 c.in-Some.ensures.1 c.run_text.ensures.does }

pub texts::run_deeper-returns-in_default : goal.texts::run_deeper-returns-in_default
texts::run_deeper-returns-in_default g t c = record { does = too-deep c.args.place (λ q. run_text Do q c.args.text.now) _ _ _ (c.in_default.ensures {u = tt}) }

pub playing::play-runs-preserved : goal.playing::play-runs-preserved
playing::play-runs-preserved g t c =
    play-more c.args.place c.args.play c.runs.play _ _ c.runs.invariant _ _ c.in-Fine.is c.in_ok-play_deeper.ensures.does c.in-Some.again c.in-Some.is _ (c.if-not-take_unit.ensures.taken refl).0 (c.if-not-take_unit.ensures.taken refl).1 c.in-Ok.next c.in-Ok.ensures
    _ _ c.in-Fine-2.is c.in_ok-settle-in-Ok.ensures.does

pub playing::play-runs-smaller : goal.playing::play-runs-smaller
playing::play-runs-smaller g t c = fewer-left c.args.place c.runs.play _ _ _ _ _ _ _ _ c.in_ok-play_deeper.ensures.does (c.if-not-take_unit.ensures.taken refl).0 c.in_ok-settle-in-Ok.ensures.does

pub playing::play-settle-requires : goal.playing::play-settle-requires
playing::play-settle-requires g t c =
    let acts = unit-acts c.args.place.who c.play_deeper.new.world.flat c.take_unit.new.self.flat (c.if-not-take_unit.ensures.taken refl).1
    (tame-acts c.args.place.who _ _ _ _ (tame-nested c.args.place c.runs.play) c.in_ok-play_deeper.ensures.does c.runs.invariant.acts) in
    let fewer = tame-fewer _ _ _ _ (tame-nested c.args.place c.runs.play) c.in_ok-play_deeper.ensures.does in
    let low : 128 * units_of c.take_unit.new.self.flat + 8 < 128 * units_of c.args.world.now.flat + 13 = omega (arith, fewer, (c.if-not-take_unit.ensures.taken refl).0, c.runs.invariant.units) in
    search rules

pub playing::play-settle_and_fail-requires : goal.playing::play-settle_and_fail-requires
playing::play-settle_and_fail-requires g t c =
    let acts = unit-acts c.args.place.who c.play_deeper.new.world.flat c.take_unit.new.self.flat (c.if-not-take_unit.ensures.taken refl).1
    (tame-acts c.args.place.who _ _ _ _ (tame-nested c.args.place c.runs.play) c.in_ok-play_deeper.ensures.does c.runs.invariant.acts) in
    let fewer = tame-fewer _ _ _ _ (tame-nested c.args.place c.runs.play) c.in_ok-play_deeper.ensures.does in
    let few = error-low c.in-Err.error (units_of c.take_unit.new.self.flat) in
    let low : error_measure c.in-Err.error (units_of c.take_unit.new.self.flat) + 10 < 128 * units_of c.args.world.now.flat + 13 = omega (arith, few, fewer, (c.if-not-take_unit.ensures.taken refl).0, c.runs.invariant.units) in
    let may = refused-acts c.in-Err.error acts in
    search rules

pub playing::play-returns-in-Failed-2 : goal.playing::play-returns-in-Failed-2
playing::play-returns-in-Failed-2 g t c = record {
  does = macro-failed c.args.place c.args.play c.runs.play _ _ c.runs.invariant _ _ c.in-Fine.is c.in_ok-play_deeper.ensures.does c.in-Some.again c.in-Some.is _ (c.if-not-take_unit.ensures.taken refl).0 (c.if-not-take_unit.ensures.taken refl).1 c.in-Ok.next c.in-Ok.ensures
      _ _ _ c.in-Failed-2.is c.in_ok-settle-in-Ok.ensures.does;
}

pub playing::play-returns-in-GivenUp-2 : goal.playing::play-returns-in-GivenUp-2
playing::play-returns-in-GivenUp-2 g t c = record {
  does = macro-given-up c.args.place c.args.play c.runs.play _ _ c.runs.invariant _ _ c.in-Fine.is c.in_ok-play_deeper.ensures.does c.in-Some.again c.in-Some.is _ (c.if-not-take_unit.ensures.taken refl).0 (c.if-not-take_unit.ensures.taken refl).1 c.in-Ok.next c.in-Ok.ensures
      _ _ _ c.in-GivenUp-2.is c.in_ok-settle-in-Ok.ensures.does;
}

pub playing::play-returns-in_err-settle-in-Ok : goal.playing::play-returns-in_err-settle-in-Ok
playing::play-returns-in_err-settle-in-Ok g t c =
    let p = err_from_is_err_and c.from_residual-in_err-settle-in-Ok.result c.from_residual-in_err-settle-in-Ok.ensures.1 in
    record {
      does = rw p.1 (macro-cut c.args.place c.args.play c.runs.play _ _ c.runs.invariant _ _ c.in-Fine.is c.in_ok-play_deeper.ensures.does c.in-Some.again c.in-Some.is _ (c.if-not-take_unit.ensures.taken refl).0 (c.if-not-take_unit.ensures.taken refl).1 c.in-Ok.next c.in-Ok.ensures
          _ c.in_err-settle-in-Ok.ensures.does);
    }

pub playing::play-returns-in-Failed : goal.playing::play-returns-in-Failed
playing::play-returns-in-Failed g t c = record { does = play-failed c.args.place c.args.play c.runs.play _ _ c.runs.invariant _ _ _ c.in-Failed.is c.in_ok-play_deeper.ensures.does }

pub playing::play-returns-in-GivenUp : goal.playing::play-returns-in-GivenUp
playing::play-returns-in-GivenUp g t c = record { does = play-given-up c.args.place c.args.play c.runs.play _ _ c.runs.invariant _ _ _ c.in-GivenUp.is c.in_ok-play_deeper.ensures.does }

pub playing::play-returns-in_err-play_deeper : goal.playing::play-returns-in_err-play_deeper
playing::play-returns-in_err-play_deeper g t c =
    let p = err_from_is_err_and c.from_residual.result c.from_residual.ensures.1 in
    record { does = rw p.1 (play-cut c.args.place c.args.play c.runs.play _ _ c.runs.invariant _ c.in_err-play_deeper.ensures.does) }

pub playing::play-returns-in_default : goal.playing::play-returns-in_default
playing::play-returns-in_default g t c = record { does = play-over c.args.place c.args.play c.runs.play _ _ c.runs.invariant _ _ c.in-Fine.is c.in_ok-play_deeper.ensures.does c.in_default.is }

pub playing::play-returns-then-not-take_unit : goal.playing::play-returns-then-not-take_unit
playing::play-returns-then-not-take_unit g t c = record { does = play-spent c.args.place c.args.play c.runs.play _ _ c.runs.invariant _ _ c.in-Fine.is c.in_ok-play_deeper.ensures.does c.in-Some.again c.in-Some.is _ (c.if-not-take_unit.ensures.none refl).0 (c.if-not-take_unit.ensures.none refl).1 }

pub playing::play-returns-in-Err : goal.playing::play-returns-in-Err
playing::play-returns-in-Err g t c = record {
  does = play-refused c.args.place c.args.play c.runs.play _ _ c.runs.invariant _ _ c.in-Fine.is c.in_ok-play_deeper.ensures.does c.in-Some.again c.in-Some.is _ (c.if-not-take_unit.ensures.taken refl).0 (c.if-not-take_unit.ensures.taken refl).1 c.in-Err.error c.settle_and_fail.result _
      c.in-Err.ensures c.settle_and_fail.ensures.does;
}

pub playing::play_deeper-returns : goal.playing::play_deeper-returns
playing::play_deeper-returns g t c = record {
  does = nested-ends c.args.place c.in-Some.inner (λ q. play_once Do (quiet_unless c.args.play.now.hooks q) c.args.play.now) c.play_once.result _ _ c.in-Some.ensures.0 c.in-Some.ensures.1
      (quiet-ends c.quiet_unless-inner.result c.in-Some.inner c.args.play.now c.play_once.result _ _ c.quiet_unless-inner.ensures c.play_once.ensures.does);
}

pub playing::play_deeper-returns-in_default : goal.playing::play_deeper-returns-in_default
playing::play_deeper-returns-in_default g t c = record { does = too-deep c.args.place (λ q. play_once Do (quiet_unless c.args.play.now.hooks q) c.args.play.now) _ _ _ (c.in_default.ensures {u = tt}) }

pub playing::play_once-returns-in_ok-left-in-Fine : goal.playing::play_once-returns-in_ok-left-in-Fine
playing::play_once-returns-in_ok-left-in-Fine g t c = record { does = once-fine c.args.place c.args.play.now _ _ _ c.in_ok-play_from_normal.ensures.does c.in_ok-left-in-Fine.left _ _ c.in-Fine.is c.in_ok-left-in-Fine.ensures.does c.still.ensures }

pub playing::play_once-returns-in_ok-left-in-Failed : goal.playing::play_once-returns-in_ok-left-in-Failed
playing::play_once-returns-in_ok-left-in-Failed g t c = record { does = once-failed c.args.place c.args.play.now _ _ _ c.in_ok-play_from_normal.ensures.does c.in-Failed.fault c.in_ok-left-in-Failed.left _ _ c.in-Failed.is c.in_ok-left-in-Failed.ensures.does c.still-in-Failed.ensures }

pub playing::play_once-returns-in_ok-go_normal-in-GivenUp : goal.playing::play_once-returns-in_ok-go_normal-in-GivenUp
playing::play_once-returns-in_ok-go_normal-in-GivenUp g t c = record { does = once-given-up c.args.place c.args.play.now _ _ _ c.in_ok-play_from_normal.ensures.does c.in-GivenUp.limit c.in-GivenUp.is _ c.in_ok-go_normal-in-GivenUp.ensures.ok }

pub playing::play_once-returns-in_err-play_from_normal : goal.playing::play_once-returns-in_err-play_from_normal
playing::play_once-returns-in_err-play_from_normal g t c =
    let p = err_from_is_err_and c.from_residual.result c.from_residual.ensures.1 in
    record { does = rw p.1 (once-cut c.args.place c.args.play.now _ _ c.in_err-play_from_normal.ensures.does) }

pub playing::play_once-returns-in_err-left-in-Fine : goal.playing::play_once-returns-in_err-left-in-Fine
playing::play_once-returns-in_err-left-in-Fine g t c =
    let p = err_from_is_err_and c.from_residual-in_err-left-in-Fine.result c.from_residual-in_err-left-in-Fine.ensures.1 in
    record { does = rw p.1 (once-fine-cut c.args.place c.args.play.now _ _ _ c.in_ok-play_from_normal.ensures.does _ c.in-Fine.is c.in_err-left-in-Fine.ensures.does) }

pub playing::play_once-returns-in_err-left-in-Failed : goal.playing::play_once-returns-in_err-left-in-Failed
playing::play_once-returns-in_err-left-in-Failed g t c =
    let p = err_from_is_err_and c.from_residual-in_err-left-in-Failed.result c.from_residual-in_err-left-in-Failed.ensures.1 in
    record { does = rw p.1 (once-failed-cut c.args.place c.args.play.now _ _ _ c.in_ok-play_from_normal.ensures.does c.in-Failed.fault _ c.in-Failed.is c.in_err-left-in-Failed.ensures.does) }

pub playing::play_once-returns-in_err-go_normal-in-GivenUp : goal.playing::play_once-returns-in_err-go_normal-in-GivenUp
playing::play_once-returns-in_err-go_normal-in-GivenUp g t c =
    let p = err_from_is_err_and c.from_residual-in_err-go_normal-in-GivenUp.result c.from_residual-in_err-go_normal-in-GivenUp.ensures.1 in
    record { does = rw p.1 (once-given-up-cut c.args.place c.args.play.now _ _ _ c.in_ok-play_from_normal.ensures.does c.in-GivenUp.limit c.in-GivenUp.is _ c.in_err-go_normal-in-GivenUp.ensures.err) }

-- a client that was brought to normal mode, and the keys of a play from there
pub playing::settle_normal-returns : goal.playing::settle_normal-returns
playing::settle_normal-returns g t c = record { does = task-then c.args.place.who GoesNormal (settle Do c.args.place) c.settle.result c.args.world.now.flat _ _ _ _ c.in_ok-go_normal.ensures.ok c.settle.ensures.does }

pub playing::settle_normal-returns-in_err-go_normal : goal.playing::settle_normal-returns-in_err-go_normal
playing::settle_normal-returns-in_err-go_normal g t c =
    let p = err_from_is_err_and c.from_residual.result c.from_residual.ensures.1 in
    record { does = rw p.1 (cut-before (task_settled Do c.args.place GoesNormal) _ _ (grows-settled Do c.args.place GoesNormal grows-do) refl c.in_err-go_normal.ensures.err) }

pub playing::settle_normal-settle-requires : goal.playing::settle_normal-settle-requires
playing::settle_normal-settle-requires g t c =
    let begun : Flat = c.go_normal.new.world.flat in
    let acts = task-acts c.args.place.who GoesNormal c.args.world.now.flat begun c.in_ok-go_normal.ensures.ok c.requires in
    let fewer = task-fewer c.args.place.who GoesNormal c.args.world.now.flat begun c.in_ok-go_normal.ensures.ok in
    let low : 128 * units_of begun + 8 < 128 * units_of c.args.world.now.flat + 9 = omega (arith, fewer) in
    search rules

pub playing::play_from_normal-play_keys-requires : goal.playing::play_from_normal-play_keys-requires
playing::play_from_normal-play_keys-requires g t c =
    let acts = tame-acts c.args.place.who _ _ _ _ (tame-settled c.args.place GoesNormal) c.in_ok-settle_normal.ensures.does c.requires in
    let fewer = tame-fewer _ _ _ _ (tame-settled c.args.place GoesNormal) c.in_ok-settle_normal.ensures.does in
    let low : 128 * units_of c.settle_normal.new.world.flat + 4 < 128 * units_of c.args.world.now.flat + 10 = omega (arith, fewer) in
    search rules

pub playing::play_from_normal-returns-in-Fine : goal.playing::play_from_normal-returns-in-Fine
playing::play_from_normal-returns-in-Fine g t c = record {
  does = then-fine (task_settled Do c.args.place GoesNormal) (each (play_key Do c.args.place c.args.play.now.maps) c.args.play.now.keys) c.play_keys.result _ _ _ _ c.in-Fine.is c.in_ok-settle_normal.ensures.does c.play_keys.ensures.does;
}

pub playing::play_from_normal-returns-in-Failed : goal.playing::play_from_normal-returns-in-Failed
playing::play_from_normal-returns-in-Failed g t c = record {
  does = then-failed (task_settled Do c.args.place GoesNormal) (each (play_key Do c.args.place c.args.play.now.maps) c.args.play.now.keys) _ _ _ _ c.in-Failed.is c.in_ok-settle_normal.ensures.does;
}

pub playing::play_from_normal-returns-in-GivenUp : goal.playing::play_from_normal-returns-in-GivenUp
playing::play_from_normal-returns-in-GivenUp g t c = record {
  does = then-given-up (task_settled Do c.args.place GoesNormal) (each (play_key Do c.args.place c.args.play.now.maps) c.args.play.now.keys) _ _ _ _ c.in-GivenUp.is c.in_ok-settle_normal.ensures.does;
}

pub playing::play_from_normal-returns-in_err-settle_normal : goal.playing::play_from_normal-returns-in_err-settle_normal
playing::play_from_normal-returns-in_err-settle_normal g t c =
    let p = err_from_is_err_and c.from_residual.result c.from_residual.ensures.1 in
    record {
      does = rw p.1 (then-cut (task_settled Do c.args.place GoesNormal) (each (play_key Do c.args.place c.args.play.now.maps) c.args.play.now.keys) _ _
          (grows-each (play_key Do c.args.place c.args.play.now.maps) (λ k. grows-key Do c.args.place c.args.play.now.maps k grows-do) c.args.play.now.keys) c.in_err-settle_normal.ensures.does);
    }

pub texts::run_with-returns : goal.texts::run_with-returns
texts::run_with-returns g t c = record {
  does = between-ends c.args.place.who (TakesArguments (Some c.args.call.arguments)) (λ w. TakesArguments (arguments_of w)) (λ m. run_text Do c.args.place c.args.call.text m) _ c.args.world.now.flat _ _ _ _ _
      c.set_arguments-former.ensures.sets (c.set_arguments-given.ensures.sets ∙ ap (λ words. with_arguments words c.run_text.new.world.flat) c.set_arguments-former.ensures.former)
      (text-ends c.args.place _ c.args.call.text (Ok _) _ _ c.as_slice.ensures c.in_ok-ending.ensures.does);
}

pub texts::run_with-returns-in_err-ending : goal.texts::run_with-returns-in_err-ending
texts::run_with-returns-in_err-ending g t c =
    let p = err_from_is_err_and c.from_residual.result c.from_residual.ensures.1 in
    record {
      does = rw p.1 (between-stops c.args.place.who (TakesArguments (Some c.args.call.arguments)) (λ w. TakesArguments (arguments_of w)) (λ m. run_text Do c.args.place c.args.call.text m) c.args.world.now.flat _ _ _ _
          c.set_arguments-former.ensures.sets (text-ends c.args.place _ c.args.call.text (Err alloc_error) _ _ c.as_slice.ensures c.in_err-ending.ensures.does));
    }

pub texts::run_with-run_text-requires : goal.texts::run_with-run_text-requires
texts::run_with-run_text-requires g t c =
    let begun : Flat = c.set_arguments-former.new.self.flat in
    let acts = task-acts c.args.place.who (TakesArguments (Some c.args.call.arguments)) c.args.world.now.flat begun c.set_arguments-former.ensures.sets c.requires in
    let fewer = task-fewer c.args.place.who (TakesArguments (Some c.args.call.arguments)) c.args.world.now.flat begun c.set_arguments-former.ensures.sets in
    let low : 128 * units_of begun + 2 < 128 * units_of c.args.world.now.flat + 3 = omega (arith, fewer) in
    search rules

pub texts::call_text-run_with-requires : goal.texts::call_text-run_with-requires
texts::call_text-run_with-requires g t c =
    let acts = acts-deeper c.args.place c.in-Some.inner c.args.world.now.flat c.in-Some.ensures.1 c.requires in
    search rules

pub texts::call_text-returns : goal.texts::call_text-returns
texts::call_text-returns g t c = record {
  does = nested-ends c.args.place c.in-Some.inner (λ q. run_with Do q c.args.call.arguments c.args.call.text) c.run_with.result _ _ c.in-Some.ensures.0 c.in-Some.ensures.1 c.run_with.ensures.does;
}

pub texts::call_text-returns-in_default : goal.texts::call_text-returns-in_default
texts::call_text-returns-in_default g t c = record {
  does = too-deep c.args.place (λ q. run_with Do q c.args.call.arguments c.args.call.text) _ _ _ (c.in_default.ensures {u = tt});
}

pub texts::run_deeper-run_text-requires : goal.texts::run_deeper-run_text-requires
texts::run_deeper-run_text-requires g t c =
    let acts = acts-deeper c.args.place c.in-Some.inner c.args.world.now.flat c.in-Some.ensures.1 c.requires in
    search rules

pub texts::try_texts-run_deeper-requires-in-Failed : goal.texts::try_texts-run_deeper-requires-in-Failed
texts::try_texts-run_deeper-requires-in-Failed g t c =
    let acts = tame-acts c.args.place.who _ _ _ _ (tame-deeper c.args.place c.as_slice-first.result.now) c.in_ok-run_deeper.ensures.does c.requires in
    let fewer = tame-fewer _ _ _ _ (tame-deeper c.args.place c.as_slice-first.result.now) c.in_ok-run_deeper.ensures.does in
    let low : 128 * units_of c.run_deeper.new.world.flat + 3 < 128 * units_of c.args.world.now.flat + 4 = omega (arith, fewer) in
    search rules

pub texts::try_texts-returns-in-Fine : goal.texts::try_texts-returns-in-Fine
texts::try_texts-returns-in-Fine g t c = record {
  does = try-fine c.args.place c.args.texts _ _ _ c.in-Fine.is (deeper-ends c.args.place _ c.args.texts.first (Ok _) _ _ c.as_slice-first.ensures c.in_ok-run_deeper.ensures.does);
}

pub texts::try_texts-returns-in-Failed : goal.texts::try_texts-returns-in-Failed
texts::try_texts-returns-in-Failed g t c = record {
  does = try-caught c.args.place c.args.texts c.run_deeper-in-Failed.result _ _ _ _ _ c.in-Failed.is (deeper-ends c.args.place _ c.args.texts.first (Ok _) _ _ c.as_slice-first.ensures c.in_ok-run_deeper.ensures.does)
      (deeper-ends c.args.place _ c.args.texts.catching c.run_deeper-in-Failed.result _ _ c.as_slice-caught.ensures c.run_deeper-in-Failed.ensures.does);
}

pub texts::try_texts-returns : goal.texts::try_texts-returns
texts::try_texts-returns g t c = record {
  does = try-given-up c.args.place c.args.texts _ _ _ _ c.in-GivenUp.is (deeper-ends c.args.place _ c.args.texts.first (Ok _) _ _ c.as_slice-first.ensures c.in_ok-run_deeper.ensures.does);
}

pub texts::try_texts-returns-in_err-run_deeper : goal.texts::try_texts-returns-in_err-run_deeper
texts::try_texts-returns-in_err-run_deeper g t c =
    let p = err_from_is_err_and c.from_residual.result c.from_residual.ensures.1 in
    record { does = rw p.1 (try-cut c.args.place c.args.texts _ _ (deeper-ends c.args.place _ c.args.texts.first (Err alloc_error) _ _ c.as_slice-first.ensures c.in_err-run_deeper.ensures.does)) }

pub playing::play_once-settle_normal-requires : goal.playing::play_once-settle_normal-requires
playing::play_once-settle_normal-requires g t c =
    let tame = tame-then (task_settled Do c.args.place GoesNormal) (each (play_key Do c.args.place c.args.play.now.maps) c.args.play.now.keys) (tame-settled c.args.place GoesNormal)
    (tame-each (play_key Do c.args.place c.args.play.now.maps) (tame-key c.args.place c.args.play.now.maps) c.args.play.now.keys) in
    let acts = tame-acts c.args.place.who _ _ _ _ tame c.in_ok-play_from_normal.ensures.does c.requires in
    let fewer = tame-fewer _ _ _ _ tame c.in_ok-play_from_normal.ensures.does in
    let low : 128 * units_of c.play_from_normal.new.world.flat + 9 < 128 * units_of c.args.world.now.flat + 11 = omega (arith, fewer) in
    search rules

pub playing::play_once-settle_normal-requires-in-Failed : goal.playing::play_once-settle_normal-requires-in-Failed
playing::play_once-settle_normal-requires-in-Failed g t c =
    let tame = tame-then (task_settled Do c.args.place GoesNormal) (each (play_key Do c.args.place c.args.play.now.maps) c.args.play.now.keys) (tame-settled c.args.place GoesNormal)
    (tame-each (play_key Do c.args.place c.args.play.now.maps) (tame-key c.args.place c.args.play.now.maps) c.args.play.now.keys) in
    let acts = tame-acts c.args.place.who _ _ _ _ tame c.in_ok-play_from_normal.ensures.does c.requires in
    let fewer = tame-fewer _ _ _ _ tame c.in_ok-play_from_normal.ensures.does in
    let low : 128 * units_of c.play_from_normal.new.world.flat + 9 < 128 * units_of c.args.world.now.flat + 11 = omega (arith, fewer) in
    search rules

pub playing::play_once-go_normal-requires : goal.playing::play_once-go_normal-requires
playing::play_once-go_normal-requires g t c =
    tame-acts c.args.place.who _ _ _ _
    (tame-then (task_settled Do c.args.place GoesNormal) (each (play_key Do c.args.place c.args.play.now.maps) c.args.play.now.keys) (tame-settled c.args.place GoesNormal)
    (tame-each (play_key Do c.args.place c.args.play.now.maps) (tame-key c.args.place c.args.play.now.maps) c.args.play.now.keys))
    c.in_ok-play_from_normal.ensures.does c.requires

pub playing::play_deeper-play_once-requires : goal.playing::play_deeper-play_once-requires
playing::play_deeper-play_once-requires g t c =
    let acts = acts-deeper c.args.place c.in-Some.inner c.args.world.now.flat c.in-Some.ensures.1 c.requires in
    search rules

pub playing::play-run_macro-requires : goal.playing::play-run_macro-requires
playing::play-run_macro-requires g t c =
    unit-acts c.args.place.who c.play_deeper.new.world.flat c.take_unit.new.self.flat (c.if-not-take_unit.ensures.taken refl).1
    (tame-acts c.args.place.who _ _ _ _ (tame-nested c.args.place c.runs.play) c.in_ok-play_deeper.ensures.does c.runs.invariant.acts)

pub playing::play_keys-returns : goal.playing::play_keys-returns
playing::play_keys-returns g t c = record {
  does = unmapped-ends c.args.place c.args.play.now.maps c.args.play.now.keys c.strike_each.result _ _ c.if-play.false
      (items-end (strike Do c.args.place) _ c.args.play.now.keys c.strike_each.result _ _ c.as_slice-2.ensures c.strike_each.ensures.does);
}

pub playing::play_keys-returns-then-play : goal.playing::play_keys-returns-then-play
playing::play_keys-returns-then-play g t c = record {
  does = mapped-ends c.args.place c.args.play.now.maps c.args.play.now.keys c.play_each.result _ _ c.if-play.true
      (items-end (play_key Do c.args.place true) _ c.args.play.now.keys c.play_each.result _ _ c.as_slice.ensures c.play_each.ensures.does);
}

pub playing::strike_mapped-returns-in_err-keys : goal.playing::strike_mapped-returns-in_err-keys
playing::strike_mapped-returns-in_err-keys g t c =
    let p = err_from_is_err_and c.from_residual.result c.from_residual.ensures.1 in
    record { does = rw p.1 (cut-before (λ m. play_key Do c.args.place true c.args.key m) _ _ (grows-key Do c.args.place true c.args.key grows-do) refl refl) }

pub playing::strike_mapped-returns-in_default : goal.playing::strike_mapped-returns-in_default
playing::strike_mapped-returns-in_default g t c = record { does = key-alone c.args.place c.args.key c.strike.result _ _ (sym c.in_ok-keys.ensures ∙ c.in_default.is) c.strike.ensures.does }

pub playing::strike_mapped-returns-in_default-deeper : goal.playing::strike_mapped-returns-in_default-deeper
playing::strike_mapped-returns-in_default-deeper g t c = record {
  does = key-mapped c.args.place c.args.key c.in-Some.keys (Ok (code.GivenUp Depth)) _ _ (sym c.in_ok-keys.ensures ∙ c.in-Some.is)
      (too-deep c.args.place (λ q. each (strike Do q) c.in-Some.keys) _ _ _ (c.in_default-deeper.ensures {u = tt}));
}

pub playing::strike_mapped-strike_each-requires : goal.playing::strike_mapped-strike_each-requires
playing::strike_mapped-strike_each-requires g t c =
    let acts = acts-deeper c.args.place c.in-Some-deeper.inner c.args.world.now.flat c.in-Some-deeper.ensures.1 c.requires in
    search rules

pub playing::strike_mapped-returns : goal.playing::strike_mapped-returns
playing::strike_mapped-returns g t c = record {
  does = key-mapped c.args.place c.args.key c.in-Some.keys c.strike_each.result _ _ (sym c.in_ok-keys.ensures ∙ c.in-Some.is)
      (nested-ends c.args.place c.in-Some-deeper.inner (λ q. each (strike Do q) c.in-Some.keys) c.strike_each.result _ _ c.in-Some-deeper.ensures.0 c.in-Some-deeper.ensures.1
      (items-end (strike Do c.in-Some-deeper.inner) _ c.in-Some.keys c.strike_each.result _ _ c.as_slice.ensures c.strike_each.ensures.does));
}

-- behind a unit that was taken, the client of a row acts still
pub texts::run_one-run_command-row-requires : goal.texts::run_one-run_command-row-requires
texts::run_one-run_command-row-requires g t c = unit-acts c.args.place.who c.args.world.now.flat c.take_unit.new.self.flat (c.if-not-take_unit.ensures.taken refl).1 c.requires

pub playing::strike-run_row-row-requires : goal.playing::strike-run_row-row-requires
playing::strike-run_row-row-requires g t c = unit-acts c.args.place.who c.args.world.now.flat c.take_unit.new.self.flat (c.if-not-take_unit.ensures.taken refl).1 c.requires

-- hooks
pub hooking::run_hook-returns-in_default : goal.hooking::run_hook-returns-in_default
hooking::run_hook-returns-in_default g t c = record { does = hook-gone c.args.place c.args.hook.parameter.now c.args.hook.at c.args.world.now.flat _ _ code.Fine refl (sym c.in_ok-text.ensures ∙ c.in_default.is) }

pub hooking::run_hook-returns-in_err-text : goal.hooking::run_hook-returns-in_err-text
hooking::run_hook-returns-in_err-text g t c =
    let p = err_from_is_err_and c.from_residual.result c.from_residual.ensures.1 in
    record { does = rw p.1 (cut-before (run_hook Do c.args.place c.args.hook.parameter.now c.args.hook.at) _ _ (grows-hook Do c.args.place c.args.hook.parameter.now c.args.hook.at grows-do) refl refl) }

pub hooking::run_hook-returns-in_err-parameter : goal.hooking::run_hook-returns-in_err-parameter
hooking::run_hook-returns-in_err-parameter g t c =
    let p = err_from_is_err_and c.from_residual-in_err-parameter.result c.from_residual-in_err-parameter.ensures.1 in
    record { does = rw p.1 (cut-before (run_hook Do c.args.place c.args.hook.parameter.now c.args.hook.at) _ _ (grows-hook Do c.args.place c.args.hook.parameter.now c.args.hook.at grows-do) refl refl) }

pub hooking::run_hook-run_deeper-requires : goal.hooking::run_hook-run_deeper-requires
hooking::run_hook-run_deeper-requires g t c =
    let begun : Flat = c.begin_hook-former.new.self.flat in
    let begins = c.begin_hook-former.ensures.begins in
    let acts = task-acts c.args.place.who (BeginsHook c.args.hook.at c.in_ok-parameter.parameter) c.args.world.now.flat begun begins c.requires in
    let fewer = task-fewer c.args.place.who (BeginsHook c.args.hook.at c.in_ok-parameter.parameter) c.args.world.now.flat begun begins in
    let low : 128 * units_of begun + 3 < 128 * units_of c.args.world.now.flat + 4 = omega (arith, fewer) in
    search rules

pub hooking::run_hook-end_hook-requires : goal.hooking::run_hook-end_hook-requires
hooking::run_hook-end_hook-requires g t c =
    task-acts c.args.place.who (TakesParameter (parameter_of c.args.world.now.flat)) _ _ (c.set_parameter-given.ensures.sets ∙ ap (λ former. with_parameter former c.run_deeper.new.world.flat) c.begin_hook-former.ensures.former)
    (tame-acts c.args.place.who _ _ _ _ (tame-deeper c.args.place c.as_slice.result.now) c.in_ok-ending.ensures.does
    (task-acts c.args.place.who (BeginsHook c.args.hook.at c.in_ok-parameter.parameter) c.args.world.now.flat _ c.begin_hook-former.ensures.begins c.requires))

pub hooking::run_hook-returns : goal.hooking::run_hook-returns
hooking::run_hook-returns g t c = record {
  does = hook-held c.args.place c.args.hook.parameter.now c.args.hook.at c.args.world.now.flat _ _ _ (sym c.in_ok-text.ensures ∙ c.in-Some.is) _ (c.begin_hook-former.ensures.begins ∙ ap (λ parameter. hook_begun c.args.hook.at parameter c.args.world.now.flat) c.in_ok-parameter.ensures)
      c.in_ok-ending.ending _ _ _ _ (c.set_parameter-given.ensures.sets ∙ ap (λ former. with_parameter former c.run_deeper.new.world.flat) c.begin_hook-former.ensures.former) c.end_hook.ensures.told c.end_hook.ensures.ends (deeper-ends c.args.place _ c.in-Some.text (Ok _) _ _ c.as_slice.ensures c.in_ok-ending.ensures.does);
}

pub hooking::run_hook-returns-in_err-ending : goal.hooking::run_hook-returns-in_err-ending
hooking::run_hook-returns-in_err-ending g t c =
    let p = err_from_is_err_and c.from_residual-in_err-ending.result c.from_residual-in_err-ending.ensures.1 in
    record {
      does = rw p.1 (hook-cut c.args.place c.args.hook.parameter.now c.args.hook.at c.args.world.now.flat _ _ _ (sym c.in_ok-text.ensures ∙ c.in-Some.is) _
          (c.begin_hook-former.ensures.begins ∙ ap (λ parameter. hook_begun c.args.hook.at parameter c.args.world.now.flat) c.in_ok-parameter.ensures) _ (deeper-ends c.args.place _ c.in-Some.text (Err alloc_error) _ _ c.as_slice.ensures c.in_err-ending.ensures.does));
    }

pub hooking::run_hooks-loop-at-preserved : goal.hooking::run_hooks-loop-at-preserved
hooking::run_hooks-loop-at-preserved g t c =
    one-more c.args.place.who (run_hook Do c.args.place c.args.hooks.parameter.now) (tame-hook c.args.place c.args.hooks.parameter.now) c.args.hooks.found.now c.loop-at.at-index _ _ _ _ _ _ refl c.loop-at-test.true c.loop-at.invariant c.in-Fine.is c.in_ok-run_hook.ensures.does

pub hooking::run_hooks-returns-in-Failed : goal.hooking::run_hooks-returns-in-Failed
hooking::run_hooks-returns-in-Failed g t c = record {
  does = one-failed c.args.place.who (run_hook Do c.args.place c.args.hooks.parameter.now) c.args.hooks.found.now c.loop-at.at-index _ _ _ _ _ _ _ refl c.loop-at-test.true c.loop-at.invariant c.in-Failed.is c.in_ok-run_hook.ensures.does;
}

pub hooking::run_hooks-returns-in-GivenUp : goal.hooking::run_hooks-returns-in-GivenUp
hooking::run_hooks-returns-in-GivenUp g t c = record {
  does = one-given-up c.args.place.who (run_hook Do c.args.place c.args.hooks.parameter.now) c.args.hooks.found.now c.loop-at.at-index _ _ _ _ _ _ _ refl c.loop-at-test.true c.loop-at.invariant c.in-GivenUp.is c.in_ok-run_hook.ensures.does;
}

pub hooking::run_hooks-returns : goal.hooking::run_hooks-returns
hooking::run_hooks-returns g t c = record { does = all-done c.args.place.who (run_hook Do c.args.place c.args.hooks.parameter.now) c.args.hooks.found.now c.loop-at.at-index _ _ c.loop-at-test.false c.loop-at.invariant }

pub hooking::run_hooks-returns-in_err-run_hook : goal.hooking::run_hooks-returns-in_err-run_hook
hooking::run_hooks-returns-in_err-run_hook g t c =
    let p = err_from_is_err_and c.from_residual.result c.from_residual.ensures.1 in
    record {
      does = rw p.1 (one-cut c.args.place.who (run_hook Do c.args.place c.args.hooks.parameter.now) (tame-hook c.args.place c.args.hooks.parameter.now) c.args.hooks.found.now c.loop-at.at-index _ _ _ _ _ refl c.loop-at-test.true c.loop-at.invariant c.in_err-run_hook.ensures.does);
    }

-- events
pub hooking::run_event-returns : goal.hooking::run_event-returns
hooking::run_event-returns g t c = record {
  does = event-ends c.args.place c.args.event.now c.in_ok-found.found.items c.run_hooks.result _ _ c.in_ok-found.ensures (rw (sym c.as_str.ensures, sym c.as_slice.ensures.value) c.run_hooks.ensures.does);
}

pub hooking::run_event-returns-in_err-found : goal.hooking::run_event-returns-in_err-found
hooking::run_event-returns-in_err-found g t c =
    let p = err_from_is_err_and c.from_residual.result c.from_residual.ensures.1 in
    record { does = rw p.1 (cut-before (run_event Do c.args.place c.args.event.now) _ _ (grows-event Do c.args.place c.args.event.now grows-do) refl refl) }

pub hooking::run_each_event-loop-event-preserved : goal.hooking::run_each_event-loop-event-preserved
hooking::run_each_event-loop-event-preserved g t c =
    one-more c.args.place.who (run_event Do c.args.place) (tame-event c.args.place) c.args.events.now c.loop-event.event-index _ _ _ _ _ _ c.event-item.is c.loop-event-test.true c.loop-event.invariant c.in-Fine.is c.in_ok-run_event.ensures.does

pub hooking::run_each_event-returns-in-Failed : goal.hooking::run_each_event-returns-in-Failed
hooking::run_each_event-returns-in-Failed g t c = record {
  does = one-failed c.args.place.who (run_event Do c.args.place) c.args.events.now c.loop-event.event-index _ _ _ _ _ _ _ c.event-item.is c.loop-event-test.true c.loop-event.invariant c.in-Failed.is c.in_ok-run_event.ensures.does;
}

pub hooking::run_each_event-returns-in-GivenUp : goal.hooking::run_each_event-returns-in-GivenUp
hooking::run_each_event-returns-in-GivenUp g t c = record {
  does = one-given-up c.args.place.who (run_event Do c.args.place) c.args.events.now c.loop-event.event-index _ _ _ _ _ _ _ c.event-item.is c.loop-event-test.true c.loop-event.invariant c.in-GivenUp.is c.in_ok-run_event.ensures.does;
}

pub hooking::run_each_event-returns : goal.hooking::run_each_event-returns
hooking::run_each_event-returns g t c = record { does = all-done c.args.place.who (run_event Do c.args.place) c.args.events.now c.loop-event.event-index _ _ c.loop-event-test.false c.loop-event.invariant }

pub hooking::run_each_event-returns-in_err-run_event : goal.hooking::run_each_event-returns-in_err-run_event
hooking::run_each_event-returns-in_err-run_event g t c =
    let p = err_from_is_err_and c.from_residual.result c.from_residual.ensures.1 in
    record { does = rw p.1 (one-cut c.args.place.who (run_event Do c.args.place) (tame-event c.args.place) c.args.events.now c.loop-event.event-index _ _ _ _ _ c.event-item.is c.loop-event-test.true c.loop-event.invariant c.in_err-run_event.ensures.does) }

-- events that are due
pub hooking::settle-returns-then-due_count-eq0 : goal.hooking::settle-returns-then-due_count-eq0
hooking::settle-returns-then-due_count-eq0 g t c = record { does = settles-none c.args.place c.args.world.now.flat _ _ code.Fine refl (sym c.due_count.ensures ∙ c.if-due_count-eq0.true) }

pub hooking::settle-returns-then-not-place : goal.hooking::settle-returns-then-not-place
hooking::settle-returns-then-not-place g t c = record {
  does = settles-quiet c.args.place c.args.world.now.flat _ _ c.take_due-due.result c.take_due-due.ensures.taken (λ e. c.if-due_count-eq0.false (c.due_count.ensures ∙ e)) _ c.take_due-due.ensures.none code.Fine refl (not-true _ c.if-not-place.true);
}

pub hooking::settle-run_each_event-requires : goal.hooking::settle-run_each_event-requires
hooking::settle-run_each_event-requires g t c =
    let taken : Flat = c.take_due-due.new.self.flat in
    let acts = task-acts c.args.place.who TakesDue c.args.world.now.flat taken c.take_due-due.ensures.none c.requires in
    let fewer = task-fewer c.args.place.who TakesDue c.args.world.now.flat taken c.take_due-due.ensures.none in
    let low : 128 * units_of taken + 7 < 128 * units_of c.args.world.now.flat + 8 = omega (arith, fewer) in
    search rules

pub hooking::settle-returns : goal.hooking::settle-returns
hooking::settle-returns g t c = record {
  does = settles-all c.args.place c.args.world.now.flat _ _ c.take_due-due.result c.take_due-due.ensures.taken (λ e. c.if-due_count-eq0.false (c.due_count.ensures ∙ e)) _ c.take_due-due.ensures.none c.run_each_event.result _ (not-false _ c.if-not-place.false)
      (items-end (run_event Do c.args.place) _ c.take_due-due.result c.run_each_event.result _ _ c.as_slice.ensures c.run_each_event.ensures.does);
}

-- keys that hooks hear
pub hooking::hear_key-returns-in_default : goal.hooking::hear_key-returns-in_default
hooking::hear_key-returns-in_default g t c = record { does = key-nameless c.args.place c.args.struck.mode c.args.struck.key c.args.world.now.flat _ _ code.Fine refl (sym c.key_name.ensures ∙ c.in_default.is) }

pub hooking::hear_key-returns-then-not-place : goal.hooking::hear_key-returns-then-not-place
hooking::hear_key-returns-then-not-place g t c = record { does = key-quiet c.args.place c.args.struck.mode c.args.struck.key c.args.world.now.flat _ _ c.in-Some.name code.Fine refl (sym c.key_name.ensures ∙ c.in-Some.is) (not-true _ c.if-not-place.true) }

pub hooking::hear_key-returns-then-not-has_hook : goal.hooking::hear_key-returns-then-not-has_hook
hooking::hear_key-returns-then-not-has_hook g t c = record {
  does = key-unheard c.args.place c.args.struck.mode c.args.struck.key c.args.world.now.flat _ _ c.in-Some.name code.Fine refl (sym c.key_name.ensures ∙ c.in-Some.is) (not-false _ c.if-not-place.false) (sym c.has_hook.ensures ∙ c.if-not-has_hook.true);
}

pub hooking::hear_key-returns-in_err-event : goal.hooking::hear_key-returns-in_err-event
hooking::hear_key-returns-in_err-event g t c =
    let p = err_from_is_err_and c.from_residual.result c.from_residual.ensures.1 in
    record { does = rw p.1 (cut-before (key_hooks Do c.args.place c.args.struck.mode c.args.struck.key) _ _ (grows-hooks Do c.args.place c.args.struck.mode c.args.struck.key grows-do) refl refl) }

pub hooking::hear_key-returns : goal.hooking::hear_key-returns
hooking::hear_key-returns g t c = record {
  does = key-heard c.args.place c.args.struck.mode c.args.struck.key c.args.world.now.flat _ _ c.in-Some.name c.in_ok-event.event c.run_event.result _ (sym c.key_name.ensures ∙ c.in-Some.is) (not-false _ c.if-not-place.false) c.in_ok-event.ensures c.run_event.ensures.does;
}
