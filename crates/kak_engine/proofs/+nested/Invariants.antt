use Rattle.std.proofs.Common.{◌+◌, ◌*◌, true}
use Rattle.kak_world.specs.Flat.{units_of}
use Rattle.kak_world.specs.declared.ask.Ask.TheVariants.{Write, Then}
use Rattle.kak_world.specs.Rows.{Asks, stages_of}
use Rattle.kak_engine.specs.Doing.{Do, run_command, run_hook, run_event, strike, play_key}
use Rattle.kak_engine.specs.Seen.{under_way}
use Rattle.kak_engine.proofs.LoopLemmas.{AreDone}
use Rattle.kak_engine.proofs.NestingLemmas.{ArePlayed}
use Rattle.kak_engine.proofs.StageLemmas.{error_measure, measure_of}
use Rattle.kak_engine.proofs.+nested.Given as goal

abbrev pub decreases-texts::run_one : goal.decreases-texts::run_one
decreases-texts::run_one g l = 128 * units_of l.world.now.flat

abbrev pub decreases-playing::strike : goal.decreases-playing::strike
decreases-playing::strike g l = 128 * units_of l.world.now.flat

abbrev pub decreases-texts::run_each : goal.decreases-texts::run_each
decreases-texts::run_each g l = 128 * units_of l.world.now.flat + 1

abbrev pub decreases-playing::strike_each : goal.decreases-playing::strike_each
decreases-playing::strike_each g l = 128 * units_of l.world.now.flat + 1

abbrev pub decreases-texts::run_text : goal.decreases-texts::run_text
decreases-texts::run_text g l = 128 * units_of l.world.now.flat + 2

abbrev pub decreases-playing::strike_mapped : goal.decreases-playing::strike_mapped
decreases-playing::strike_mapped g l = 128 * units_of l.world.now.flat + 2

abbrev pub decreases-texts::run_deeper : goal.decreases-texts::run_deeper
decreases-texts::run_deeper g l = 128 * units_of l.world.now.flat + 3

abbrev pub decreases-texts::run_with : goal.decreases-texts::run_with
decreases-texts::run_with g l = 128 * units_of l.world.now.flat + 3

abbrev pub decreases-playing::play_each : goal.decreases-playing::play_each
decreases-playing::play_each g l = 128 * units_of l.world.now.flat + 3

abbrev pub decreases-texts::try_texts : goal.decreases-texts::try_texts
decreases-texts::try_texts g l = 128 * units_of l.world.now.flat + 4

abbrev pub decreases-texts::call_text : goal.decreases-texts::call_text
decreases-texts::call_text g l = 128 * units_of l.world.now.flat + 4

abbrev pub decreases-playing::play_keys : goal.decreases-playing::play_keys
decreases-playing::play_keys g l = 128 * units_of l.world.now.flat + 4

abbrev pub decreases-hooking::run_hook : goal.decreases-hooking::run_hook
decreases-hooking::run_hook g l = 128 * units_of l.world.now.flat + 4

abbrev pub decreases-hooking::run_hooks : goal.decreases-hooking::run_hooks
decreases-hooking::run_hooks g l = 128 * units_of l.world.now.flat + 5

abbrev pub decreases-hooking::run_event : goal.decreases-hooking::run_event
decreases-hooking::run_event g l = 128 * units_of l.world.now.flat + 6

abbrev pub decreases-hooking::run_each_event : goal.decreases-hooking::run_each_event
decreases-hooking::run_each_event g l = 128 * units_of l.world.now.flat + 7

abbrev pub decreases-hooking::hear_key : goal.decreases-hooking::hear_key
decreases-hooking::hear_key g l = 128 * units_of l.world.now.flat + 7

abbrev pub decreases-hooking::settle : goal.decreases-hooking::settle
decreases-hooking::settle g l = 128 * units_of l.world.now.flat + 8

abbrev pub decreases-playing::settle_normal : goal.decreases-playing::settle_normal
decreases-playing::settle_normal g l = 128 * units_of l.world.now.flat + 9

abbrev pub decreases-playing::play_from_normal : goal.decreases-playing::play_from_normal
decreases-playing::play_from_normal g l = 128 * units_of l.world.now.flat + 10

abbrev pub decreases-playing::play_once : goal.decreases-playing::play_once
decreases-playing::play_once g l = 128 * units_of l.world.now.flat + 11

abbrev pub decreases-playing::play_deeper : goal.decreases-playing::play_deeper
decreases-playing::play_deeper g l = 128 * units_of l.world.now.flat + 12

abbrev pub decreases-playing::play : goal.decreases-playing::play
decreases-playing::play g l = 128 * units_of l.world.now.flat + 13

-- each further run takes a unit
abbrev pub decreases-playing::play-runs : goal.decreases-playing::play-runs
decreases-playing::play-runs g l = units_of l.world.flat

abbrev pub invariant-playing::play-runs : goal.invariant-playing::play-runs
invariant-playing::play-runs g l = ArePlayed l.place l.fn.play l.play (under_way l.fn.world.flat l.fn.answers (g.O.Outside.seen l.fn.outside)) (under_way l.world.flat l.answers (g.O.Outside.seen l.outside))

abbrev pub decreases-asks::make_and_use : goal.decreases-asks::make_and_use
decreases-asks::make_and_use g l = 128 * units_of l.world.now.flat + 32

abbrev pub decreases-asks::read_and_show : goal.decreases-asks::read_and_show
decreases-asks::read_and_show g l = 128 * units_of l.world.now.flat + 32

abbrev pub decreases-asks::write_and_note : goal.decreases-asks::write_and_note
decreases-asks::write_and_note g l = 128 * units_of l.world.now.flat + 32 * stages_of (Asks (Write l.saving))

abbrev pub decreases-asks::go_on_later : goal.decreases-asks::go_on_later
decreases-asks::go_on_later g l = 128 * units_of l.world.now.flat + 32 * stages_of (Asks (Then l.later))

abbrev pub decreases-asks::settle_and_do : goal.decreases-asks::settle_and_do
decreases-asks::settle_and_do g l = 128 * units_of l.world.now.flat + 32 * stages_of (Asks l.ask) + 15

abbrev pub decreases-asks::settle_and_fail : goal.decreases-asks::settle_and_fail
decreases-asks::settle_and_fail g l = error_measure l.error (units_of l.world.now.flat) + 10

abbrev pub decreases-asks::settle_fault : goal.decreases-asks::settle_fault
decreases-asks::settle_fault g l = 128 * units_of l.world.now.flat + 9

abbrev pub decreases-asks::do_ask : goal.decreases-asks::do_ask
decreases-asks::do_ask g l = 128 * units_of l.world.now.flat + 32 * stages_of (Asks l.ask) + 14

abbrev pub decreases-asks::go_on : goal.decreases-asks::go_on
decreases-asks::go_on g l = measure_of l.row (units_of l.world.now.flat) + 16

-- the items so far were done, and ended well
abbrev pub invariant-texts::run_each-loop-command : goal.invariant-texts::run_each-loop-command
invariant-texts::run_each-loop-command g l = AreDone l.place.who (run_command Do l.place) l.commands l.command-index (under_way l.fn.world.flat l.fn.answers (g.O.Outside.seen l.fn.outside)) (under_way l.world.flat l.answers (g.O.Outside.seen l.outside))

-- the items so far were done, and ended well
abbrev pub invariant-playing::strike_each-loop-key : goal.invariant-playing::strike_each-loop-key
invariant-playing::strike_each-loop-key g l = AreDone l.place.who (strike Do l.place) l.keys l.key-index (under_way l.fn.world.flat l.fn.answers (g.O.Outside.seen l.fn.outside)) (under_way l.world.flat l.answers (g.O.Outside.seen l.outside))

-- the items so far were done, and ended well
abbrev pub invariant-playing::play_each-loop-key : goal.invariant-playing::play_each-loop-key
invariant-playing::play_each-loop-key g l = AreDone l.place.who (play_key Do l.place true) l.keys l.key-index (under_way l.fn.world.flat l.fn.answers (g.O.Outside.seen l.fn.outside)) (under_way l.world.flat l.answers (g.O.Outside.seen l.outside))

-- the items so far were done, and ended well
abbrev pub invariant-hooking::run_hooks-loop-at : goal.invariant-hooking::run_hooks-loop-at
invariant-hooking::run_hooks-loop-at g l =
    AreDone l.place.who (run_hook Do l.place l.hooks.parameter.now) l.hooks.found.now l.at-index (under_way l.fn.world.flat l.fn.answers (g.O.Outside.seen l.fn.outside)) (under_way l.world.flat l.answers (g.O.Outside.seen l.outside))

-- the items so far were done, and ended well
abbrev pub invariant-hooking::run_each_event-loop-event : goal.invariant-hooking::run_each_event-loop-event
invariant-hooking::run_each_event-loop-event g l = AreDone l.place.who (run_event Do l.place) l.events l.event-index (under_way l.fn.world.flat l.fn.answers (g.O.Outside.seen l.fn.outside)) (under_way l.world.flat l.answers (g.O.Outside.seen l.outside))
