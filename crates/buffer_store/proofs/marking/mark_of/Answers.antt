use Rattle.std.proofs.Common.{◌∙◌}
use Rattle.buffer_store.proofs.MarkingLemmas.{put-in, taken-out, mark-put_in, mark-taken_out}
use Rattle.buffer_store.proofs.marking.mark_of.Goals as goal

pub before-requires-clause-place : goal.before-requires-clause-place
before-requires-clause-place c = (put-in c.args.lines.now c.args.shift c.requires c.if-shift.true).place

pub before-requires-clause-some : goal.before-requires-clause-some
before-requires-clause-some c = (put-in c.args.lines.now c.args.shift c.requires c.if-shift.true).some

pub returns-then-shift : goal.returns-then-shift
returns-then-shift c = λ old d h. mark-put_in old c.args.lines.now d c.args.shift c.before-then-shift.result h c.if-shift.true c.before-then-shift.ensures

pub at_most_last-requires : goal.at_most_last-requires
at_most_last-requires c = taken-out c.args.lines.now c.args.shift c.requires c.if-shift.false

pub returns : goal.returns
returns c = λ old d h. c.only.ensures ∙ mark-taken_out old c.args.lines.now d c.args.shift c.at_most_last.result h c.if-shift.false c.at_most_last.ensures
