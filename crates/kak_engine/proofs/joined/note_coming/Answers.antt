use Rattle.std.proofs.Common.{sym, ◌∙◌}
use Rattle.kak_engine.proofs.JoinedLemmas.{notes-one, notes-none}
use Rattle.kak_engine.proofs.joined.note_coming.Goals as goal

pub returns-clause-notes : goal.returns-clause-notes
returns-clause-notes c = notes-one c.args.who c.args.event.now c.args.joined.now c.insert.new.self (sym c.is_join.ensures ∙ c.if-not-is_join.false) c.in_ok-insert.ensures.updates

pub returns-then-not-is_join-clause-notes : goal.returns-then-not-is_join-clause-notes
returns-then-not-is_join-clause-notes c = notes-none c.args.who c.args.event.now c.args.joined.now (sym c.is_join.ensures ∙ c.if-not-is_join.true)
