use Rattle.std.proofs.Common.{sym, ◌∙◌}
use Rattle.command_set.proofs.NotingLaws.{noted_none}
use Rattle.command_set.proofs.options.note_setting.Goals as goal

pub returns-then-not-has_hooks-clause-notes : goal.returns-then-not-has_hooks-clause-notes
returns-then-not-has_hooks-clause-notes g c = noted_none _ c.args.world.now.flat (sym c.has_hooks.ensures ∙ c.if-not-has_hooks.true)
