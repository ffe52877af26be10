use Rattle.std.proofs.Common.{◌∙◌}
use Rattle.kak_world.proofs.WorldLaws.{acts_joined, joined_there}
use Rattle.command_set.proofs.ExpandingLemmas.{no-buffer, buffer-modified}
use Rattle.command_set.proofs.expansions.is_modified.Goals as goal

pub unreachable-requires : goal.unreachable-requires
unreachable-requires g c = no-buffer _ _ _ c.in-None.ensures c.shown_number.ensures (joined_there c.args.who c.args.world.now.flat (acts_joined c.args.who c.args.world.now.flat c.requires))

pub returns : goal.returns
returns g c = c.is_modified.ensures ∙ buffer-modified c.args.who _ _ _ c.in-Some.ensures c.shown_number.ensures
