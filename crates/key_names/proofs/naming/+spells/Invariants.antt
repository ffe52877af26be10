use Rattle.std.proofs.Common.{length}
use Rattle.key_names.proofs.naming.+spells.Given as goal

abbrev pub decreases-spells : goal.decreases-spells
decreases-spells l = length l.text.now
