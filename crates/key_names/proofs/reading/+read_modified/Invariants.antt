use Rattle.std.proofs.Common.{length}
use Rattle.key_names.proofs.reading.+read_modified.Given as goal

abbrev pub decreases-read_modified : goal.decreases-read_modified
decreases-read_modified l = length l.text.now
