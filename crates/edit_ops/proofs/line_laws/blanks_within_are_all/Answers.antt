use Rattle.edit_ops.proofs.BlankLemmas.{blanks-such, blanks-no_more}
use Rattle.edit_ops.proofs.line_laws.blanks_within_are_all.Goals as goal

pub returns : goal.returns
returns c = record { such = blanks-such; no_more = blanks-no_more }
