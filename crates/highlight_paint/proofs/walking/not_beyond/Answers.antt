use Rattle.std.proofs.Common.{sym, subst}
use Rattle.compact_chars.specs.Rows.{chars_of}
use Rattle.highlight_paint.specs.Walks.{IsLineWalk}
use Rattle.highlight_paint.proofs.WalkLemmas.{walk-none}
use Rattle.highlight_paint.proofs.walking.not_beyond.Goals as goal

pub returns-clause-walk : goal.returns-clause-walk
returns-clause-walk c = subst (IsLineWalk (chars_of c.args.line)) (sym c.walk_start.ensures) (walk-none (chars_of c.args.line))
