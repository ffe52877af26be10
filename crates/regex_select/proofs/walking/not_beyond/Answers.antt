use Rattle.std.proofs.Common.{◌≤◌, sym, subst, arith}
use Rattle.regex_select.specs.declared.walking.SelectionWalk.{SelectionWalk}
use Rattle.regex_select.specs.Walks.{bytes_of_first, own_chars, IsWalk}
use Rattle.regex_select.proofs.WalkLemmas.{walk-start}
use Rattle.regex_select.proofs.walking.not_beyond.Goals as goal

pub returns-clause-walk : goal.returns-clause-walk
returns-clause-walk c = λ text h w. subst (λ (s : SelectionWalk). IsWalk text c.args.sel s) (sym c.start.ensures) (walk-start text c.args.sel h)

pub returns-clause-before : goal.returns-clause-before
returns-clause-before c = λ text h w. subst (λ (s : SelectionWalk). bytes_of_first (own_chars text c.args.sel) s.passed ≤ c.args.byte) (sym c.start.ensures) (omega arith)
