use Rattle.std.proofs.Common.{take, sym, subst}
use Rattle.std.specs.List.{AllByRecursion}
use Rattle.compact_chars.specs.Rows.{chars_of}
use Rattle.line_painting.specs.Laws.{IsPlainChar}
use Rattle.line_painting.proofs.stretches.plain_among.Goals as goal

pub returns-then-signs-clause-plain : goal.returns-then-signs-clause-plain
returns-then-signs-clause-plain c =
    subst (λ t. AllByRecursion (IsPlainChar t) (take c.graphic_chars.result (chars_of c.args.chars))) (sym c.if-signs.true) c.graphic_chars.ensures.plain
