use Rattle.std.proofs.Common.{◌++◌, ap₂, ◌∙◌, refl}
use Rattle.line_buffer.proofs.SplitLemmas.{with_begin}
use Rattle.line_buffer.proofs.rows.copy_begin.Goals as goal

pub returns-clause-lines : goal.returns-clause-lines
returns-clause-lines c =
    with_begin c.args.line.now c.args.chars.now c.in_ok-first.first c.index.result.now c.in_ok-lines.lines.items _ c.args.column c.begin-begin.ensures.valid c.requires.column c.requires.lines c.in_ok-lines.ensures c.index.ensures
    (c.in_ok-first.ensures ∙ ap₂ (λ a b. a ++ b) c.begin-begin.ensures.value c.as_chars.ensures.value) refl
