use Rattle.text_coding.proofs.LineLemmas.{open-chars, open-front, open-whole}
use Rattle.text_coding.proofs.lines.first_line.Goals as goal

pub returns-in_err-newline-clause-none : goal.returns-in_err-newline-clause-none
returns-in_err-newline-clause-none c = λ _. open-chars c.args.text.now c.utf8.text (open-whole c.args.text.now c.as_bytes.result.now c.as_bytes.ensures.value c.in_err-newline.ensures)

pub parted_at-requires-clause-first : goal.parted_at-requires-clause-first
parted_at-requires-clause-first c = open-front c.args.text.now c.as_bytes.result.now c.in_ok-newline.newline c.as_bytes.ensures.value c.in_ok-newline.ensures.0.before
