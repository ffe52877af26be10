use Rattle.std.proofs.Common.{sym, ap, ◌∙◌, get_or}
use Rattle.text_model.proofs.PlaceLemmas.{char-at}
use Rattle.line_buffer.proofs.lines.Lines.char_at.Goals as goal

pub returns : goal.returns
returns c = c.at.ensures ∙ ap (λ l. get_or l c.args.at.column 0) c.line.ensures.value ∙ sym (char-at c.args.self.now c.args.at 0 c.requires)
