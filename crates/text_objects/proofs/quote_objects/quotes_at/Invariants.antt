use Rattle.std.proofs.Common.{◌+◌}
use Rattle.text_model.specs.Texts.{offset}
use Rattle.motion_keys.specs.Landmarks.{line_begin}
use Rattle.text_objects.proofs.QuoteLemmas.{ArePaired}
use Rattle.text_objects.proofs.quote_objects.quotes_at.Given as goal

abbrev pub invariant-loop-column : goal.invariant-loop-column
invariant-loop-column l = ArePaired l.quote l.lines (line_begin l.lines l.at.line) (offset l.lines l.at) (line_begin l.lines l.at.line + l.column) l.unpaired
