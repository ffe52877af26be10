-- The examples hold by computation, with the tables of characters open.
use Rattle.unicode.proofs.CategoryComputing.{ucd_category}
use Rattle.unicode.proofs.DerivedComputing.{ucd_derived}
use Rattle.unicode_width.proofs.Computing.{unicode_width}
use Rattle.edit_ops.specs.LineExamples.{JoinExamples, IndentExamples}
use Rattle.edit_ops.proofs.line_laws.line_examples.Goals as goal

joining : JoinExamples
unfolding ucd_category ucd_derived
joining = search

indenting : IndentExamples
unfolding ucd_category ucd_derived unicode_width
indenting = search

pub returns : goal.returns
returns c = record { joining = joining; indenting = indenting }
