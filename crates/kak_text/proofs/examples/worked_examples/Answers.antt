-- The examples hold by computation, with the tables of characters open.
use Rattle.unicode.proofs.CategoryComputing.{ucd_category}
use Rattle.unicode.proofs.DerivedComputing.{ucd_derived}
use Rattle.unicode_width.proofs.Computing.{unicode_width}
use Rattle.kak_text.specs.Examples.{ClassExamples, CellExamples, ByteExamples}
use Rattle.kak_text.proofs.examples.worked_examples.Goals as goal

classes : ClassExamples
unfolding ucd_category ucd_derived
classes = search

cells : CellExamples
unfolding unicode_width
cells = search

bytes : ByteExamples
bytes = search

pub returns : goal.returns
returns c = record { classes = classes; cells = cells; bytes = bytes }
