-- The examples hold by computation, with the tables of characters open.
use Rattle.unicode.proofs.CategoryComputing.{ucd_category}
use Rattle.unicode.proofs.DerivedComputing.{ucd_derived}
use Rattle.unicode_width.proofs.Computing.{unicode_width}
use Rattle.text_objects.specs.LineExamples.{ParagraphExamples, IndentExamples}
use Rattle.text_objects.proofs.laws.line_examples.Goals as goal

paragraphs : ParagraphExamples
paragraphs = search

indents : IndentExamples
unfolding ucd_category ucd_derived unicode_width
indents = search

pub returns : goal.returns
returns c = record { paragraphs = paragraphs; indents = indents }
