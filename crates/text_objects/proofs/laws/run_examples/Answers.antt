-- The examples hold by computation, with the tables of characters open.
use Rattle.unicode.proofs.CategoryComputing.{ucd_category}
use Rattle.unicode.proofs.DerivedComputing.{ucd_derived}
use Rattle.text_objects.specs.RunExamples.{WordExamples, BlankExamples, NumberExamples}
use Rattle.text_objects.proofs.laws.run_examples.Goals as goal

words : WordExamples
unfolding ucd_category ucd_derived
words = search

blanks : BlankExamples
unfolding ucd_category ucd_derived
blanks = search

numbers : NumberExamples
unfolding ucd_category ucd_derived
numbers = search

pub returns : goal.returns
returns c = record { words = words; blanks = blanks; numbers = numbers }
