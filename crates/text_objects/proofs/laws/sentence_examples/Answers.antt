-- The examples hold by computation, with the tables of characters open.
use Rattle.unicode.proofs.CategoryComputing.{ucd_category}
use Rattle.unicode.proofs.DerivedComputing.{ucd_derived}
use Rattle.text_objects.specs.SentenceExamples.{InnerSentences, AroundSentences}
use Rattle.text_objects.proofs.laws.sentence_examples.Goals as goal

inner_ones : InnerSentences
unfolding ucd_category ucd_derived
inner_ones = search

around_ones : AroundSentences
unfolding ucd_category ucd_derived
around_ones = search

pub returns : goal.returns
returns c = record { inner = inner_ones; around = around_ones }
