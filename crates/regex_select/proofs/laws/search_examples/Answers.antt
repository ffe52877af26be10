-- The examples hold by computation, with the bytes of characters open.
use Rattle.std.proofs.Math.Utf8.{encode}
use Rattle.regex_select.specs.Examples.{SearchExamples}
use Rattle.regex_select.proofs.laws.search_examples.Goals as goal

found : SearchExamples
unfolding encode
found = search

pub returns : goal.returns
returns c = found
