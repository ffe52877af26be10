-- The examples hold by computation, with the bytes of characters open.
use Rattle.std.proofs.Math.Utf8.{encode}
use Rattle.regex_select.specs.Examples.{SplitExamples}
use Rattle.regex_select.proofs.laws.split_examples.Goals as goal

split : SplitExamples
unfolding encode
split = search

pub returns : goal.returns
returns c = split
