-- The examples hold by computation, with the bytes of characters open.
use Rattle.std.proofs.Math.Utf8.{encode}
use Rattle.regex_select.specs.Examples.{MatchedExamples}
use Rattle.regex_select.proofs.laws.matched_examples.Goals as goal

matched : MatchedExamples
unfolding encode
matched = search

pub returns : goal.returns
returns c = matched
