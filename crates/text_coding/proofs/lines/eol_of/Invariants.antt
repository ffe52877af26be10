use Rattle.std.proofs.Common.{length, chars}
use denote.Shadow.{shadow}
use denote.Text.{Utf8}
use Rattle.text_coding.proofs.ReturnLemmas.{Ends}
use Rattle.text_coding.proofs.lines.eol_of.Given as goal

abbrev pub invariant-loop-parted : goal.invariant-loop-parted
invariant-loop-parted l = record {
  utf8 : shadow (Utf8 l.rest);
  ends : Ends l.newline (chars l.text) (chars l.rest);
}

abbrev pub decreases-loop-parted : goal.decreases-loop-parted
decreases-loop-parted l = length (chars l.rest)
