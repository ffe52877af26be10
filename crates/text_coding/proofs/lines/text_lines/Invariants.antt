use Rattle.std.proofs.Common.{◌≡◌, ◌<◌, ◌++◌, length, chars}
use denote.Shadow.{shadow}
use denote.Text.{Utf8}
use Rattle.text_model.specs.Texts.{IsText}
use Rattle.text_coding.specs.Coding.{from_form}
use Rattle.text_coding.proofs.lines.text_lines.Given as goal

-- the lines so far are there, and the rest is to come
abbrev pub invariant-loop-parted : goal.invariant-loop-parted
invariant-loop-parted l = record {
  utf8 : shadow (Utf8 l.rest);
  parted : from_form l.eol (chars l.text) ≡ l.lines ++ from_form l.eol (chars l.rest);
  whole : 0 < length l.lines → IsText l.lines;
}

abbrev pub decreases-loop-parted : goal.decreases-loop-parted
decreases-loop-parted l = length (chars l.rest)
