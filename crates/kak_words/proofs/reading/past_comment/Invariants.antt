use Rattle.std.proofs.Common.{◌≡◌, drop}
use Rattle.kak_words.specs.Reading.{past_comment}
use Rattle.kak_words.proofs.reading.past_comment.Given as goal

abbrev pub invariant-loop-i : goal.invariant-loop-i
invariant-loop-i l = past_comment (drop l.i l.text) ≡ past_comment l.text
