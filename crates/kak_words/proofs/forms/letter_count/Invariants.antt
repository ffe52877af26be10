use Rattle.std.proofs.Common.{◌≡◌, ◌+◌, drop}
use Rattle.kak_words.specs.Forms.{letter_count}
use Rattle.kak_words.proofs.forms.letter_count.Given as goal

abbrev pub invariant-loop-i : goal.invariant-loop-i
invariant-loop-i l = l.i + letter_count (drop l.i l.text) ≡ letter_count l.text
