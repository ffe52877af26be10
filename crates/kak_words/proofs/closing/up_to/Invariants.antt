use Rattle.std.proofs.Common.{◌≡◌, drop, false}
use Rattle.kak_words.specs.Closing.{up_to}
use Rattle.kak_words.proofs.ClosingLemmas.{before_all}
use Rattle.kak_words.proofs.closing.up_to.Given as goal

abbrev pub invariant-loop-i : goal.invariant-loop-i
invariant-loop-i l = before_all l.inside.items (up_to l.mark l.pending (drop l.i l.text)) ≡ up_to l.mark false l.text
