use Rattle.std.proofs.Common.{◌≡◌, ◌∷◌, drop, true, false}
use Rattle.kak_words.specs.Closing.{plain}
use Rattle.kak_words.proofs.ClosingLemmas.{before_split}
use Rattle.kak_words.proofs.closing.plain.Given as goal

abbrev pub invariant-loop-i : goal.invariant-loop-i
invariant-loop-i l =
    before_split l.inside.items (plain false l.literal (drop l.i l.behind)) ≡ plain true false (l.fn.first ∷ l.behind)
