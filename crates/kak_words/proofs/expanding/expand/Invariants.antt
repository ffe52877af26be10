use Rattle.std.proofs.Common.{drop, []}
use Rattle.kak_words.specs.Results.{all_of}
use Rattle.kak_words.specs.Expanding.{word_strings}
use Rattle.kak_words.proofs.ExpandingLemmas.{StillGives}
use Rattle.kak_words.proofs.expanding.expand.Given as goal

abbrev pub invariant-loop-word : goal.invariant-loop-word
invariant-loop-word g l =
    StillGives [] l.strings (all_of (word_strings (g.L.Lookup.table l.table)) (drop l.word-index l.word-items)) (all_of (word_strings (g.L.Lookup.table l.table)) l.word-items)
