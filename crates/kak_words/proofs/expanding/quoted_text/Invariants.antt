use Rattle.std.proofs.Common.{drop, [], string_bytes}
use Rattle.kak_words.specs.Results.{all_of}
use Rattle.kak_words.specs.Expanding.{piece_text}
use Rattle.kak_words.proofs.ExpandingLemmas.{StillGives}
use Rattle.kak_words.proofs.expanding.quoted_text.Given as goal

abbrev pub invariant-loop-piece : goal.invariant-loop-piece
invariant-loop-piece g l =
    StillGives [] (string_bytes l.text) (all_of (piece_text (g.L.Lookup.table l.table)) (drop l.piece-index l.pieces)) (all_of (piece_text (g.L.Lookup.table l.table)) l.pieces)
