use Rattle.std.proofs.Common.{drop}
use Rattle.kak_words.specs.Results.{all_of}
use Rattle.kak_words.specs.Expanding.{piece_strings}
use Rattle.kak_words.proofs.ExpandingLemmas.{StillGives}
use Rattle.kak_words.proofs.expanding.push_pieces.Given as goal

abbrev pub invariant-loop-piece : goal.invariant-loop-piece
invariant-loop-piece g l =
    StillGives l.fn.out l.out (all_of (piece_strings (g.L.Lookup.table l.table)) (drop l.piece-index l.pieces)) (all_of (piece_strings (g.L.Lookup.table l.table)) l.pieces)
