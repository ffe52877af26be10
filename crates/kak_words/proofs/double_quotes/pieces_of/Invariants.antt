use Rattle.std.proofs.Common.{◌≡◌, ◌≤◌, ℕ, length, string_bytes}
use Rattle.kak_words.specs.Pieces.{pieces_from, pieces_of}
use Rattle.kak_words.proofs.PieceLemmas.{pieces_before}
use Rattle.kak_words.proofs.double_quotes.pieces_of.Given as goal

abbrev pub invariant-loop-p : goal.invariant-loop-p
invariant-loop-p l =
    (n : ℕ) × (length l.rest ≤ n) × (pieces_before l.pieces.items (string_bytes l.plain) (pieces_from n l.rest) ≡ pieces_of l.text)

abbrev pub decreases-loop-p : goal.decreases-loop-p
decreases-loop-p l = length l.rest
