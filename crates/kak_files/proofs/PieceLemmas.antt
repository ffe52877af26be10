-- Pieces of the bytes that were written to files in memory.
use Rattle.std.proofs.Common.{◌≡◌, ℕ, ◌+◌, ◌≤◌, Bool, true, false, ◌&&◌, List, [], ◌∷◌, ◌++◌, length, map, take, drop, refl, ap, ◌∙◌, arith}
use Rattle.std.proofs.lemmas.Bool.{leb-true, le-leb}
use Rattle.std.proofs.lemmas.List.{take-append-le, drop-append-le, length-append, length-drop}
use Rattle.std.proofs.Math.Seq.{drop-append_seam, take-append_seam, drop-append-add, take-length}
use Rattle.kak_files.specs.Files.{Holds}
use Rattle.kak_files.specs.declared.kept.MemFile.{MemFile}
use Rattle.kak_files.specs.declared.kept.WritePiece.{WritePiece}
use Rattle.kak_files.specs.Memory.{opening_row, written_row, held_rows, is_piece_within, are_within}

and_left : (a b : Bool) → (a && b) ≡ true → a ≡ true
and_left true b e = refl
and_left false b e = e

and_right : (a b : Bool) → (a && b) ≡ true → b ≡ true
and_right true b e = e
and_right false b e = cc

and_both : (a b : Bool) → a ≡ true → b ≡ true → (a && b) ≡ true
and_both true b e f = f
and_both false b e f = e

piece-end : (total : ℕ) (piece : WritePiece) → is_piece_within total piece ≡ true → piece.at + piece.name + piece.count ≤ total
piece-end total piece within = leb-true (piece.at + piece.name + piece.count) total within

piece-more : (n m : ℕ) (piece : WritePiece) → n ≤ m → is_piece_within n piece ≡ true → is_piece_within m piece ≡ true
piece-more n m piece more within = le-leb (piece.at + piece.name + piece.count) m (omega (arith, piece-end n piece within))

-- pieces among some bytes are among more
pub within-more : (n m : ℕ) (pieces : List WritePiece) → n ≤ m → are_within n pieces ≡ true → are_within m pieces ≡ true
within-more n m [] more within = refl
within-more n m (piece ∷ pieces) more within = and_both (is_piece_within m piece) (are_within m pieces)
    (piece-more n m piece more (and_left (is_piece_within n piece) (are_within n pieces) within))
    (within-more n m pieces more (and_right (is_piece_within n piece) (are_within n pieces) within))

-- a run that lies among some bytes is the same behind more
run-kept : (at count : ℕ) (bytes more : List ℕ) → at + count ≤ length bytes → take count (drop at (bytes ++ more)) ≡ take count (drop at bytes)
run-kept at count bytes more fits =
    ap (take count) (drop-append-le at bytes more (omega arith))
    ∙ take-append-le count (drop at bytes) more (omega (arith, length-drop at bytes))

row-kept : (bytes more : List ℕ) (piece : WritePiece) → is_piece_within (length bytes) piece ≡ true → written_row (bytes ++ more) piece ≡ written_row bytes piece
row-kept bytes more piece within =
    let fits = piece-end (length bytes) piece within in
    ap (λ name. record { name = name; content = Holds (take piece.count (drop (piece.at + piece.name) (bytes ++ more))) }) (run-kept piece.at piece.name bytes more (omega arith))
    ∙ ap (λ held. record { name = take piece.name (drop piece.at bytes); content = Holds held }) (run-kept (piece.at + piece.name) piece.count bytes more fits)

rows-kept : (bytes more : List ℕ) (pieces : List WritePiece) → are_within (length bytes) pieces ≡ true → map (written_row (bytes ++ more)) pieces ≡ map (written_row bytes) pieces
rows-kept bytes more [] within = refl
rows-kept bytes more (piece ∷ pieces) within =
    ap (λ row. row ∷ map (written_row (bytes ++ more)) pieces) (row-kept bytes more piece (and_left (is_piece_within (length bytes) piece) (are_within (length bytes) pieces) within))
    ∙ ap (λ rows. written_row bytes piece ∷ rows) (rows-kept bytes more pieces (and_right (is_piece_within (length bytes) piece) (are_within (length bytes) pieces) within))

-- what is held is the same where more bytes stand behind
pub held-kept : (bytes more now : List ℕ) (pieces : List WritePiece) (opening : List MemFile) → now ≡ bytes ++ more → are_within (length bytes) pieces ≡ true → held_rows now pieces opening ≡ held_rows bytes pieces opening
held-kept bytes more now pieces opening grown within =
    ap (λ b. map (written_row b) pieces ++ map opening_row opening) grown
    ∙ ap (λ rows. rows ++ map opening_row opening) (rows-kept bytes more pieces within)

pub within-kept : (bytes more now : List ℕ) (pieces : List WritePiece) → now ≡ bytes ++ more → are_within (length bytes) pieces ≡ true → are_within (length now) pieces ≡ true
within-kept bytes more now pieces grown within = within-more (length bytes) (length now) pieces (omega (arith, ap length grown, length-append bytes more)) within

-- the piece of a name and what is written behind all bytes
abbrev piece_behind : List ℕ → List ℕ → List ℕ → WritePiece
piece_behind bytes name text = record { at = length bytes; name = length name; count = length text }

row-behind : (bytes name text : List ℕ) → written_row (bytes ++ (name ++ text)) (piece_behind bytes name text) ≡ record { name = name; content = Holds text }
row-behind bytes name text =
    ap (λ n. record { name = n; content = Holds (take (length text) (drop (length bytes + length name) (bytes ++ (name ++ text)))) })
    (ap (take (length name)) (drop-append_seam bytes (name ++ text)) ∙ take-append_seam name text)
    ∙ ap (λ held. record { name = name; content = Holds held })
    (ap (take (length text)) (drop-append-add bytes (name ++ text) (length name) ∙ drop-append_seam name text) ∙ take-length text)

module _ (bytes name text now : List ℕ) (pieces : List WritePiece) (from : ℕ) (begins : from ≡ length bytes) (grown : now ≡ bytes ++ (name ++ text)) (within : are_within (length bytes) pieces ≡ true) where
  -- what is held where a name and its bytes are put before all others
  pub held-added : (opening : List MemFile) → held_rows now (record { at = from; name = length name; count = length text } ∷ pieces) opening ≡ record { name = name; content = Holds text } ∷ held_rows bytes pieces opening
  held-added opening =
      ap (λ n. written_row now (record { at = n; name = length name; count = length text }) ∷ held_rows now pieces opening) begins
      ∙ ap (λ row. row ∷ held_rows now pieces opening) (ap (λ b. written_row b (piece_behind bytes name text)) grown ∙ row-behind bytes name text)
      ∙ ap (λ rows. record { name = name; content = Holds text } ∷ rows) (held-kept bytes (name ++ text) now pieces opening grown within)

  pub within-added : are_within (length now) (record { at = from; name = length name; count = length text } ∷ pieces) ≡ true
  within-added =
      and_both (is_piece_within (length now) (record { at = from; name = length name; count = length text })) (are_within (length now) pieces)
      (le-leb (from + length name + length text) (length now) (omega (arith, begins, ap length grown, length-append bytes (name ++ text), length-append name text)))
      (within-kept bytes (name ++ text) now pieces grown within)
