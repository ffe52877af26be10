-- What files in memory hold.
use Rattle.std.specs.Prelude.{ℕ, ◌+◌, ◌*◌, Bool, List, ◌++◌, map, take, drop, nat_le}
use Rattle.std.specs.List.{list_all}
use Rattle.kak_files.specs.declared.kept.MemFile.{MemFile}
use Rattle.kak_files.specs.declared.kept.WritePiece.{WritePiece}
use Rattle.kak_files.specs.Files.{Holds, FileRow}

-- a file that was there from the beginning
abbrev pub opening_row : MemFile → FileRow
opening_row file = record { name = file.name; content = Holds file.bytes }

-- a file that was written: its name, and then what it holds, are a piece of all bytes that were written
abbrev pub written_row : List ℕ → WritePiece → FileRow
written_row bytes piece = record {
  name = take piece.name (drop piece.at bytes);
  content = Holds (take piece.count (drop (piece.at + piece.name) bytes));
}

-- what is held: what was written last comes first, and what was there from the beginning last
abbrev pub held_rows : List ℕ → List WritePiece → List MemFile → List FileRow
held_rows bytes pieces opening = map (written_row bytes) pieces ++ map opening_row opening

-- a piece lies among so many bytes
abbrev pub is_piece_within : ℕ → WritePiece → Bool
is_piece_within total piece = nat_le (piece.at + piece.name + piece.count) total

abbrev pub are_within : ℕ → List WritePiece → Bool
are_within total pieces = list_all (is_piece_within total) pieces

-- how much of the room is taken by so many bytes in so many pieces: each piece takes 24 beside its bytes
abbrev pub room_taken : ℕ → ℕ → ℕ
room_taken bytes pieces = bytes + 24 * pieces
