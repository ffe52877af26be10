use Rattle.std.proofs.Common.{◌≡◌, ◌++◌, map, drop}
use Rattle.kak_files.specs.Files.{content_of}
use Rattle.kak_files.specs.Memory.{opening_row, written_row}
use Rattle.kak_files.proofs.kept.MemFiles.written.Given as goal

abbrev pub invariant-loop-piece : goal.invariant-loop-piece
invariant-loop-piece l = content_of l.name (map (written_row l.bytes) (drop l.piece-index l.piece-items) ++ map opening_row l.self.opening.items) ≡ content_of l.name (map (written_row l.bytes) l.piece-items ++ map opening_row l.self.opening.items)
