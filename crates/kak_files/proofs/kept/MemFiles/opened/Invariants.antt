use Rattle.std.proofs.Common.{◌≡◌, [], ◌++◌, map, drop}
use Rattle.kak_files.specs.Files.{content_of}
use Rattle.kak_files.specs.Memory.{opening_row}
use Rattle.kak_files.proofs.kept.MemFiles.opened.Given as goal

abbrev pub invariant-loop-file : goal.invariant-loop-file
invariant-loop-file l = content_of l.name (map opening_row (drop l.file-index l.file-items) ++ []) ≡ content_of l.name (map opening_row l.file-items)
