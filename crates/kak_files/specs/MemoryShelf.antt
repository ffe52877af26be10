-- What files in memory tell.
use Rattle.std.specs.Prelude.{◌≡◌, ℕ, ◌+◌, ◌-◌, Bool, true, false, not, ◌||◌, nat_le, List, length, map, if◌then◌else◌, Some}
use Rattle.kak_ports.specs.Plans.{is_planned}
use Rattle.kak_ports.specs.declared.sink.Put.{Put}
use Rattle.kak_ports.specs.declared.sink.Put.TheVariants.{Done, Failed as PutFailed}
use Rattle.kak_files.specs.declared.files.FileRead.{FileRead}
use Rattle.kak_files.specs.declared.files.FileRead.TheVariants.{Failed as ReadFailed}
use Rattle.kak_files.specs.declared.kept.MemFiles.{MemFiles}
use Rattle.kak_files.specs.Files.{FileRow, Shelf}
use Rattle.kak_files.specs.Memory.{opening_row, held_rows, room_taken}

-- what they held when they were made
abbrev pub opening_of : MemFiles → List FileRow
opening_of files = map opening_row files.opening.items

-- what they hold
abbrev pub held_by : MemFiles → List FileRow
held_by files = held_rows files.bytes.items files.pieces.items files.opening.items

-- all that they tell: a write that fails leaves the file as it was
abbrev pub shelf_of : MemFiles → Shelf
shelf_of files = record { told = Some (record { opening = opening_of files; held = held_by files; spare = true }); faults = files.faults }

-- whether a write of a name and bytes of these lengths has room
abbrev pub has_room : MemFiles → ℕ → ℕ → Bool
has_room files name count = nat_le (room_taken (name + count) 1) (files.room - room_taken (length files.bytes.items) (length files.pieces.items))

-- what a write of a name and bytes of these lengths answers: it fails where it is planned to or has no room
abbrev pub written_to : MemFiles → ℕ → ℕ → Put
written_to files name count = if is_planned files.writes || not (has_room files name count) then PutFailed else Done

-- a read fails where it is planned to, and only there
abbrev pub ReadIsPlanned : FileRead → Bool → Type 0
ReadIsPlanned ReadFailed planned = planned ≡ true
ReadIsPlanned answer planned = planned ≡ false
