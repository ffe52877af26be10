-- What ports over memory tell, and what their calls answer and leave.
use Rattle.std.specs.Prelude.{ℕ, ◌-◌, ◌/◌, min, nat_le, Bool, not, ◌||◌, List, [], ◌++◌, length, take, drop, if◌then◌else◌, Some}
use Rattle.kak_ports.specs.declared.kept.MemSource.{MemSource}
use Rattle.kak_ports.specs.declared.kept.MemSink.{MemSink}
use Rattle.kak_ports.specs.declared.source.Took.{Took}
use Rattle.kak_ports.specs.declared.source.Took.TheVariants.{Got, End, Failed as TakeFailed}
use Rattle.kak_ports.specs.declared.sink.Put.{Put}
use Rattle.kak_ports.specs.declared.sink.Put.TheVariants.{Done, Failed as PutFailed}
use Rattle.kak_ports.specs.Ports.{Inlet, Outlet}
use Rattle.kak_ports.specs.Plans.{is_planned}

-- a source over memory tells all that is left
abbrev pub memory_inlet : MemSource → Inlet
memory_inlet source = record { left = Some (drop source.at source.bytes); most = source.piece; faults = source.faults }

-- what a take with room for so many bytes gives of what is left: all, where that fits and is no more than a piece
abbrev pub piece_of : List ℕ → ℕ → ℕ → Took
piece_of [] room piece = End
piece_of left room piece = Got (min (min (length left) room) piece)

-- what a take with room for so many bytes answers
abbrev pub taken_from : MemSource → ℕ → Took
taken_from source room = if is_planned source.plan then TakeFailed else piece_of (drop source.at source.bytes) room source.piece

-- a sink into memory tells all that was put
abbrev pub memory_outlet : MemSink → Outlet
memory_outlet sink = record { told = Some sink.bytes.items; faults = sink.faults }

-- how many bytes there is still room for
abbrev pub room_left : MemSink → ℕ
room_left sink = sink.room - length sink.bytes.items

-- whether a put of so many bytes fails: it is planned to, or they don't fit
abbrev pub fails_at : MemSink → ℕ → Bool
fails_at sink count = is_planned sink.plan || not (nat_le count (room_left sink))

-- what a put of some bytes answers
abbrev pub put_into : MemSink → List ℕ → Put
put_into sink bytes = if fails_at sink (length bytes) then PutFailed else Done

-- what is held behind a put of some bytes: where it fails, their first half is added, as far as there is room
abbrev pub held_behind : MemSink → List ℕ → List ℕ
held_behind sink bytes = sink.bytes.items ++ (if fails_at sink (length bytes) then take (min (room_left sink) (length bytes / 2)) bytes else bytes)
