-- What a link over memory tells, and what is heard over it.
use Rattle.std.specs.Prelude.{ℕ, ◌+◌, ◌==◌, min, nat_lt, List, [], ◌∷◌, take, drop, if◌then◌else◌, Some}
use Rattle.kak_ports.specs.Plans.{is_planned}
use Rattle.kak_ports.specs.Memory.{memory_outlet}
use Rattle.client_links.specs.declared.link.Heard.{Heard}
use Rattle.client_links.specs.declared.link.Heard.TheVariants.{Got, End, Idle, Failed}
use Rattle.client_links.specs.declared.kept.MemLink.{MemLink}
use Rattle.client_links.specs.Wires.{Wire}

-- how many of these pieces are empty, by their sizes
abbrev pub empty_among : List ℕ → ℕ
empty_among [] = 0
empty_among (size ∷ sizes) = (if size == 0 then 1 else 0) + empty_among sizes

-- all that a link over memory tells; each empty piece of its script is a pause
abbrev pub memory_wire : MemLink → Wire
memory_wire link = record {
  received = Some (take link.at link.bytes);
  left = Some (drop link.at link.bytes);
  pauses = Some (empty_among link.later.items);
  read_faults = link.hearing.faults;
  outlet = memory_outlet link.sent;
}

-- what is heard of later pieces of these sizes, with room for so many bytes
abbrev pub heard_later : List ℕ → ℕ → Heard
heard_later [] room = End
heard_later (size ∷ later) room = if nat_lt 0 size then Got (min size room) else Idle

-- What is heard with room for so many bytes: as much of the piece at hand as there is room for, or else of the next
-- one. Receiving fails where it is planned to.
abbrev pub heard_from : MemLink → ℕ → Heard
heard_from link room = if is_planned link.hearing.plan then Failed else (if nat_lt 0 link.piece then Got (min link.piece room) else heard_later link.later.items room)
