-- What a link over streams is seen as, and an acceptor that tells nothing of the links that come.
use Rattle.std.specs.Prelude.{◌≢◌, ℕ, List, None, Some}
use Rattle.std.specs.declared.option.Option.{Option}
use Rattle.kak_ports.specs.Ports.{Outlet}
use Rattle.client_links.specs.Wires.{Wire}
use Rattle.client_links.specs.Doors.{Door}

-- the bytes of a stream, where it told them when the link began
abbrev pub told_since : Option (List ℕ) → Option (List ℕ) → Option (List ℕ)
told_since None now = None
told_since (Some first) now = now

-- a stream that told its bytes when the link began tells them still
abbrev pub StaysTold : Option (List ℕ) → Option (List ℕ) → Type 0
StaysTold first now = first ≢ None → now ≢ None

-- what a stream holds, as a sink that never failed
abbrev pub faultless_outlet : Option (List ℕ) → Outlet
faultless_outlet told = record { told = told; faults = 0 }

-- a link of whose streams this is told, and of which so many receivings and sendings failed
abbrev pub stream_wire : (left sent : Option (List ℕ)) → (read_faults send_faults : ℕ) → Wire
stream_wire left sent read_faults send_faults = record { received = None; left = left; pauses = None; read_faults = read_faults; outlet = record { told = sent; faults = send_faults } }

-- an acceptor that listens for a session, or for none, and failed so often
abbrev pub untold_door : Option (List ℕ) → ℕ → Door
untold_door session faults = record { listens = session; came = None; to_come = None; faults = faults }
