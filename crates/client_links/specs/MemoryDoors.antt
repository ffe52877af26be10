-- What an acceptor over memory tells.
use Rattle.std.specs.Prelude.{◌≡◌, Bool, true, false, List, map, Some}
use Rattle.client_links.specs.declared.acceptor.Next.{Next}
use Rattle.client_links.specs.declared.acceptor.Next.TheVariants.{Came, Idle, Failed as NextFailed}
use Rattle.client_links.specs.declared.kept.MemLink.{MemLink}
use Rattle.client_links.specs.declared.waiting.MemAcceptor.{MemAcceptor}
use Rattle.client_links.specs.Wires.{Wire}
use Rattle.client_links.specs.Doors.{Door}
use Rattle.client_links.specs.Memory.{memory_wire}

-- what some links tell
abbrev pub wires_of : List MemLink → List Wire
wires_of links = map (λ link. memory_wire link) links

-- all that an acceptor over memory tells
abbrev pub memory_door : MemAcceptor → Door
memory_door acceptor = record {
  listens = acceptor.session;
  came = Some acceptor.came;
  to_come = Some (wires_of acceptor.links.items);
  faults = acceptor.calls.faults;
}

-- accepting fails where it is planned to, and only there
abbrev pub NextIsPlanned : {L : Type 0} → Next L → Bool → Type 0
NextIsPlanned NextFailed planned = planned ≡ true
NextIsPlanned (Came link) planned = planned ≡ false
NextIsPlanned Idle planned = planned ≡ false
