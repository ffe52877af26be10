-- What serves a link may cross threads: the tokens of a desk do where its object does, and an engine does where its outside
-- does. For a world this is found in parts, since a search through all of it at once ends too soon.
use denote.RattleType.{RattleType}
use denote.Param.Send.{IsSend, IsSync, sendable, owning_send, part_keyless}
use denote.Struct.Struct.{Struct}
use denote.Struct.Owning.{shape}
use Rattle.std.proofs.Crossing.{frees, crosses as std_crosses}
use Rattle.std.specs.contracts.alloc.Global as Heap
use Rattle.std.specs.contracts.impls.GlobalAllocator.TheImpl.{ghosts}
use Rattle.atomic_table.specs.declared.shared.TableRule.{Ghosts}
use Rattle.atomic_table.specs.contracts.shared.Seat as Seat
use Rattle.atomic_table.specs.contracts.shared.Shared as Shared
use Rattle.atomic_table.specs.contracts.send_lease.SendLease as SendLease
use Rattle.atomic_table.proofs.Rights.{right_send}
use Rattle.atomic_table.proofs.Sent.{seat_keyless, owns_keyless, shares_keyless}
use Rattle.buffer_store.specs.contracts.buffer.Buffer as Store
use Rattle.list_shelf.specs.contracts.shelf.Shelf as Shelf
use Rattle.kak_engine.specs.contracts.resting.RestingWorld as RestingWorld
use Rattle.kak_engine.specs.contracts.trace.Trace as Trace
use Rattle.kak_text.specs.contracts.chars.Chars as Chars
use Rattle.kak_world.specs.contracts.buffer.WorldBuffer as Buffer
use Rattle.kak_world.specs.contracts.own.Own as Own
use Rattle.kak_world.specs.contracts.clients.Clients as Clients
use Rattle.kak_world.specs.contracts.world.World as World
use Rattle.kak_world.specs.declared.turn.Turn as turns
use Rattle.regex_ports.specs.declared.pattern.Pattern as patterns
use Rattle.session_events.specs.contracts.event.Entry as Entry
use Rattle.session_server.proofs.PatternsCrossing.{face_send, patterns_cross}

pub seat_send : (S V : RattleType) → IsSend S → IsSend (Seat.the_row S V)
seat_send S V s = record { owned = λ d vs. ((λ vss. (tt, ((λ uss. (tt, tt)), tt))), seat_keyless S s V.coded.code d.table_id d.id d.me); leaving = λ k f vs. tt }

module _ (S V K P : RattleType) (g : Ghosts P.Denot S.Denot V.Denot K.Denot) (s : IsSend S) where
  pub shared_send : IsSend (Shared.the_row S V K P g)
  shared_send = record { owned = λ d vs. ((λ vss. (tt, (tt, (tt, ((λ uss. (tt, tt)), tt))))), owns_keyless S s V.coded.code d.table_id (g.holds d.key) d.words d.slots); leaving = λ k f vs. tt }

  pub shared_sync : IsSync (Shared.the_row S V K P g)
  shared_sync = let fields : IsSync (Struct (shape (Shared.the_type S V K P g))) = search sendable depth 20 in
      record { shared = λ d b o ν. (fields.shared (d.words, (d.slots, (tt, tt))) b o ν, shares_keyless S s V.coded.code d.table_id (g.holds d.key) d.words d.slots ν) }

pub lease_send : (T : RattleType) → IsSend (SendLease.the_row T Heap.the_row ghosts)
lease_send T = right_send T Heap.the_row ghosts frees

pub lease_sync : (T : RattleType) → IsSync (SendLease.the_row T Heap.the_row ghosts)
lease_sync T = record { shared = λ d b o ν q. part_keyless (SendLease.the_row T Heap.the_row ghosts) (lease_send T) q d b o }

store_send : IsSend Store.the_row
store_send = search (sendable, std_crosses) depth 60 fits 20000

shelf_send : IsSend Shelf.the_row
shelf_send = search (sendable, std_crosses) depth 60 fits 20000

buffer_send : IsSend Buffer.the_row
buffer_send = search (sendable, std_crosses, store_send, shelf_send) depth 60 fits 20000

chars_send : IsSend Chars.the_row
chars_send = search (sendable, std_crosses) depth 60 fits 20000

own_send : IsSend (Own.the_field).row
own_send = search (chars_send, face_send, sendable, std_crosses) depth 60 fits 20000

clients_send : IsSend Clients.the_row
clients_send = search (own_send, sendable, std_crosses) depth 60 fits 20000

-- whatever its patterns are, where they may, and in whatever step it is
module _ (P T : RattleType) (s : IsSend P) (g : patterns.Ghosts P.Denot) (t : turns.Ghosts T.Denot) where
  pub world_send : IsSend (World.the_row P T g t)
  world_send = search (sendable, std_crosses, buffer_send, clients_send, patterns_cross) depth 60 fits 20000

pub resting_send : (P : RattleType) → IsSend P → (g : patterns.Ghosts P.Denot) → IsSend (RestingWorld.the_row P g)
resting_send P s g = search (sendable, std_crosses, world_send) depth 60 fits 20000

pub entry_send : IsSend Entry.the_row
entry_send = search (sendable, std_crosses) depth 60 fits 20000

-- what contracts alone see of an outside
pub trace_send : IsSend Trace.the_row
trace_send = owning_send Trace.the_type tt (λ d. tt) (λ k x w. tt)

-- the parts of what crosses with a job
pub ruleset crosses = (sendable, std_crosses, patterns_cross, seat_send, shared_send, shared_sync, lease_send, lease_sync, world_send, resting_send, entry_send, trace_send)
