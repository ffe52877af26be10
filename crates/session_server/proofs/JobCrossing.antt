-- The job of a connection may cross threads where its link, its outside and its gate may, and so may the pass that it gives
-- back. Each part is found by itself, since a search through all of a job at once ends too soon.
use denote.RattleType.{RattleType}
use denote.Param.Send.{IsSend, IsSync, sendable}
use denote.Param.SendFields.{declared_send, as_row_send}
use denote.Struct.Field.{Field, row_field}
use Rattle.std.specs.contracts.option.Option as Option
use Rattle.std.proofs.Crossing.{crosses as std_crosses, Arc-send}
use Rattle.std.proofs.MapsCrossing.{crosses as maps_cross}
use Rattle.std.specs.contracts.alloc.Global as Heap
use Rattle.std.specs.contracts.impls.GlobalAllocator.TheImpl.{ghosts as heap}
use Rattle.std.specs.contracts.string.String as String
use Rattle.std.specs.contracts.sync.Arc as Arc
use Rattle.regex_ports.specs.contracts.regular.RegexPattern as RegexPattern
use Rattle.regex_ports.specs.contracts.regular.RegexPatternPattern.TheImpl as patterns
use Rattle.session_events.specs.contracts.event.Entry as Entry
use Rattle.session_events.specs.contracts.event.Event as Event
use Rattle.session_events.specs.contracts.event.Output as Output
use Rattle.session_events.specs.contracts.fault.StepFault as StepFault
use Rattle.session_desk.specs.contracts.desk.Desk as Desk
use Rattle.session_desk.specs.contracts.tokens.Pass as Pass
use Rattle.kak_engine.specs.contracts.engine.Engine as Engine
use Rattle.kak_engine.specs.declared.outside.Outside as outsides
use Rattle.engine_desk.specs.contracts.frame.EngineFrame as EngineFrame
use Rattle.engine_desk.specs.contracts.glimpse.Glimpse as Glimpse
use Rattle.engine_desk.specs.contracts.shared.SharedEngine as SharedEngine
use Rattle.engine_desk.specs.contracts.shared.SharedEnginePlayed.TheImpl as played
use Rattle.session_server.specs.contracts.job.LinkJob as LinkJob
use Rattle.session_server.proofs.Crossing as parts
use Rattle.session_server.proofs.PatternsCrossing.{pattern_send}
use Rattle.session_server.proofs.Crossing.{seat_send, shared_send, shared_sync, lease_send, lease_sync, resting_send, entry_send}

abbrev file : Field
file = Option.the_field (String.the_row Heap.the_row heap)

heap_send : IsSend (Heap.the_field).row
heap_send = search sendable depth 60 fits 20000

file_send : IsSend file.row
file_send = search (maps_cross, sendable) depth 60 fits 20000

module _ (O : RattleType) (g : outsides.Ghosts O.Denot (RegexPattern.the_row).Denot) where
  abbrev object : RattleType
  object = SharedEngine.the_row O RegexPattern.the_row g patterns.ghosts

  abbrev frame : RattleType
  frame = EngineFrame.the_row O RegexPattern.the_row g patterns.ghosts

  abbrev desk : RattleType
  desk = Desk.the_row object Event.the_row Output.the_row StepFault.the_row Glimpse.the_row Entry.the_row frame
      (played.ghosts O RegexPattern.the_row g played.no_dict patterns.ghosts played.no_dict played.no_dict played.no_dict)

  abbrev pass : Field
  pass = Pass.the_field object Event.the_row Output.the_row StepFault.the_row Glimpse.the_row Entry.the_row frame
      (played.ghosts O RegexPattern.the_row g played.no_dict patterns.ghosts played.no_dict played.no_dict played.no_dict)

  module _ (o : IsSend O) where
    engine_send : IsSend (Engine.the_row O RegexPattern.the_row g patterns.ghosts)
    engine_send = search (sendable, std_crosses, maps_cross, resting_send, pattern_send, entry_send) depth 60 fits 20000

    object_send : IsSend object
    object_send = search (sendable, std_crosses, engine_send) depth 60 fits 20000

    desk_send : IsSend desk
    desk_send = search (object_send, shared_send, lease_send, sendable, std_crosses) depth 60 fits 20000

    desk_sync : IsSync desk
    desk_sync = search (object_send, shared_sync, lease_sync, sendable, std_crosses) depth 60 fits 20000

    pub pass_send : IsSend pass.row
    pass_send = search (object_send, seat_send, sendable, std_crosses) depth 60 fits 20000

    pub job_send : (L G S : RattleType) → IsSend L → IsSend G → IsSend (LinkJob.the_row L O G S g)
    job_send L G S l k = declared_send (LinkJob.the_type L O G S g) (
      as_row_send Heap.the_field heap_send,
      (
        as_row_send (Arc.the_field desk Heap.the_row heap) (Arc-send desk desk_send desk_sync),
        (as_row_send pass pass_send, (as_row_send file file_send, (as_row_send (row_field L) l, (as_row_send (row_field G) k, tt)))),
      ),
    )

-- for the search at a spawner whose threads run such jobs, at a depth of 60 with 20,000 fits
pub ruleset crosses = (job_send, pass_send, parts.crosses)
