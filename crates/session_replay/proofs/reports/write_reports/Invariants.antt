use Rattle.std.proofs.Common.{drop}
use Rattle.std.specs.List.{flat_map}
use Rattle.session_replay.proofs.WritingLemmas.{HasWritten}
use Rattle.session_replay.proofs.reports.write_reports.Given as goal

abbrev pub invariant-loop-client : goal.invariant-loop-client
invariant-loop-client g l =
    HasWritten (g.K.Sink.outlet l.fn.sink) (g.K.Sink.outlet l.sink) (flat_map (λ client. client.report.items) l.clients) (flat_map (λ client. client.report.items) (drop l.client-index l.clients))
