use Rattle.std.proofs.Common.{◌∙◌}
use Rattle.std.proofs.lemmas.Result.{err_from_is_err_and}
use Rattle.session_replay.proofs.WritingLemmas.{written-at, none-next, written-next, written-front}
use Rattle.session_replay.proofs.reports.write_reports.Goals as goal

pub returns-in_err-write_report-clause-sends : goal.returns-in_err-write_report-clause-sends
returns-in_err-write_report-clause-sends g c =
    let p = err_from_is_err_and c.from_residual.result c.from_residual.ensures.1 in
    let w = written-at (λ client. client.report.items) c.args.clients.now c.loop-client.client-index c.client-item.result c.as_slice.result.now c.loop-client-test.true c.client-item.is c.as_slice.ensures.value c.loop-client.invariant in
    rw (p.1, p.2) (c.in_err-write_report.ensures.sends.0, written-front (g.K.Sink.outlet c.write_report.new.sink) _ _ w c.in_err-write_report.ensures.sends.1)

pub returns-in_err-write_report-clause-nothing : goal.returns-in_err-write_report-clause-nothing
returns-in_err-write_report-clause-nothing g c = λ e.
    let w = written-at (λ client. client.report.items) c.args.clients.now c.loop-client.client-index c.client-item.result c.as_slice.result.now c.loop-client-test.true c.client-item.is c.as_slice.ensures.value c.loop-client.invariant in
    c.in_err-write_report.ensures.nothing (none-next _ _ w e) ∙ c.loop-client.invariant.nothing e

pub returns-in_err-write_report-clause-no_fault : goal.returns-in_err-write_report-clause-no_fault
returns-in_err-write_report-clause-no_fault g c = λ e.
    let w = written-at (λ client. client.report.items) c.args.clients.now c.loop-client.client-index c.client-item.result c.as_slice.result.now c.loop-client-test.true c.client-item.is c.as_slice.ensures.value c.loop-client.invariant in
    cc (c.in_err-write_report.ensures.no_fault (none-next _ _ w e))

pub loop-client-preserved : goal.loop-client-preserved
loop-client-preserved g c =
    let w = written-at (λ client. client.report.items) c.args.clients.now c.loop-client.client-index c.client-item.result c.as_slice.result.now c.loop-client-test.true c.client-item.is c.as_slice.ensures.value c.loop-client.invariant in
    written-next _ _ _ w c.in_ok-write_report.ensures.sends c.in_ok-write_report.ensures.counts c.write_report.ensures.nothing
