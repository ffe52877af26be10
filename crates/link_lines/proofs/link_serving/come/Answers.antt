use Rattle.session_lines.proofs.OpeningLemmas.{came-only}
use Rattle.link_lines.proofs.ComingLemmas.{never-yet, not-joined}
use Rattle.link_lines.proofs.link_serving.come.Goals as goal

pub unreachable-requires-in-Err-Joined : goal.unreachable-requires-in-Err-Joined
unreachable-requires-in-Err-Joined g c =
    let why = rw c.in-Err-Joined.field-0-is at c.in-Err-Joined.ensures.why in
    not-joined g.S.Seat.gives (g.S.Seat.seated c.step.new.self) (never-yet _ _ _ c.step.ensures.same c.requires c.in-Err-Joined.ensures.err) why.2

pub returns-in-Ok-clause-new : goal.returns-in-Ok-clause-new
returns-in-Ok-clause-new g c = came-only _ _ _ c.in-Ok.output c.step.ensures.same c.requires c.in-Ok.ensures.ok

pub returns-in-Err-Full-clause-refused : goal.returns-in-Err-Full-clause-refused
returns-in-Err-Full-clause-refused g c =
    let why = rw c.in-Err-Full.field-0-is at c.in-Err-Full.ensures.why in
    (never-yet _ _ _ c.step.ensures.same c.requires c.in-Err-Full.ensures.err, why.1)

pub returns-in-Err-HistoryFull-clause-refused : goal.returns-in-Err-HistoryFull-clause-refused
returns-in-Err-HistoryFull-clause-refused g c =
    let why = rw c.in-Err-HistoryFull.field-0-is at c.in-Err-HistoryFull.ensures.why in
    (never-yet _ _ _ c.step.ensures.same c.requires c.in-Err-HistoryFull.ensures.err, why.1)

pub returns-in-Err-Broken-clause-refused : goal.returns-in-Err-Broken-clause-refused
returns-in-Err-Broken-clause-refused g c =
    let why = rw c.in-Err-Broken.field-0-is at c.in-Err-Broken.ensures.why in
    (never-yet _ _ _ c.step.ensures.same c.requires c.in-Err-Broken.ensures.err, why)

pub returns-in-Err-NoMemory-clause-refused : goal.returns-in-Err-NoMemory-clause-refused
returns-in-Err-NoMemory-clause-refused g c = never-yet _ _ _ c.step.ensures.same c.requires c.in-Err-NoMemory.ensures.err
