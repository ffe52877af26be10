use Rattle.std.proofs.Common.{refl, ◌∙◌}
use Rattle.std.proofs.lemmas.Result.{err_from_is_err_and}
use Rattle.session_lines.proofs.StayingLemmas.{stays-still, stays-then, whole-still, whole-then}
use Rattle.session_lines.proofs.ReadingLemmas.{begin-reading, told, line-went, line-left, line-stopped, last-went, last-left, last-stopped, input-ended, input-failed, input-full, line-lost, line-shorter}
use Rattle.session_lines.proofs.reading.play_input.Goals as goal

pub lines-init : goal.lines-init
lines-init g c = record { stays = stays-still _ c.requires; kept = refl; whole = λ none. none; so_far = λ opens. begin-reading _ _ _ _ _ c.new-reader.result c.new-reader.ensures.taken c.new-reader.ensures.pending; faults = refl; counted = refl }

pub returns-in_err-next-clause-plays : goal.returns-in_err-next-clause-plays
returns-in_err-next-clause-plays g c =
    let p = err_from_is_err_and c.from_residual.result c.from_residual.ensures.1 in
    rw (p.1, p.2) (λ opens. (line-lost _ _ _ _ _ _ _ _ _ _ _ _ c.lines.invariant.stays.same c.in_err-next.ensures.most c.in_err-next.ensures.reads (c.lines.invariant.so_far opens)).0)

pub returns-in_err-play_line-in-Line-clause-plays : goal.returns-in_err-play_line-in-Line-clause-plays
returns-in_err-play_line-in-Line-clause-plays g c =
    let p = err_from_is_err_and c.from_residual-in_err-play_line-in-Line.result c.from_residual-in_err-play_line-in-Line.ensures.1 in
    rw (p.1, p.2) (λ opens. (line-stopped _ _ _ _ _ _ _ _ _ _ _ _ _ _ _ c.lines.invariant.stays.same c.line.ensures c.next.ensures.most (told _ _ _ _ _ _ c.in-Line.is c.in_ok-next.ensures.reads) (c.lines.invariant.so_far opens) (c.in_err-play_line-in-Line.ensures.serves opens)).0)

pub returns-then-branch-clause-plays : goal.returns-then-branch-clause-plays
returns-then-branch-clause-plays g c = λ opens. (line-left _ _ _ _ _ _ _ _ _ _ _ _ _ _ _ c.if-branch.true c.lines.invariant.stays.same c.line.ensures c.next.ensures.most (told _ _ _ _ _ _ c.in-Line.is c.in_ok-next.ensures.reads) (c.lines.invariant.so_far opens) (c.in_ok-play_line-in-Line.ensures.serves opens)).0

pub lines-smaller : goal.lines-smaller
lines-smaller g c = line-shorter _ _ _ _ (told _ _ _ _ _ _ c.in-Line.is c.in_ok-next.ensures.reads)

pub lines-preserved : goal.lines-preserved
lines-preserved g c = record {
  stays = stays-then c.lines.invariant.stays c.play_line.ensures.stays;
  kept = c.play_line.ensures.kept ∙ c.lines.invariant.kept;
  whole = whole-still c.lines.invariant.whole c.in_ok-play_line-in-Line.ensures.whole;
  so_far = λ opens. (line-went _ _ _ _ _ _ _ _ _ _ _ _ _ _ _ c.if-branch.false c.lines.invariant.stays.same c.line.ensures c.next.ensures.most (told _ _ _ _ _ _ c.in-Line.is c.in_ok-next.ensures.reads) (c.lines.invariant.so_far opens) (c.in_ok-play_line-in-Line.ensures.serves opens)).0;
  faults = let f = rw c.in-Line.is at c.in_ok-next.ensures.fault in f ∙ c.lines.invariant.faults;
  counted = c.in_ok-play_line-in-Line.ensures.cause ∙ c.lines.invariant.counted;
}

pub returns-in_err-leaving-in-Last-clause-plays : goal.returns-in_err-leaving-in-Last-clause-plays
returns-in_err-leaving-in-Last-clause-plays g c =
    let p = err_from_is_err_and c.from_residual-in_err-leaving-in-Last.result c.from_residual-in_err-leaving-in-Last.ensures.1 in
    rw (p.1, p.2) (λ opens. (last-stopped _ _ _ _ _ _ _ _ _ _ _ _ _ _ _ c.lines.invariant.stays.same c.line-in-Last.ensures c.next.ensures.most (told _ _ _ _ _ _ c.in-Last.is c.in_ok-next.ensures.reads) (c.lines.invariant.so_far opens) (c.in_err-leaving-in-Last.ensures.serves opens)).0)

pub returns-then-leaving-clause-plays : goal.returns-then-leaving-clause-plays
returns-then-leaving-clause-plays g c = λ opens. (last-left _ _ _ _ _ _ _ _ _ _ _ _ _ _ _ c.if-leaving.true c.lines.invariant.stays.same c.line-in-Last.ensures c.next.ensures.most (told _ _ _ _ _ _ c.in-Last.is c.in_ok-next.ensures.reads) (c.lines.invariant.so_far opens) (c.in_ok-leaving-in-Last.ensures.serves opens)).0

pub returns-in-Last-clause-plays : goal.returns-in-Last-clause-plays
returns-in-Last-clause-plays g c = λ opens. (last-went _ _ _ _ _ _ _ _ _ _ _ _ _ _ _ c.if-leaving.false c.lines.invariant.stays.same c.line-in-Last.ensures c.next.ensures.most (told _ _ _ _ _ _ c.in-Last.is c.in_ok-next.ensures.reads) (c.lines.invariant.so_far opens) (c.in_ok-leaving-in-Last.ensures.serves opens)).0

pub returns-in-Ended-clause-plays : goal.returns-in-Ended-clause-plays
returns-in-Ended-clause-plays g c = λ opens. (input-ended _ _ _ _ _ _ _ _ _ _ _ c.next.ensures.most (told _ _ _ _ _ _ c.in-Ended.is c.in_ok-next.ensures.reads) (c.lines.invariant.so_far opens)).0

pub returns-in-ReadFault-clause-plays : goal.returns-in-ReadFault-clause-plays
returns-in-ReadFault-clause-plays g c = λ opens. (input-failed _ _ _ _ _ _ _ _ _ _ _ c.next.ensures.most (told _ _ _ _ _ _ c.in-ReadFault.is c.in_ok-next.ensures.reads) (c.lines.invariant.so_far opens)).0

pub returns-in-Full-clause-plays : goal.returns-in-Full-clause-plays
returns-in-Full-clause-plays g c = λ opens. (input-full _ _ _ _ _ _ _ _ _ _ _ c.next.ensures.most (told _ _ _ _ _ _ c.in-Full.is c.in_ok-next.ensures.reads) (c.lines.invariant.so_far opens)).0

pub returns-in_err-play_line-in-Line-clause-whole : goal.returns-in_err-play_line-in-Line-clause-whole
returns-in_err-play_line-in-Line-clause-whole g c =
    let p = err_from_is_err_and c.from_residual-in_err-play_line-in-Line.result c.from_residual-in_err-play_line-in-Line.ensures.1 in
    rw (p.1, p.2) (whole-then _ _ _ _ c.lines.invariant.whole c.in_err-play_line-in-Line.ensures.whole)

pub returns-in_err-leaving-in-Last-clause-whole : goal.returns-in_err-leaving-in-Last-clause-whole
returns-in_err-leaving-in-Last-clause-whole g c =
    let p = err_from_is_err_and c.from_residual-in_err-leaving-in-Last.result c.from_residual-in_err-leaving-in-Last.ensures.1 in
    rw (p.1, p.2) (whole-then _ _ _ _ c.lines.invariant.whole c.in_err-leaving-in-Last.ensures.whole)
