use Rattle.std.proofs.Common.{refl, sym, ◌∙◌}
use Rattle.std.proofs.lemmas.Result.{err_from_is_err_and}
use Rattle.session_lines.proofs.ReadingLemmas.{told, line-shorter}
use Rattle.session_replay.proofs.StayingLemmas.{still-first, still-then, still-done, still-stop}
use Rattle.session_replay.proofs.PhaseLemmas.{reading-begins, reading-somewhere, next-lost, line-on, line-ends, line-stopped, last-on, last-ends, last-stopped, next-ended, next-failed, next-full, fault-none, fault-by, not-some}
use Rattle.session_replay.proofs.reading.play_lines.Goals as goal

pub lines-init : goal.lines-init
lines-init g c = record { still = still-first _ _ c.args.players.now c.requires.legal; so_far = λ kinds many m. reading-begins _ _ kinds _ _ _ c.new-reader.result c.requires.new m c.new-reader.ensures.taken c.new-reader.ensures.pending; faults = refl }

pub returns-in_err-next-clause-played : goal.returns-in_err-next-clause-played
returns-in_err-next-clause-played g c =
    let p = err_from_is_err_and c.from_residual.result c.from_residual.ensures.1 in
    rw (p.1, p.2) (λ kinds many m. next-lost _ _ _ kinds _ _ _ _ _ _ _ c.in_err-next.ensures.most c.in_err-next.ensures.reads (c.lines.invariant.so_far kinds many m))

pub returns-in_err-end-in-Line-clause-played : goal.returns-in_err-end-in-Line-clause-played
returns-in_err-end-in-Line-clause-played g c =
    let p = err_from_is_err_and c.from_residual-in_err-end-in-Line.result c.from_residual-in_err-end-in-Line.ensures.1 in
    rw (p.1, p.2) (λ kinds many m.
    let s = c.lines.invariant.so_far kinds many m in
    line-stopped _ _ kinds _ _ _ _ _ _ _ _ _ _ _ c.line.ensures c.next.ensures.most (told _ _ _ _ _ _ c.in-Line.is c.in_ok-next.ensures.reads) s (c.in_err-end-in-Line.ensures.plays _ kinds s.lines (many ∙ sym c.lines.invariant.still.count) s.played))

pub returns-in-Some-clause-played : goal.returns-in-Some-clause-played
returns-in-Some-clause-played g c = λ kinds many m.
    let s = c.lines.invariant.so_far kinds many m in
    line-ends _ _ kinds _ _ _ _ _ _ _ _ _ _ _ _ c.in-Some.is c.line.ensures c.next.ensures.most (told _ _ _ _ _ _ c.in-Line.is c.in_ok-next.ensures.reads) s (c.in_ok-end-in-Line.ensures.plays _ kinds s.lines (many ∙ sym c.lines.invariant.still.count) s.played)

pub returns-in-Some-clause-fault : goal.returns-in-Some-clause-fault
returns-in-Some-clause-fault g c =
    let q = c.requires.ready in
    let s = c.lines.invariant.so_far q.kinds q.many q.moment in
    let f = rw c.in-Line.is at c.in_ok-next.ensures.fault in
    fault-by _ _ _ _ q.kinds s.lines _ _ _ _ _ _ _ c.in-Some.is (c.in_ok-end-in-Line.ensures.plays (g.S.Seat.seated c.args.players.now.seats).limit q.kinds s.lines (q.many ∙ sym c.lines.invariant.still.count) s.played) (f ∙ c.lines.invariant.faults)

pub returns-in_err-end-in-Last-clause-played : goal.returns-in_err-end-in-Last-clause-played
returns-in_err-end-in-Last-clause-played g c =
    let p = err_from_is_err_and c.from_residual-in_err-end-in-Last.result c.from_residual-in_err-end-in-Last.ensures.1 in
    rw (p.1, p.2) (λ kinds many m.
    let s = c.lines.invariant.so_far kinds many m in
    last-stopped _ _ kinds _ _ _ _ _ _ _ _ _ _ _ c.line-in-Last.ensures c.next.ensures.most (told _ _ _ _ _ _ c.in-Last.is c.in_ok-next.ensures.reads) s (c.in_err-end-in-Last.ensures.plays _ kinds s.lines (many ∙ sym c.lines.invariant.still.count) s.played))

pub returns-in-Some-2-clause-played : goal.returns-in-Some-2-clause-played
returns-in-Some-2-clause-played g c = λ kinds many m.
    let s = c.lines.invariant.so_far kinds many m in
    last-ends _ _ kinds _ _ _ _ _ _ _ _ _ _ _ _ c.in-Some-2.is c.line-in-Last.ensures c.next.ensures.most (told _ _ _ _ _ _ c.in-Last.is c.in_ok-next.ensures.reads) s (c.in_ok-end-in-Last.ensures.plays _ kinds s.lines (many ∙ sym c.lines.invariant.still.count) s.played)

pub returns-in-Some-2-clause-fault : goal.returns-in-Some-2-clause-fault
returns-in-Some-2-clause-fault g c =
    let q = c.requires.ready in
    let s = c.lines.invariant.so_far q.kinds q.many q.moment in
    let f = rw c.in-Last.is at c.in_ok-next.ensures.fault in
    fault-by _ _ _ _ q.kinds s.lines _ _ _ _ _ _ _ c.in-Some-2.is (c.in_ok-end-in-Last.ensures.plays (g.S.Seat.seated c.args.players.now.seats).limit q.kinds s.lines (q.many ∙ sym c.lines.invariant.still.count) s.played) (f ∙ c.lines.invariant.faults)

pub lines-smaller : goal.lines-smaller
lines-smaller g c = line-shorter _ _ _ _ (told _ _ _ _ _ _ c.in-Line.is c.in_ok-next.ensures.reads)

pub lines-preserved : goal.lines-preserved
lines-preserved g c = record {
  still = still-done _ _ (still-then _ _ c.lines.invariant.still c.in_ok-end-in-Line.ensures.still);
  so_far = λ kinds many m.
      let s = c.lines.invariant.so_far kinds many m in
      line-on _ _ kinds _ _ _ _ _ _ _ _ _ _ _ (not-some _ c.in_default.not-Some) c.line.ensures c.next.ensures.most (told _ _ _ _ _ _ c.in-Line.is c.in_ok-next.ensures.reads) s (c.in_ok-end-in-Line.ensures.plays _ kinds s.lines (many ∙ sym c.lines.invariant.still.count) s.played);
  faults = let f = rw c.in-Line.is at c.in_ok-next.ensures.fault in f ∙ c.lines.invariant.faults;
}

pub returns-in-Last-clause-played : goal.returns-in-Last-clause-played
returns-in-Last-clause-played g c = λ kinds many m.
    let s = c.lines.invariant.so_far kinds many m in
    last-on _ _ kinds _ _ _ _ _ _ _ _ _ _ _ (not-some _ c.in_default-2.not-Some) c.line-in-Last.ensures c.next.ensures.most (told _ _ _ _ _ _ c.in-Last.is c.in_ok-next.ensures.reads) s (c.in_ok-end-in-Last.ensures.plays _ kinds s.lines (many ∙ sym c.lines.invariant.still.count) s.played)

pub returns-in-Ended-clause-played : goal.returns-in-Ended-clause-played
returns-in-Ended-clause-played g c = λ kinds many m. next-ended _ _ kinds _ _ _ _ _ _ _ c.next.ensures.most (told _ _ _ _ _ _ c.in-Ended.is c.in_ok-next.ensures.reads) (c.lines.invariant.so_far kinds many m)

pub returns-in-ReadFault-clause-played : goal.returns-in-ReadFault-clause-played
returns-in-ReadFault-clause-played g c = λ kinds many m. next-failed _ _ kinds _ _ _ _ _ _ _ c.next.ensures.most (told _ _ _ _ _ _ c.in-ReadFault.is c.in_ok-next.ensures.reads) (c.lines.invariant.so_far kinds many m)

pub returns-in-Full-clause-played : goal.returns-in-Full-clause-played
returns-in-Full-clause-played g c = λ kinds many m. next-full _ _ kinds _ _ _ _ _ _ _ c.next.ensures.most (told _ _ _ _ _ _ c.in-Full.is c.in_ok-next.ensures.reads) (c.lines.invariant.so_far kinds many m)

pub returns-in_err-end-in-Line-clause-still : goal.returns-in_err-end-in-Line-clause-still
returns-in_err-end-in-Line-clause-still g c =
    let p = err_from_is_err_and c.from_residual-in_err-end-in-Line.result c.from_residual-in_err-end-in-Line.ensures.1 in
    rw (p.1, p.2) (still-stop _ (still-then _ _ c.lines.invariant.still c.in_err-end-in-Line.ensures.still))

pub returns-in_err-end-in-Last-clause-still : goal.returns-in_err-end-in-Last-clause-still
returns-in_err-end-in-Last-clause-still g c =
    let p = err_from_is_err_and c.from_residual-in_err-end-in-Last.result c.from_residual-in_err-end-in-Last.ensures.1 in
    rw (p.1, p.2) (still-stop _ (still-then _ _ c.lines.invariant.still c.in_err-end-in-Last.ensures.still))

pub returns-in-Some-clause-still : goal.returns-in-Some-clause-still
returns-in-Some-clause-still g c = still-done _ _ (still-then _ _ c.lines.invariant.still c.in_ok-end-in-Line.ensures.still)

pub returns-in-Some-2-clause-still : goal.returns-in-Some-2-clause-still
returns-in-Some-2-clause-still g c = still-done _ _ (still-then _ _ c.lines.invariant.still c.in_ok-end-in-Last.ensures.still)

pub returns-in-Last-clause-still : goal.returns-in-Last-clause-still
returns-in-Last-clause-still g c = still-done _ _ (still-then _ _ c.lines.invariant.still c.in_ok-end-in-Last.ensures.still)
