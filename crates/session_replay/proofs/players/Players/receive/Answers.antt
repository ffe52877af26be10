use Rattle.std.proofs.Common.{ap, refl, ◌∙◌, sym, subst}
use Rattle.std.proofs.lemmas.Result.{err_from_is_err_and}
use Rattle.session_turns.specs.Histories.{own}
use Rattle.session_events.specs.Meaning.{rules}
use Rattle.session_replay.specs.Settings.{setting}
use Rattle.session_replay.specs.Players.{IsAt}
use Rattle.session_replay.proofs.BoxLemmas.{shown-there}
use Rattle.session_replay.proofs.PlayingLemmas.{never-came, grows-then}
use Rattle.session_replay.proofs.PlayersLemmas.{held-others, seat-others, place-set, report-set, report-at, always-ok}
use Rattle.session_replay.proofs.players.Players.receive.Goals as goal

pub returns-in_err-leaving-clause-comes : goal.returns-in_err-leaving-clause-comes
returns-in_err-leaving-clause-comes g c =
    let p = err_from_is_err_and c.from_residual.result c.from_residual.ensures.1 in
    let away = ap (own (rules g.S.Seat.gives) c.args.who) c.in_err-leaving.ensures.refused ∙ c.requires.comes.away in
    rw (p.1, p.2) (record {
      at = subst (λ q. IsAt (setting g.S.Seat.gives g.Q.Reader.reads) q c.args.who (g.S.Seat.seated c.join.new.seats).seen) (sym c.requires.comes.at) away;
      came = tt;
      here = tt;
      got = never-came _ c.args.who (g.S.Seat.seated c.join.new.seats) _ _ away c.in_err-leaving.ensures.stops c.requires.comes.boxed c.requires.comes.untold;
      boxed = c.requires.comes.boxed;
      report = refl;
      kind = refl;
    })

pub returns-clause-alone : goal.returns-clause-alone
returns-clause-alone g c = record {
  grows = grows-then _ c.args.who _ _ _ c.in_ok-leaving.ensures.grows c.open_for.ensures.grows;
  others = held-others _ c.args.self.now.board.seats.items _ c.args.self.now.clients.items c.args.who _
      (λ other differs. seat-others c.args.who other c.args.self.now.board.seats.items _ differs c.open_for.ensures.only.others);
}

pub returns-clause-comes : goal.returns-clause-comes
returns-clause-comes g c =
    let here = place-set c.args.self.now.clients.items c.args.who _ c.requires.inside in
    record {
      at = subst (λ q. IsAt (setting g.S.Seat.gives g.Q.Reader.reads) q c.args.who (g.S.Seat.seated c.open_for.new.seats).seen) (sym here) c.open_for.ensures.here;
      came = always-ok c.open_for.result here;
      here = always-ok c.open_for.result c.open_for.ensures.here;
      got = c.open_for.ensures.got;
      boxed = shown-there _ _ c.open_for.ensures.only.taken;
      report = report-set c.args.self.now.clients.items c.args.who _ c.requires.inside
          ∙ sym (report-at c.args.self.now.clients.items c.args.who c.index_mut.result.now c.requires.inside c.index_mut.ensures.value);
      kind = c.open_for.ensures.only.kind;
    }
