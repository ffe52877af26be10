use Rattle.std.proofs.Common.{inl, inr, refl, sym, ◌∙◌}
use Rattle.session_replay.proofs.PlayersLemmas.{client-here, not-come, away-lines, away-kind, gone-client}
use Rattle.session_replay.proofs.players.Players.take_line.Goals as goal

pub returns-in-Gone-clause-takes : goal.returns-in-Gone-clause-takes
returns-in-Gone-clause-takes g c = λ kind lines client. inr (record { stays = refl; same = refl; client = gone-client _ kind c.args.who _ lines c.args.line.now _ (sym c.place_of.ensures ∙ c.in-Gone.is) client })

pub returns-in-Away-clause-takes : goal.returns-in-Away-clause-takes
returns-in-Away-clause-takes g c = λ kind lines client.
    rw (away-lines _ kind c.args.who _ lines _ (sym c.place_of.ensures ∙ c.in-Away.is) client) (inl (c.take_first.ensures.takes kind (away-kind _ kind c.args.who _ lines _ (sym c.place_of.ensures ∙ c.in-Away.is) client)))

pub returns-in-Here-clause-takes : goal.returns-in-Here-clause-takes
returns-in-Here-clause-takes g c = λ kind lines client. inl (c.take_next.ensures.takes kind lines (client-here _ kind c.args.who _ lines _ (sym c.place_of.ensures ∙ c.in-Here.is) client))

pub take_first-requires-clause-comes : goal.take_first-requires-clause-comes
take_first-requires-clause-comes g c =
    let k = c.requires.client in
    not-come _ k.0 c.args.who _ k.1 (sym c.place_of.ensures ∙ c.in-Away.is) k.2
