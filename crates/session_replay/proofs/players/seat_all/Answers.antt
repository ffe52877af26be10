use Rattle.std.proofs.Common.{map, refl, ap, ◌∙◌, take_all, []}
use Rattle.session_replay.specs.declared.places.ClientPlace.TheVariants as place
use Rattle.session_replay.proofs.PlayersLemmas.{next-away, next-unreported}
use Rattle.session_replay.proofs.players.seat_all.Goals as goal

pub loop-ui-preserved : goal.loop-ui-preserved
loop-ui-preserved g c = record {
  away = next-away c.deref-ui-items.result.now c.loop-ui._ui-index c.loop-ui.clients.items c.push.new.self.items _ c.loop-ui-test.true c.loop-ui.invariant.away c.in_ok-push.ensures.items refl;
  unreported = next-unreported c.deref-ui-items.result.now c.loop-ui._ui-index c.loop-ui.clients.items c.push.new.self.items _ c.loop-ui-test.true c.loop-ui.invariant.unreported c.in_ok-push.ensures.items c.new.ensures.items;
}

pub returns-clause-away : goal.returns-clause-away
returns-clause-away g c = c.loop-ui.invariant.away ∙ ap (λ q. map (λ ui. place.Away) q) (take_all c.loop-ui._ui-index c.deref-ui-items.result.now c.loop-ui-test.false ∙ c.deref-ui-items.ensures.value)

pub returns-clause-unreported : goal.returns-clause-unreported
returns-clause-unreported g c = c.loop-ui.invariant.unreported ∙ ap (λ q. map (λ ui. []) q) (take_all c.loop-ui._ui-index c.deref-ui-items.result.now c.loop-ui-test.false ∙ c.deref-ui-items.ensures.value)
