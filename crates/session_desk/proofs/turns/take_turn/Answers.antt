use Rattle.std.proofs.Common.{rules, ◌≡◌, [], ◌∷◌, true, Some, None, refl, sym, ap, subst, ◌∙◌, arith}
use Rattle.atomic_table.specs.Table.{rest}
use Rattle.session_desk.specs.Rule.{Sat, Found, seeing, is_live}
use Rattle.session_desk.proofs.RuleLemmas.{takes_kept}
use Rattle.session_desk.proofs.turns.take_turn.Goals as goal

pub loop-init : goal.loop-init
loop-init g c = (refl, refl)

pub compare_exchange-requires : goal.compare_exchange-requires
compare_exchange-requires g c = let same = c.loop.invariant.1 in (
  c.loop.invariant.0 ∙ c.requires.table.0,
  omega (arith, c.requires.table.1),
  takes_kept g.O.Played.entries g.O.Played.maker g.O.Played.marked g.O.Played.frame _ _ _ _ (ap (λ m. is_live m.0.role) same ∙ c.requires.live)
      (ap (λ m. m.0.holds) same ∙ c.requires.ready.idle) (ap (λ m. m.1) same ∙ c.requires.ready.bare),
)

pub exchange-requires : goal.exchange-requires
exchange-requires g c = let took = c.compare_exchange.ensures.2.0 c.if-compare_exchange-eq-TURN_FREE.true in (
  c.compare_exchange.ensures.0 ∙ (c.loop.invariant.0 ∙ c.requires.table.0),
  (Some took.object, took.slot ∙ ap (λ cs. (0, Some took.object) ∷ rest cs) (sym took.slot)),
)

pub returns-then-compare_exchange-eq-TURN_FREE-clause-seat : goal.returns-then-compare_exchange-eq-TURN_FREE-clause-seat
returns-then-compare_exchange-eq-TURN_FREE-clause-seat g c = c.exchange.ensures.0 ∙ (c.compare_exchange.ensures.0 ∙ c.loop.invariant.0)

pub returns-then-compare_exchange-eq-TURN_FREE-clause-taken : goal.returns-then-compare_exchange-eq-TURN_FREE-clause-taken
returns-then-compare_exchange-eq-TURN_FREE-clause-taken g c = let took = c.compare_exchange.ensures.2.0 c.if-compare_exchange-eq-TURN_FREE.true in
    let same : took.object ≡ c.unwrap.result = search rules in let entries = g.O.Played.entries in let marked = g.O.Played.marked in
    c.exchange.ensures.3 ∙ ((λ i. (took.view i, (0, None) ∷ rest (took.slot i))) ∙ (λ i. (seeing true (entries (same i)) (marked (same i)) (c.loop.invariant.1 i).0, (0, None) ∷ [])))

pub returns-then-compare_exchange-eq-TURN_FREE-clause-found : goal.returns-then-compare_exchange-eq-TURN_FREE-clause-found
returns-then-compare_exchange-eq-TURN_FREE-clause-found g c = let took = c.compare_exchange.ensures.2.0 c.if-compare_exchange-eq-TURN_FREE.true in
    let same : took.object ≡ c.unwrap.result = search rules in
    subst (λ (p : Sat g.row.O.Denot g.row.O-Entry.Denot g.row.O-Frame.Denot × g.row.O.Denot). Found g.O.Played.entries g.O.Played.maker g.O.Played.marked g.O.Played.frame p.0.0 p.1)
    (λ i. (c.loop.invariant.1 i, same i)) took.found

pub loop-preserved : goal.loop-preserved
loop-preserved g c = (c.compare_exchange.ensures.0 ∙ c.loop.invariant.0, c.compare_exchange.ensures.2.1 c.if-compare_exchange-eq-TURN_FREE.false ∙ c.loop.invariant.1)
