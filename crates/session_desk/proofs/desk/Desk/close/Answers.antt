use Rattle.std.proofs.Common.{rules, ◌≡◌, ◌∷◌, Some, sym, ap, ◌∙◌, subst, arith}
use Rattle.atomic_table.specs.Table.{rest}
use Rattle.session_desk.specs.declared.rule.Role.TheVariants.{Admits}
use Rattle.session_desk.specs.Tokens.{DeskPlace, KeeperView, Closes}
use Rattle.session_desk.specs.Rule.{is_live}
use Rattle.session_desk.proofs.RuleLemmas.{takes_kept}
use Rattle.session_desk.proofs.StepLemmas.{closes}
use Rattle.session_desk.proofs.desk.Desk.close.Goals as goal

pub compare_exchange-requires : goal.compare_exchange-requires
compare_exchange-requires g c = let ready = c.keeper.invariant.0 in (
  search rules,
  search rules,
  takes_kept g.O.Played.entries g.O.Played.maker g.O.Played.marked g.O.Played.frame _ _ _ _ (ap is_live ready.role_is) ready.idle ready.bare,
)

pub exchange-requires : goal.exchange-requires
exchange-requires g c = let ready = c.keeper.invariant.0 in let none : c.keeper.inside.out ≡ 0 = omega arith in
    let told = c.compare_exchange.ensures.2 in let took = told.0 (told.2 _ (ready.role_is ∙ ap (Admits c.keeper.inside.admitted) none)) in (
      search rules,
      (Some took.object, took.slot ∙ ap (λ cs. (0, Some took.object) ∷ rest cs) (sym took.slot)),
    )

pub returns-clause-history : goal.returns-clause-history
returns-clause-history g c = let ready = c.keeper.invariant.0 in let none : c.keeper.inside.out ≡ 0 = omega arith in
    let told = c.compare_exchange.ensures.2 in let took = told.0 (told.2 _ (ready.role_is ∙ ap (Admits c.keeper.inside.admitted) none)) in
    let same : took.object ≡ c.unwrap.result = search rules in let was = c.keeper.inside.seat in let place : DeskPlace g.row.O-Frame.Denot = record { table = was.table_id; frame = was.me.0.frame } in
    subst (λ (p : KeeperView g.row.O-Entry.Denot g.row.O-Frame.Denot × g.row.O.Denot). Closes g.O.Played.maker p.0 (g.O.Played.entries p.1) (g.O.Played.marked p.1)) (λ i. (c.keeper.view_is i, same i))
    (closes g.O.Played.entries g.O.Played.maker g.O.Played.marked g.O.Played.frame place c.keeper.inside.admitted c.keeper.inside.out was.me.0 took.object ready.role_is took.found)
