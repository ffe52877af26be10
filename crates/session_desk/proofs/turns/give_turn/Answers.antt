use Rattle.std.proofs.Common.{◌∷◌, Some, sym, ap, subst, ◌∙◌, arith}
use Rattle.atomic_table.specs.Table.{rest}
use Rattle.session_desk.specs.Rule.{Sat, IsInHand}
use Rattle.session_desk.proofs.RuleLemmas.{frees_kept}
use Rattle.session_desk.proofs.turns.give_turn.Goals as goal

pub store-requires : goal.store-requires
store-requires g c = let now = c.exchange.ensures.3 in (
  c.exchange.ensures.0 ∙ c.requires.table.0,
  omega (arith, c.requires.table.1),
  frees_kept g.O.Played.entries g.O.Played.maker g.O.Played.marked g.O.Played.frame _ _ _ _ c.args.object
      (subst (λ (m : Sat g.row.O.Denot g.row.O-Entry.Denot g.row.O-Frame.Denot). IsInHand g.O.Played.entries g.O.Played.marked g.O.Played.frame m.0 c.args.object) (sym now) c.requires.hand)
      (ap (λ m. m.1) now ∙ ap (λ cs. (0, Some c.args.object) ∷ rest cs) c.requires.empty),
)
