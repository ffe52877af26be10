use Rattle.std.proofs.Common.{◌∷◌, Some, refl, sym, ap, subst, ◌∙◌, arith}
use Rattle.atomic_table.specs.Table.{rest}
use Rattle.session_desk.specs.Rule.{Sat, IsInHand, MayBecome}
use Rattle.session_desk.proofs.RuleLemmas.{publishes_kept, frees_kept}
use Rattle.session_desk.proofs.turns.publish.Goals as goal

pub store-requires : goal.store-requires
store-requires g c = let now = c.exchange.ensures.3 in let o = c.args.object in (
  c.exchange.ensures.0 ∙ c.requires.table.0,
  omega (arith, c.requires.table.1),
  publishes_kept g.O.Played.entries g.O.Played.maker g.O.Played.marked g.O.Played.frame _ _ _ c.args.number _ o _ (ap (λ m. m.0.role) now ∙ c.requires.pass.0)
      (ap (λ m. m.0.holds) now ∙ c.requires.pass.1) (ap (λ m. m.1) now ∙ ap (λ cs. (0, Some o) ∷ rest cs) c.requires.empty)
      (subst (λ (m : Sat g.row.O.Denot g.row.O-Entry.Denot g.row.O-Frame.Denot). MayBecome g.O.Played.maker c.args.number m.0.seen m.0.mark (g.O.Played.entries o) (g.O.Played.marked o)) (sym now) c.requires.played)
      c.word_of-word.ensures,
)

pub store-requires-2 : goal.store-requires-2
store-requires-2 g c = let now = c.exchange.ensures.3 in let o = c.args.object in let slot = ap (λ m. m.1) now ∙ ap (λ cs. (0, Some o) ∷ rest cs) c.requires.empty in
    let told = c.store.ensures.2 o slot in (
      c.store.ensures.0 ∙ (c.exchange.ensures.0 ∙ c.requires.table.0),
      omega (arith, c.requires.table.1),
      frees_kept g.O.Played.entries g.O.Played.maker g.O.Played.marked g.O.Played.frame _ _ _ _ o
          (subst (λ (m : Sat g.row.O.Denot g.row.O-Entry.Denot g.row.O-Frame.Denot). IsInHand g.O.Played.entries g.O.Played.marked g.O.Played.frame m.0 o) (sym told)
          record { holds = refl; entries_are = refl; mark_is = refl; framed = ap (λ m. m.0.frame) now ∙ c.requires.pass.2 })
          (ap (λ m. m.1) told ∙ slot),
    )
