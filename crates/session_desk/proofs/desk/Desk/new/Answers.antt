use Rattle.std.proofs.Common.{rules, ◌≡◌, [], ◌∷◌, List, Option, Some, sym, ap, subst}
use Rattle.atomic_table.specs.Table.{opening}
use Rattle.session_desk.specs.Rule.{IsRuleKept, opening_view}
use Rattle.session_desk.proofs.RuleLemmas.{opens}
use Rattle.session_desk.proofs.desk.Desk.new.Goals as goal

pub new-requires : goal.new-requires
new-requires g c = let items : c.push.new.self.items ≡ Some c.args.object ∷ [] = search rules in let frame = g.O.Played.frame in
    subst (λ (xs : List (Option g.row.O.Denot)). IsRuleKept g.O.Played.entries g.O.Played.maker g.O.Played.marked frame (frame c.of-about.result.value) (opening (0 ∷ 0 ∷ []) xs (opening_view (frame c.of-about.result.value)))) (sym items)
    (opens g.O.Played.entries g.O.Played.maker g.O.Played.marked frame (frame c.of-about.result.value) c.args.object c.requires.entries c.requires.mark (ap frame (sym c.of-about.ensures)))
