use Rattle.std.proofs.Common.{rules, ◌∙◌, List, All, sym, ap, subst}
use Rattle.session_turns.specs.Growth.{Begins}
use Rattle.session_desk.specs.declared.rule.View.{View}
use Rattle.session_desk.specs.Histories.{HasGiven, HasMet}
use Rattle.session_desk.proofs.RuleLemmas.{tells_kept}
use Rattle.session_desk.proofs.TokenLemmas.{joins_kept}
use Rattle.session_desk.proofs.desk.Desk.leave.Goals as goal

pub join_seat-requires : goal.join_seat-requires
join_seat-requires g c = let mine = c.keeper.invariant.0 in let theirs = c.pass.invariant.0 in (
  search rules,
  search rules,
  theirs.bare,
  search rules,
  joins_kept g.O.Played.entries g.O.Played.maker g.O.Played.marked g.O.Played.frame _ _ _ _ _ mine.role_is mine.idle _ _ _ theirs.role_is theirs.idle,
)

pub load-keeper-inside-requires : goal.load-keeper-inside-requires
load-keeper-inside-requires g c = (search rules, search rules, tells_kept g.O.Played.entries g.O.Played.maker g.O.Played.marked g.O.Played.frame _ _ _ _)

pub returns-clause-own_entries : goal.returns-clause-own_entries
returns-clause-own_entries g c = let told = c.load-keeper-inside.ensures.2 in
    subst (λ (v : View g.row.O-Entry.Denot g.row.O-Frame.Denot). All (HasGiven g.O.Played.maker v.seen) v.given) (sym (ap (λ m. m.0) told.0)) told.1.given

pub returns-clause-marks : goal.returns-clause-marks
returns-clause-marks g c = let told = c.load-keeper-inside.ensures.2 in
    subst (λ (v : View g.row.O-Entry.Denot g.row.O-Frame.Denot). All (HasMet v.mark) v.given) (sym (ap (λ m. m.0) told.0)) told.1.marks

pub returns-clause-begins : goal.returns-clause-begins
returns-clause-begins g c = let told = c.load-keeper-inside.ensures.2 in let joined = c.join_seat.ensures.2 in let entries = g.row.O-Entry.Denot in
    subst (λ (p : List entries × List entries). Begins p.0 p.1) (λ i. ((sym told.0 i).0.seen, (ap (λ m. m.0.earlier) joined ∙ ap (λ k. k.seen) c.keeper.view_is) i)) told.1.earlier
