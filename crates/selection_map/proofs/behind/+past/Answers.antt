use Rattle.std.proofs.Common.{rules, ◌≡◌, ◌-◌, ◌<◌, true, false, List, ◌∷◌, sym, ap, subst, ◌∙◌, arith}
use Rattle.text_model.specs.declared.coords.Shift.{Shift}
use Rattle.text_model.specs.Coords.{is_at_most}
use Rattle.selection_map.specs.Reaching.{through}
use Rattle.selection_map.specs.Behind.{meets_few, CanGoPast}
use Rattle.selection_map.proofs.PastLemmas.{past-behind, past-on, few-on}
use Rattle.selection_map.proofs.behind.+past.Goals as goal

pub returns-then-not-is_at_most-clause-through : goal.returns-then-not-is_at_most-clause-through
returns-then-not-is_at_most-clause-through t c =
    let split : c.args.shifts.now ≡ c.in-Some.first.now ∷ c.in-Some.others.now = c.in-Some.ensures.cases.0 in
    let apart : is_at_most c.in-Some.first.now.begin c.args.sel.high ≡ false = sym c.is_at_most.ensures ∙ c.if-not-is_at_most.true in
    subst (λ (l : List Shift). c.args.sel ≡ through l c.args.sel) (sym split) (past-behind c.in-Some.first.now c.in-Some.others.now c.args.sel (subst (λ l. CanGoPast l c.args.sel) split c.requires) apart)

pub map_sel-requires : goal.map_sel-requires
map_sel-requires t c =
    (past-on c.in-Some.first.now c.in-Some.others.now c.args.sel (subst (λ l. CanGoPast l c.args.sel) c.in-Some.ensures.cases.0 c.requires)).small

pub past-requires : goal.past-requires
past-requires t c =
    let less : c.args.most - 1 < c.args.most = omega (arith, c.if-most-eq0.false) in (
      search (rules, less),
      subst (CanGoPast c.in-Some.others.now) (sym c.map_sel.ensures.mapped) (past-on c.in-Some.first.now c.in-Some.others.now c.args.sel (subst (λ l. CanGoPast l c.args.sel) c.in-Some.ensures.cases.0 c.requires)).next,
    )

pub returns-clause-few : goal.returns-clause-few
returns-clause-few t c =
    let met : is_at_most c.in-Some.first.now.begin c.args.sel.high ≡ true = sym c.is_at_most.ensures ∙ c.if-not-is_at_most.false in
    c.past.ensures.few
    ∙ ap (meets_few (c.args.most - 1) c.in-Some.others.now) c.map_sel.ensures.mapped
    ∙ few-on c.args.most (c.args.most - 1) c.in-Some.first.now c.in-Some.others.now c.args.sel (omega (arith, c.if-most-eq0.false)) met
    ∙ ap (λ l. meets_few c.args.most l c.args.sel) (sym c.in-Some.ensures.cases.0)
