use Rattle.std.proofs.Common.{List, ℕ, ap, sym, subst}
use Rattle.buffer_store.specs.Walks.{CanGoForth}
use Rattle.buffer_store.specs.Traces.{Trace, trace}
use Rattle.buffer_store.proofs.MakingLemmas.{on_any, weaker_on_ok, weaker_on_err}
use Rattle.buffer_store.proofs.WalkLemmas.{way-whole, way-some_back, way-some_on}
use Rattle.buffer_store.proofs.walking.go.Goals as goal

pub go_on-requires : goal.go_on-requires
go_on-requires c =
    let P : List ℕ → Type 0 = λ t. CanGoForth c.args.branches.now t c.args.entered.now in
    subst P (sym (ap (λ (x : Trace). x.text) c.in_ok-go_back.ensures.ok)) c.requires.on

pub returns-in_err-go_back-clause-err : goal.returns-in_err-go_back-clause-err
returns-in_err-go_back-clause-err c = on_any c.from_residual.result _ (way-some_back c.args.branches.now (trace c.args.lines.now c.args.shifts.now.items c.args.marks.now.items) _ c.args.left.now c.args.entered.now c.in_err-go_back.ensures.err)

pub returns-clause-ok : goal.returns-clause-ok
returns-clause-ok c =
    weaker_on_ok c.go_on.result _ _ (way-whole c.args.branches.now (trace c.args.lines.now c.args.shifts.now.items c.args.marks.now.items) (trace c.go_back.new.lines c.go_back.new.shifts.items c.go_back.new.marks.items) _ c.args.left.now c.args.entered.now c.in_ok-go_back.ensures.ok) c.go_on.ensures.ok

pub returns-clause-err : goal.returns-clause-err
returns-clause-err c =
    weaker_on_err c.go_on.result _ _ (way-some_on c.args.branches.now (trace c.args.lines.now c.args.shifts.now.items c.args.marks.now.items) (trace c.go_back.new.lines c.go_back.new.shifts.items c.go_back.new.marks.items) _ c.args.left.now c.args.entered.now c.in_ok-go_back.ensures.ok) c.go_on.ensures.err
