use Rattle.std.proofs.Common.{◌≡◌, length, sym, ap, ◌∙◌, arith, eqb-true}
use Rattle.buffer_store.specs.Walks.{way_changes}
use Rattle.buffer_store.proofs.MakingLemmas.{on_any}
use Rattle.buffer_store.proofs.WalkLemmas.{traced, traced-marked, behind-part, none-changed}
use Rattle.buffer_store.proofs.walking.walk.Goals as goal

pub returns-in_err-go-clause-broken : goal.returns-in_err-go-clause-broken
returns-in_err-go-clause-broken c = on_any c.from_residual.result _ (behind-part _ _ _ _ _ _ _ c.requires.none c.in_err-go.ensures.err)

pub returns-then-is_empty-clause-list : goal.returns-then-is_empty-clause-list
returns-then-is_empty-clause-list c =
    let t = traced _ _ _ _ _ _ _ c.requires.none c.new-marks.ensures.items c.in_ok-go.ensures.ok in
    let none : length c.go.new.marks.items ≡ 0 = omega (arith, c.go.new.marks.ok.0, eqb-true _ 0 (sym c.is_empty.ensures ∙ c.if-is_empty.true)) in
    none-changed c.args.lines.now _ (omega (arith, none, ap length t.marks_are))

pub list_left-requires-clause-marked : goal.list_left-requires-clause-marked
list_left-requires-clause-marked c =
    let t = traced _ _ _ _ _ _ _ c.requires.none c.new-marks.ensures.items c.in_ok-go.ensures.ok in
    record {
      text = c.args.lines.now;
      changes = way_changes c.args.branches.now c.args.lines.now c.args.left.now c.args.entered.now;
      marked = traced-marked _ _ _ _ _ _ _ c.len-stored.ensures.valid c.requires.can.steps t c.as_slice-2.ensures.value c.as_slice.ensures.value;
    }

pub returns-clause-list : goal.returns-clause-list
returns-clause-list c =
    let t = traced _ _ _ _ _ _ _ c.requires.none c.new-marks.ensures.items c.in_ok-go.ensures.ok in
    c.in_ok-list.ensures.left c.args.lines.now (way_changes c.args.branches.now c.args.lines.now c.args.left.now c.args.entered.now) (traced-marked _ _ _ _ _ _ _ c.len-stored.ensures.valid c.requires.can.steps t c.as_slice-2.ensures.value c.as_slice.ensures.value)
