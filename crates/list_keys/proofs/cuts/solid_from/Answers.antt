use Rattle.std.proofs.Common.{◌≡◌, ◌+◌, ◌≤◌, refl, sym, ap, ◌∙◌, arith}
use Rattle.text_model.specs.Texts.{offset, last_place}
use Rattle.text_model.proofs.PlaceLemmas.{offset-below}
use Rattle.motion_keys.specs.Extremes.{least_between}
use Rattle.motion_keys.proofs.ExtremeLemmas.{least-here, least-later, least-none}
use Rattle.list_keys.specs.Cuts.{is_solid}
use Rattle.list_keys.proofs.CutLemmas.{not-behind, behind}
use Rattle.list_keys.proofs.cuts.solid_from.Goals as goal

pub returns-then-is_solid : goal.returns-then-is_solid
returns-then-is_solid c =
    let le : offset c.args.lines.now c.loop-last.at ≤ offset c.args.lines.now c.args.last = not-behind c.args.lines.now c.loop-last.at c.args.last c.is_at_most.result c.loop-last.invariant.place c.requires.last c.is_at_most.ensures c.loop-last-test.true in (
      c.loop-last.invariant.place,
      c.loop-last.invariant.same ∙ least-here (is_solid c.args.lines.now) (offset c.args.lines.now c.loop-last.at) (offset c.args.lines.now c.args.last + 1) (omega (arith, le)) (sym c.is_solid.ensures ∙ c.if-is_solid.true),
    )

pub loop-last-smaller : goal.loop-last-smaller
loop-last-smaller c = omega (arith, offset-below c.args.lines.now c.in-Some.next c.in-Some.ensures.next.0, c.in-Some.ensures.next.1)

pub loop-last-preserved : goal.loop-last-preserved
loop-last-preserved c =
    let le : offset c.args.lines.now c.loop-last.at ≤ offset c.args.lines.now c.args.last = not-behind c.args.lines.now c.loop-last.at c.args.last c.is_at_most.result c.loop-last.invariant.place c.requires.last c.is_at_most.ensures c.loop-last-test.true in
    record {
      place = c.in-Some.ensures.next.0;
      same =
          c.loop-last.invariant.same ∙ least-later (is_solid c.args.lines.now) (offset c.args.lines.now c.loop-last.at) (offset c.args.lines.now c.args.last + 1) (omega (arith, le)) (sym c.is_solid.ensures ∙ c.if-is_solid.false)
          ∙ ap (λ o. least_between (is_solid c.args.lines.now) o (offset c.args.lines.now c.args.last + 1)) (sym c.in-Some.ensures.next.1);
    }

pub returns-in-None : goal.returns-in-None
returns-in-None c =
    let le : offset c.args.lines.now c.loop-last.at ≤ offset c.args.lines.now c.args.last = not-behind c.args.lines.now c.loop-last.at c.args.last c.is_at_most.result c.loop-last.invariant.place c.requires.last c.is_at_most.ensures c.loop-last-test.true in
    let at_end : offset c.args.lines.now c.loop-last.at ≡ last_place c.args.lines.now = c.in-None.ensures.none.0 refl in
    c.loop-last.invariant.same ∙ least-later (is_solid c.args.lines.now) (offset c.args.lines.now c.loop-last.at) (offset c.args.lines.now c.args.last + 1) (omega (arith, le)) (sym c.is_solid.ensures ∙ c.if-is_solid.false)
    ∙ least-none (is_solid c.args.lines.now) (offset c.args.lines.now c.loop-last.at + 1) (offset c.args.lines.now c.args.last + 1) (omega (arith, at_end, offset-below c.args.lines.now c.args.last c.requires.last))

pub returns : goal.returns
returns c =
    c.loop-last.invariant.same ∙ least-none (is_solid c.args.lines.now) (offset c.args.lines.now c.loop-last.at) (offset c.args.lines.now c.args.last + 1)
    (omega (arith, behind c.args.lines.now c.loop-last.at c.args.last c.is_at_most.result c.loop-last.invariant.place c.requires.last c.is_at_most.ensures c.loop-last-test.false))
