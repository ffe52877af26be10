use Rattle.std.proofs.Common.{◌≡◌, slice_index, true, false, Some, None, sym, ap, ◌∙◌}
use Rattle.text_model.specs.Texts.{offset}
use Rattle.text_model.proofs.PlaceLemmas.{offset-below}
use Rattle.motion_keys.specs.Motions.{offset_beside}
use Rattle.motion_keys.specs.Searching.{passes}
use Rattle.motion_keys.proofs.WayLemmas.{near-here, near-on, near-none, near-smaller}
use Rattle.motion_keys.proofs.searching.nearest.Goals as goal

pub loop-direction-preserved : goal.loop-direction-preserved
loop-direction-preserved c =
    let fails : passes c.args.test (slice_index c.args.lines.now (offset c.args.lines.now c.loop-direction.at)) ≡ false = ap (passes c.args.test) (sym c.char_at.ensures) ∙ sym c.passes.ensures ∙ c.loop-direction-test.true in
    let beside : offset_beside c.args.lines.now (offset c.args.lines.now c.loop-direction.at) c.args.direction ≡ Some (offset c.args.lines.now c.in-Some.next) = c.in-Some.ensures.gives.1 in
    record {
      place = c.in-Some.ensures.gives.0;
      same = near-on c.args.direction (passes c.args.test) c.args.lines.now _ _ (offset-below c.args.lines.now c.loop-direction.at c.loop-direction.invariant.place) beside fails ∙ c.loop-direction.invariant.same;
    }

pub loop-direction-smaller : goal.loop-direction-smaller
loop-direction-smaller c =
    let beside : offset_beside c.args.lines.now (offset c.args.lines.now c.loop-direction.at) c.args.direction ≡ Some (offset c.args.lines.now c.in-Some.next) = c.in-Some.ensures.gives.1 in
    near-smaller c.args.direction c.args.lines.now _ _ (offset-below c.args.lines.now c.loop-direction.at c.loop-direction.invariant.place) beside

pub returns-in-None : goal.returns-in-None
returns-in-None c =
    let fails : passes c.args.test (slice_index c.args.lines.now (offset c.args.lines.now c.loop-direction.at)) ≡ false = ap (passes c.args.test) (sym c.char_at.ensures) ∙ sym c.passes.ensures ∙ c.loop-direction-test.true in
    let beside : offset_beside c.args.lines.now (offset c.args.lines.now c.loop-direction.at) c.args.direction ≡ None = c.in-None.ensures.gives in
    sym c.loop-direction.invariant.same ∙ near-none c.args.direction (passes c.args.test) c.args.lines.now _ (offset-below c.args.lines.now c.loop-direction.at c.loop-direction.invariant.place) beside fails

pub returns : goal.returns
returns c =
    let met : passes c.args.test (slice_index c.args.lines.now (offset c.args.lines.now c.loop-direction.at)) ≡ true = ap (passes c.args.test) (sym c.char_at.ensures) ∙ sym c.passes.ensures ∙ c.loop-direction-test.false in
    (c.loop-direction.invariant.place, sym c.loop-direction.invariant.same ∙ near-here c.args.direction (passes c.args.test) c.args.lines.now _ (offset-below c.args.lines.now c.loop-direction.at c.loop-direction.invariant.place) met)
