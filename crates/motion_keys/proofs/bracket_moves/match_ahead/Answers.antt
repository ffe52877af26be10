use Rattle.std.proofs.Common.{◌+◌, slice_range, refl, ◌∙◌, arith}
use Rattle.text_model.specs.Texts.{offset}
use Rattle.text_model.proofs.PlaceLemmas.{offset-below}
use Rattle.motion_keys.specs.Jumps.{are_even}
use Rattle.motion_keys.proofs.DepthLemmas.{IsOpen, open-start, open-next, even-closed, even-open, depth-le}
use Rattle.motion_keys.proofs.SearchLemmas.{next-passes, next-fails}
use Rattle.motion_keys.proofs.bracket_moves.match_ahead.Goals as goal

pub loop-next-init : goal.loop-next-init
loop-next-init c = record {
  place = c.requires.place;
  some = omega arith;
  few = omega arith;
  behind = omega arith;
  opened = open-start c.args.own c.args.other c.args.lines.now _ c.requires.apart (offset-below _ _ c.requires.place) c.requires.own;
  rest = refl;
}

pub returns-then-depth-eq0 : goal.returns-then-depth-eq0
returns-then-depth-eq0 c =
    let opened : IsOpen c.args.own c.args.other (slice_range c.args.lines.now (offset c.args.lines.now c.args.from) (offset c.args.lines.now c.in-Some.next + 1)) c.depth_after-depth.result = open-next c.args.own c.args.other c.args.lines.now _ _ _ _ _ _ c.requires.apart c.loop-next.invariant.some c.loop-next.invariant.behind c.in-Some.ensures.next.1 (offset-below _ _ c.in-Some.ensures.next.0) c.char_at.ensures c.depth_after-depth.ensures c.loop-next.invariant.opened in
    record {
      gives = (c.in-Some.ensures.next.0, c.loop-next.invariant.rest ∙ next-passes (are_even c.args.lines.now c.args.own c.args.other (offset c.args.lines.now c.args.from)) c.args.lines.now c.loop-next.at c.in-Some.next c.in-Some.ensures.next.0 c.in-Some.ensures.next.1 (even-closed c.args.own c.args.other c.args.lines.now _ _ _ opened c.if-depth-eq0.true));
    }

pub loop-next-smaller : goal.loop-next-smaller
loop-next-smaller c = omega (arith, c.in-Some.ensures.next.1, offset-below c.args.lines.now c.in-Some.next c.in-Some.ensures.next.0)

pub loop-next-preserved : goal.loop-next-preserved
loop-next-preserved c =
    let opened : IsOpen c.args.own c.args.other (slice_range c.args.lines.now (offset c.args.lines.now c.args.from) (offset c.args.lines.now c.in-Some.next + 1)) c.depth_after-depth.result = open-next c.args.own c.args.other c.args.lines.now _ _ _ _ _ _ c.requires.apart c.loop-next.invariant.some c.loop-next.invariant.behind c.in-Some.ensures.next.1 (offset-below _ _ c.in-Some.ensures.next.0) c.char_at.ensures c.depth_after-depth.ensures c.loop-next.invariant.opened in
    record {
      place = c.in-Some.ensures.next.0;
      some = omega arith;
      few = omega (arith, c.in-Some.ensures.next.1, c.depth_after-depth.ensures, depth-le c.args.own c.args.other c.char_at.result c.loop-next.depth, c.loop-next.invariant.few);
      behind = omega (arith, c.in-Some.ensures.next.1, c.loop-next.invariant.behind);
      opened = opened;
      rest = c.loop-next.invariant.rest ∙ next-fails (are_even c.args.lines.now c.args.own c.args.other (offset c.args.lines.now c.args.from)) c.args.lines.now c.loop-next.at c.in-Some.next c.in-Some.ensures.next.0 c.in-Some.ensures.next.1 (even-open c.args.own c.args.other c.args.lines.now _ _ _ opened (omega arith));
    }
