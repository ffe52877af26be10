use Rattle.std.proofs.Common.{◌+◌, slice_range, refl, ◌∙◌, arith}
use Rattle.text_model.specs.Texts.{offset}
use Rattle.text_model.proofs.PlaceLemmas.{offset-below}
use Rattle.motion_keys.specs.Jumps.{are_even}
use Rattle.motion_keys.proofs.DepthLemmas.{IsOpen, open-start, open-last, even-closed, even-open, depth-le}
use Rattle.motion_keys.proofs.ExtremeLemmas.{greatest-here, greatest-earlier}
use Rattle.motion_keys.proofs.bracket_moves.match_behind.Goals as goal

pub loop-before-init : goal.loop-before-init
loop-before-init c = record {
  place = c.requires.place;
  some = omega arith;
  few = omega arith;
  before = omega arith;
  opened = open-start c.args.own c.args.other c.args.lines.now _ c.requires.apart (offset-below _ _ c.requires.place) c.requires.own;
  rest = refl;
}

pub returns-then-depth-eq0 : goal.returns-then-depth-eq0
returns-then-depth-eq0 c =
    let opened : IsOpen c.args.own c.args.other (slice_range c.args.lines.now (offset c.args.lines.now c.in-Some.before) (offset c.args.lines.now c.args.from + 1)) c.depth_after-depth.result = open-last c.args.own c.args.other c.args.lines.now _ _ _ _ _ _ c.requires.apart c.loop-before.invariant.some c.in-Some.ensures.prev.1 c.loop-before.invariant.before (offset-below _ _ c.in-Some.ensures.prev.0) c.char_at.ensures c.depth_after-depth.ensures c.loop-before.invariant.opened in
    record {
      gives = (c.in-Some.ensures.prev.0, c.loop-before.invariant.rest ∙ greatest-here (λ n. are_even c.args.lines.now c.args.own c.args.other n (offset c.args.lines.now c.args.from)) _ _ c.in-Some.ensures.prev.1 (even-closed c.args.own c.args.other c.args.lines.now _ _ _ opened c.if-depth-eq0.true));
    }

pub loop-before-preserved : goal.loop-before-preserved
loop-before-preserved c =
    let opened : IsOpen c.args.own c.args.other (slice_range c.args.lines.now (offset c.args.lines.now c.in-Some.before) (offset c.args.lines.now c.args.from + 1)) c.depth_after-depth.result = open-last c.args.own c.args.other c.args.lines.now _ _ _ _ _ _ c.requires.apart c.loop-before.invariant.some c.in-Some.ensures.prev.1 c.loop-before.invariant.before (offset-below _ _ c.in-Some.ensures.prev.0) c.char_at.ensures c.depth_after-depth.ensures c.loop-before.invariant.opened in
    record {
      place = c.in-Some.ensures.prev.0;
      some = omega arith;
      few = omega (arith, c.in-Some.ensures.prev.1, c.depth_after-depth.ensures, depth-le c.args.own c.args.other c.char_at.result c.loop-before.depth, c.loop-before.invariant.few);
      before = omega (arith, c.in-Some.ensures.prev.1, c.loop-before.invariant.before);
      opened = opened;
      rest = c.loop-before.invariant.rest ∙ greatest-earlier (λ n. are_even c.args.lines.now c.args.own c.args.other n (offset c.args.lines.now c.args.from)) _ _ c.in-Some.ensures.prev.1 (even-open c.args.own c.args.other c.args.lines.now _ _ _ opened (omega arith));
    }
