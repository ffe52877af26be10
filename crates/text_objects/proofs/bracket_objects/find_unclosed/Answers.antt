use Rattle.std.proofs.Common.{◌≡◌, false, sym, ap, ◌∙◌, arith, refl, eq-eqb, ne_eqb}
use Rattle.text_model.specs.Texts.{offset}
use Rattle.text_model.proofs.PlaceLemmas.{offset-below}
use Rattle.compact_chars.specs.Rows.{chars_of}
use Rattle.motion_keys.specs.Extremes.{greatest_below}
use Rattle.motion_keys.specs.Jumps.{holds}
use Rattle.motion_keys.proofs.DepthLemmas.{depth-le}
use Rattle.motion_keys.proofs.ExtremeLemmas.{greatest-here, greatest-earlier}
use Rattle.text_objects.specs.Unclosed.{opens_one_more}
use Rattle.text_objects.proofs.BracketLemmas.{IsWaiting, unclosed-here, unclosed-before, waiting-step, waiting-none, waiting-some}
use Rattle.text_objects.proofs.LineOfLemmas.{place-read}
use Rattle.text_objects.proofs.bracket_objects.find_unclosed.Goals as goal

pub returns-then-at-opening-clause-gives : goal.returns-then-at-opening-clause-gives
returns-then-at-opening-clause-gives c =
    let text = c.args.lines.now in
    let read = place-read text c.args.from (chars_of c.line.result) c.at.result c.requires.place c.line.ensures.value c.at.ensures in
    (c.requires.place, unclosed-here c.args.opening c.args.closing text (offset text c.args.from) (eq-eqb _ _ (read ∙ c.if-at-opening.true)))

pub depth_after-depth-requires-clause-small : goal.depth_after-depth-requires-clause-small
depth_after-depth-requires-clause-small c = omega (arith, c.loop-before.invariant.few, offset-below c.args.lines.now c.args.from c.requires.place, c.line.ensures.valid.small)

pub returns-then-depth-eq0-clause-gives : goal.returns-then-depth-eq0-clause-gives
returns-then-depth-eq0-clause-gives c =
    let text = c.args.lines.now in
    let o = offset text c.args.from in
    let read = place-read text c.args.from (chars_of c.line.result) c.at.result c.requires.place c.line.ensures.value c.at.ensures in
    let other : holds text c.args.opening o ≡ false = ne_eqb _ _ (λ e. c.if-at-opening.false (sym read ∙ e)) in
    let waiting : IsWaiting c.args.opening c.args.closing text o (offset text c.in-Some.before) c.depth_after-depth.result = waiting-step c.args.opening c.args.closing text o _ _ _ _ _ c.requires.apart c.loop-before.invariant.some c.in-Some.ensures.prev.1 (offset-below _ _ c.in-Some.ensures.prev.0) c.char_at.ensures c.depth_after-depth.ensures c.loop-before.invariant.waiting in
    (c.in-Some.ensures.prev.0, unclosed-before c.args.opening c.args.closing text o other ∙ c.loop-before.invariant.rest ∙ greatest-here (opens_one_more c.args.opening c.args.closing text o) _ _ c.in-Some.ensures.prev.1 (waiting-none c.args.opening c.args.closing text o _ _ (omega (arith, c.in-Some.ensures.prev.1, c.loop-before.invariant.few, c.loop-before.invariant.some)) waiting c.if-depth-eq0.true))

pub loop-before-preserved : goal.loop-before-preserved
loop-before-preserved c =
    let text = c.args.lines.now in
    let o = offset text c.args.from in
    let waiting : IsWaiting c.args.opening c.args.closing text o (offset text c.in-Some.before) c.depth_after-depth.result = waiting-step c.args.opening c.args.closing text o _ _ _ _ _ c.requires.apart c.loop-before.invariant.some c.in-Some.ensures.prev.1 (offset-below _ _ c.in-Some.ensures.prev.0) c.char_at.ensures c.depth_after-depth.ensures c.loop-before.invariant.waiting in
    record {
      place = c.in-Some.ensures.prev.0;
      some = omega (arith, c.if-depth-eq0.false);
      few = omega (arith, c.in-Some.ensures.prev.1, c.depth_after-depth.ensures, depth-le c.args.closing c.args.opening c.char_at.result c.loop-before.depth, c.loop-before.invariant.few);
      waiting = waiting;
      rest = c.loop-before.invariant.rest ∙ greatest-earlier (opens_one_more c.args.opening c.args.closing text o) _ _ c.in-Some.ensures.prev.1 (waiting-some c.args.opening c.args.closing text o _ _ (omega (arith, c.in-Some.ensures.prev.1, c.loop-before.invariant.few, c.loop-before.invariant.some)) waiting (omega (arith, c.if-depth-eq0.false)));
    }

pub returns-clause-gives : goal.returns-clause-gives
returns-clause-gives c =
    let text = c.args.lines.now in
    let o = offset text c.args.from in
    let read = place-read text c.args.from (chars_of c.line.result) c.at.result c.requires.place c.line.ensures.value c.at.ensures in
    let other : holds text c.args.opening o ≡ false = ne_eqb _ _ (λ e. c.if-at-opening.false (sym read ∙ e)) in
    unclosed-before c.args.opening c.args.closing text o other ∙ c.loop-before.invariant.rest ∙ ap (greatest_below (opens_one_more c.args.opening c.args.closing text o)) (c.in_default.ensures.none.0 refl)
