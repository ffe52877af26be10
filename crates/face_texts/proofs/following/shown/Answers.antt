use Rattle.std.proofs.Common.{◌≡◌, suc, ◌+◌, ◌-◌, length, ap, sym, ◌∙◌, arith}
use Rattle.std.specs.Option.{option_copied}
use Rattle.face_texts.specs.Tables.{chain, face_of}
use Rattle.face_texts.specs.Covers.{face_through}
use Rattle.face_texts.proofs.CoverLemmas.{cover-none}
use Rattle.face_texts.proofs.ChainLemmas.{seen-on, seen-none, seen-last}
use Rattle.face_texts.proofs.following.shown.Goals as goal

pub loop-init : goal.loop-init
loop-init c =
    let all : length c.args.rows.now - 0 ≡ length c.args.rows.now = omega arith in
    record {
      few = omega arith;
      seen = ap (λ v. face_through v (face_of (chain (length c.args.rows.now - 0) c.args.rows.now c.args.text.now))) c.new-cover.ensures
          ∙ cover-none (face_of (chain (length c.args.rows.now - 0) c.args.rows.now c.args.text.now))
          ∙ ap (λ n. face_of (chain n c.args.rows.now c.args.text.now)) all;
    }

pub loop-preserved : goal.loop-preserved
loop-preserved c =
    let one : length c.args.rows.now - c.loop.counter ≡ suc (length c.args.rows.now - (c.loop.counter + 1)) = omega (arith, c.loop-test.true) in
    record {
      few = omega (arith, c.loop-test.true);
      seen = seen-on c.loop.cover c.on-cover.result _ _ c.args.rows.now c.loop.at.now c.in-Some.below.now _ one c.on-cover.ensures
          (sym c.text_of_base.ensures ∙ ap option_copied c.in-Some.is) c.loop.invariant.seen;
    }

pub returns-in_default : goal.returns-in_default
returns-in_default c =
    let one : length c.args.rows.now - c.loop.counter ≡ suc (length c.args.rows.now - (c.loop.counter + 1)) = omega (arith, c.loop-test.true) in
    c.shown.ensures
    ∙ seen-none c.loop.cover c.on-cover.result _ _ c.args.rows.now c.loop.at.now _ one c.on-cover.ensures (sym c.text_of_base.ensures ∙ ap option_copied c.in_default.is) c.loop.invariant.seen

pub returns : goal.returns
returns c =
    let none : length c.args.rows.now - c.loop.counter ≡ 0 = omega (arith, c.loop-test.false) in
    c.shown-2.ensures
    ∙ seen-last c.loop.cover c.on.result _ c.args.rows.now c.loop.at.now _ none c.on.ensures c.loop.invariant.seen
