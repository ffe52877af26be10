use Rattle.std.proofs.Common.{◌≡◌, suc, ◌+◌, ◌-◌, length, ap, sym, ◌∙◌, arith}
use Rattle.std.specs.Option.{option_copied}
use Rattle.face_texts.proofs.ChainLemmas.{back-on}
use Rattle.face_texts.proofs.following.comes_back.Goals as goal

pub loop-preserved : goal.loop-preserved
loop-preserved c =
    let one : length c.args.rows.now - c.loop.counter ≡ suc (length c.args.rows.now - (c.loop.counter + 1)) = omega (arith, c.loop-test.true) in
    record {
      few = omega (arith, c.loop-test.true);
      rest = back-on c.args.name.now _ _ c.args.rows.now c.loop.at.now c.in-Some.below.now _ one
          (sym c.is_based_on.ensures ∙ c.if-is_based_on.false) (sym c.text_of_base.ensures ∙ ap option_copied c.in-Some.is) c.loop.invariant.rest;
    }
