use Rattle.std.proofs.Common.{◌≡◌, ◌+◌, ◌<◌, length, take, slice_range, ap, ◌∙◌, arith, inl, inr}
use Rattle.std.proofs.lemmas.Bool.{cases_lt}
use Rattle.face_grounds.specs.Grounds.{ground_at, over_all}
use Rattle.face_grounds.proofs.LayLemmas.{laid-block, laid-one, some_over}
use Rattle.face_grounds.proofs.ground.Ground.lay_all.Goals as goal

pub loop-at-preserved : goal.loop-at-preserved
loop-at-preserved c =
    let os = c.args.overs.now in
    let at = c.loop-at.at in
    let to = c.ascending_to-to.result in
    let there : at < length c.args.overs.now = omega (arith, c.loop-at-test.true) in
    record {
      inside = omega (arith, c.max-at.ensures, c.ascending_to-to.ensures.inside, there);
      laid = λ n.
          c.in_ok-lay_block.ensures n
          ∙ ap (over_all (slice_range c.args.overs.now c.loop-at.at c.ascending_to-to.result) n) (c.loop-at.invariant.laid n)
          ∙ laid-block c.args.overs.now c.loop-at.at c.ascending_to-to.result n (ground_at c.args.self.now n) c.ascending_to-to.ensures.from
          ∙ elim (cases_lt c.loop-at.at c.ascending_to-to.result) [
            | inl lt ↦ let e : c.ascending_to-to.result ≡ c.max-at.result = omega (arith, c.max-at.ensures) in ap (λ i. over_all (take i c.args.overs.now) n (ground_at c.args.self.now n)) e
            | inr ge ↦
                let same : c.ascending_to-to.result ≡ c.loop-at.at = omega (arith, c.ascending_to-to.ensures.from) in
                let e : c.loop-at.at + 1 ≡ c.max-at.result = omega (arith, c.max-at.ensures) in
                ap (λ i. over_all (take i c.args.overs.now) n (ground_at c.args.self.now n)) same
                ∙ laid-one c.args.overs.now c.loop-at.at n (ground_at c.args.self.now n) some_over there (λ f. c.ascending_to-to.ensures.stuck same there some_over n f)
                ∙ ap (λ i. over_all (take i c.args.overs.now) n (ground_at c.args.self.now n)) e
          ];
    }
