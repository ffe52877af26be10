use Rattle.std.proofs.Common.{◌≡◌, ℕ, List, length, map, ap, sym, ◌∙◌, arith}
use Rattle.std.specs.Prelude.{chars}
use Rattle.std.proofs.lemmas.List.{length-map}
use Rattle.edit_ops.proofs.CrowdingLemmas.{together-next, beyond-last}
use Rattle.edit_ops.proofs.crowding.are_crowded.Goals as goal

pub loop-n-preserved : goal.loop-n-preserved
loop-n-preserved c =
    let strings : List (List ℕ) = map (λ w. chars w) c.args.strings.now in
    let long : length strings ≡ length c.args.strings.now = length-map c.args.strings.now (λ w. chars w) in
    record {
      left = omega (arith, c.loop-n.invariant.left, together-next strings c.loop-n.n c.args.count c.loop-n-test.true, c.length_of-last.ensures, c.if-room-last.false);
      beyond = λ h. c.length_of-last.ensures ∙ ap length (sym (beyond-last strings c.loop-n.n (omega arith)));
    }
