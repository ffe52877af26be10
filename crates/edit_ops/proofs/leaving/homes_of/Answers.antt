use Rattle.std.proofs.Common.{◌≡◌, ℕ, List, ◌+◌, ◌-◌, ◌<◌, [], ◌∷◌, ◌++◌, length, drop, ap, ap₂, sym, ◌∙◌, arith}
use Rattle.std.proofs.lemmas.List.{length_push}
use Rattle.text_model.specs.declared.coords.Coord.{Coord}
use Rattle.text_model.specs.declared.coords.Shift.{Shift}
use Rattle.edit_ops.specs.Passing.{ended, homes}
use Rattle.edit_ops.proofs.HomeLemmas.{home-of-rest, homes-more}
use Rattle.edit_ops.proofs.leaving.homes_of.Goals as goal

pub ended-home-requires : goal.ended-home-requires
ended-home-requires c =
    let shifts : List Shift = c.args.shifts.now in
    let at : length shifts - c.loop-n.n ≡ length shifts - 1 - c.loop-n.n + 1 = omega arith in
    home-of-rest shifts c.as_slice.result.now (length shifts - 1 - c.loop-n.n + 1) (c.as_slice.ensures.value ∙ c.loop-n.invariant.so_far ∙ ap (λ n. homes (drop n shifts)) at)

pub loop-n-preserved : goal.loop-n-preserved
loop-n-preserved c =
    let shifts : List Shift = c.args.shifts.now in
    let left : ℕ = length shifts - 1 - c.loop-n.n in
    let there : left < length shifts = omega arith in
    let at : length shifts - c.loop-n.n ≡ left + 1 = omega arith in
    let down : left ≡ length shifts - (c.loop-n.n + 1) = omega arith in
    let pushed = c.push_reserved.ensures.items in
    record {
      so_far = pushed ∙ ap₂ (λ (xs : List Coord) (x : Coord). xs ++ x ∷ []) (c.loop-n.invariant.so_far ∙ ap (λ n. homes (drop n shifts)) at) (c.ended-home.ensures ∙ ap (ended (drop (left + 1) shifts)) c.map_one-at.ensures.mapped)
          ∙ sym (homes-more shifts left there) ∙ ap (λ n. homes (drop n shifts)) down;
      count = ap length pushed ∙ length_push c.loop-n.homes.items c.ended-home.result ∙ ap (λ n. n + 1) c.loop-n.invariant.count;
      reserved = omega (arith, c.push_reserved.ensures.capacity, c.loop-n.invariant.reserved);
    }
