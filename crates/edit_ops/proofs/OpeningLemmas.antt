-- Lines opened at selections keep their order.
use Rattle.std.proofs.Common.{ℕ, List, length, arith}
use Rattle.directions.specs.declared.direction.Direction.{Direction}
use Rattle.directions.specs.declared.direction.Direction.TheVariants.{Forward, Backward}
use Rattle.edit_ops.specs.Putting.{put_in_at}
use Rattle.edit_ops.specs.Opening.{opened_from}
use Rattle.edit_ops.proofs.EachLemmas.{KeepsOrder}
use Rattle.edit_ops.proofs.PuttingLemmas.{line_begin-le, line_begin-rises, line_behind-le, line_behind-rises}

pub opens-keep : (text : List ℕ) (direction : Direction) (s : List ℕ) → KeepsOrder (length text) (λ n r. put_in_at (opened_from text direction r) s)
opens-keep text Forward s = record {
  ordered = λ n r o h. omega arith;
  ends = λ n r o h. line_behind-le text r.high h;
  apart = λ m n r q o h p l. line_behind-rises text r.high q.high (omega arith) l;
}
opens-keep text Backward s = record {
  ordered = λ n r o h. omega arith;
  ends = λ n r o h. omega (arith, line_begin-le text r.low (omega arith));
  apart = λ m n r q o h p l. line_begin-rises text r.low q.low (omega arith) (omega arith);
}
