-- What is erased at selections keeps their order.
use Rattle.std.proofs.Common.{ℕ, arith}
use Rattle.edit_ops.specs.declared.kinds.Erase.{Erase}
use Rattle.edit_ops.specs.declared.kinds.Erase.TheVariants.{Selection, BeforeCursor, AtCursor}
use Rattle.edit_ops.specs.Erasing.{erasure_at}
use Rattle.edit_ops.proofs.EachLemmas.{KeepsOrder, cursor-in}

pub erasures-keep : (last : ℕ) (what : Erase) → KeepsOrder last (λ n r. erasure_at what r)
erasures-keep last Selection = record {
  ordered = λ n r o h. omega arith;
  ends = λ n r o h. omega arith;
  apart = λ m n r s o h p l. omega arith;
}
erasures-keep last BeforeCursor = record {
  ordered = λ n r o h. omega arith;
  ends = λ n r o h. let c = cursor-in r o in omega (arith, c.1);
  apart = λ m n r s o h p l. let c = cursor-in r o in let d = cursor-in s p in omega (arith, c.1, d.0);
}
erasures-keep last AtCursor = record {
  ordered = λ n r o h. omega arith;
  ends = λ n r o h. let c = cursor-in r o in omega (arith, c.1);
  apart = λ m n r s o h p l. let c = cursor-in r o in let d = cursor-in s p in omega (arith, c.1, d.0);
}
