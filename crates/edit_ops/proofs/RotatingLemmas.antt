-- Characters that are put in the place of those of selections keep their order, and texts that change places their number.
use Rattle.std.proofs.Common.{◌≡◌, ℕ, ◌-◌, List, [], ◌∷◌, ◌++◌, length, take, drop, get_or, sym, ap, ◌∙◌, arith, length-append, length-take, length-drop}
use Rattle.std.proofs.Math.Seq.{get_or-append_seam}
use Rattle.list_model.specs.Ranges.{Range}
use Rattle.directions.specs.declared.direction.Direction.{Direction}
use Rattle.directions.specs.declared.direction.Direction.TheVariants.{Forward, Backward}
use Rattle.edit_ops.specs.Putting.{put_over}
use Rattle.edit_ops.specs.Rotating.{rotated}
use Rattle.edit_ops.proofs.EachLemmas.{KeepsOrder}

pub over-keeps : (last : ℕ) (string : ℕ → Range → List ℕ) → KeepsOrder last (λ n r. put_over (string n r) r)
over-keeps last string = record {
  ordered = λ n r o h. omega arith;
  ends = λ n r o h. omega arith;
  apart = λ m n r s o h p l. omega arith;
}

pub length-rotated : (direction : Direction) (ts : List (List ℕ)) → length (rotated direction ts) ≡ length ts
length-rotated Forward ts =
    omega (arith, length-append (drop (length ts - 1) ts) (take (length ts - 1) ts), length-drop (length ts - 1) ts, length-take (length ts - 1) ts)
length-rotated Backward ts = omega (arith, length-append (drop 1 ts) (take 1 ts), length-drop 1 ts, length-take 1 ts)

-- the text that is next among all of them
pub text-next : (done rest all : List (List ℕ)) (t : List ℕ) → done ++ t ∷ rest ≡ all → t ≡ get_or all (length done) []
text-next done rest all t e = sym (get_or-append_seam done t rest []) ∙ ap (λ ts. get_or ts (length done) []) e
