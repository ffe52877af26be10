-- Worked examples of what replacements put in together, which hold by computation.
use Rattle.std.specs.Prelude.{◌≡◌, false, None, [], ◌∷◌, codes}
use Rattle.list_model.specs.Ranges.{Range, only}
use Rattle.edit_ops.specs.declared.kinds.Put.TheVariants.{Over}
use Rattle.edit_ops.specs.Putting.{puts}
use Rattle.edit_ops.specs.Crowding.{put_together}

-- all characters of "abc" and its newline
abbrev pub all_chars : Range
all_chars = record { low = 0; high = 3; turned = false; target = None }

pub record CrowdExamples : Type 0 where
  pub none : put_together [] ≡ 0
  pub last_one_beyond : put_together (puts (codes "abc\n") Over (codes "x" ∷ codes "yz" ∷ []) (only 0 ∷ only 1 ∷ only 2 ∷ [])) ≡ 5
  pub no_strings : put_together (puts (codes "abc\n") Over [] (only 0 ∷ only 1 ∷ [])) ≡ 0
  -- what is taken out doesn't count, nor that a newline is added or stays
  pub what_is_put_alone : put_together (puts (codes "abc\n") Over (codes "x\n" ∷ []) (all_chars ∷ [])) ≡ 2
