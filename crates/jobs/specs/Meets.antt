-- What the results of jobs are.
use Rattle.std.specs.Prelude.{List, [], ◌∷◌}

-- the results of jobs, in order and one for each: each keeps the promise of its job
abbrev pub Meet : {J G : Type 0} → (J → G → Type 0) → List J → List G → Type 0
Meet gives [] [] = Unit {0}
Meet gives (job ∷ jobs) (given ∷ all) = gives job given × Meet gives jobs all
Meet gives [] (given ∷ all) = ⊥
Meet gives (job ∷ jobs) [] = ⊥
