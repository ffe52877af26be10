-- The results of jobs, one more at a time.
use Rattle.std.proofs.Common.{◌≡◌, List, [], ◌∷◌, ◌++◌, map, refl, ap, ◌∙◌, subst, sym, append_assoc}
use Rattle.jobs.specs.Meets.{Meet}

-- one more job ended
pub meet-one : {J G : Type 0} (gives : J → G → Type 0) (jobs : List J) (all : List G) (job : J) (given : G) → Meet gives jobs all → gives job given → Meet gives (jobs ++ job ∷ []) (all ++ given ∷ [])
meet-one gives [] [] job given so_far kept = (kept, tt)
meet-one gives (j ∷ jobs) (g ∷ all) job given so_far kept = (so_far.0, meet-one gives jobs all job given so_far.1 kept)
meet-one gives [] (g ∷ all) job given so_far kept = absurd so_far
meet-one gives (j ∷ jobs) [] job given so_far kept = absurd so_far

-- what stands for one more
map-one : {A B : Type 0} (f : A → B) (xs : List A) (x : A) → map f (xs ++ x ∷ []) ≡ map f xs ++ f x ∷ []
map-one f [] x = refl
map-one f (y ∷ xs) x = ap (λ r. f y ∷ r) (map-one f xs x)

-- the same of handles, which stand for jobs
pub meet-one_by : {H J G : Type 0} (job_of : H → J) (gives : J → G → Type 0) (runs : List H) (all more : List G) (run : H) (given : G) → more ≡ all ++ given ∷ [] → Meet gives (map job_of runs) all → gives (job_of run) given → Meet gives (map job_of (runs ++ run ∷ [])) more
meet-one_by {J = J} job_of gives runs all more run given e so_far kept =
    subst (λ (js : List J). Meet gives js more) (sym (map-one job_of runs run))
    (subst (Meet gives (map job_of runs ++ job_of run ∷ [])) (sym e) (meet-one gives (map job_of runs) all (job_of run) given so_far kept))

-- one more was taken from the front of those that are left
pub grows : {A : Type 0} (all taken left rest : List A) (x : A) → all ≡ taken ++ left → left ≡ x ∷ rest → all ≡ taken ++ x ∷ [] ++ rest
grows all taken left rest x e step = e ∙ ap (λ r. taken ++ r) step ∙ sym (append_assoc taken (x ∷ []) rest)
