-- What becomes of a job for which a thread was to be made.
use Rattle.std.specs.Prelude.{◌≡◌, Bool}
use Rattle.jobs.specs.declared.spent.Outcome.{Outcome}
use Rattle.jobs.specs.declared.spent.Outcome.TheVariants.{Ran, Recalled}
use Rattle.jobs.specs.declared.threads.Begun.{Begun}
use Rattle.jobs.specs.declared.threads.Begun.TheVariants as begun

-- a job was run, and what it gave keeps its promise; or it was recalled, and may still be run
abbrev pub ComesBack : {J G : Type 0} → (J → Type 0) → (J → G → Type 0) → J → Outcome J G → Type 0
ComesBack ready gives job (Ran given) = gives job given
ComesBack ready gives job (Recalled back) = (back ≡ job) × ready back

-- a job in a thread of its own, and whether that thread was let go
pub record AtWork (J : Type 0) : Type 0 where
  pub job : J
  pub let_go : Bool

-- the job is at work under this handle, or it is handed back
abbrev pub BeginsJob : {J H : Type 0} → (H → J) → J → Begun J H → Type 0
BeginsJob job_of job (begun.There handle) = job_of handle ≡ job
BeginsJob job_of job (begun.Back back) = back ≡ job
BeginsJob job_of job (begun.NoMemory back) = back ≡ job
