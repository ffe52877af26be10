-- Worked examples: jobs are numbers, and what a job gives is its square.
use Rattle.std.specs.Prelude.{◌≡◌, ℕ, ◌*◌, ◌^◌, ◌-◌, true, false, [], ◌∷◌}
use Rattle.jobs.specs.declared.spawner.Started.TheVariants.{Runs, Back, NoMemory}
use Rattle.jobs.specs.declared.spent.Outcome.TheVariants.{Ran, Recalled}
use Rattle.jobs.specs.declared.threads.Begun.TheVariants as begun
use Rattle.jobs.specs.Starts.{Starts, StartIsCounted}
use Rattle.jobs.specs.Plans.{is_start_planned, next_number, IsAsPlanned}
use Rattle.jobs.specs.Meets.{Meet}
use Rattle.jobs.specs.Threads.{ComesBack, BeginsJob}

-- the square of a job's number is given
abbrev pub Squares : ℕ → ℕ → Type 0
Squares job given = given ≡ job * job

-- a job may be run where its number isn't 0
abbrev pub IsJobReady : ℕ → Type 0
IsJobReady job = job ≡ 0 → ⊥

pub record Examples : Type 0 where
  -- the results stand in the order of the jobs, one for each
  pub met : Meet Squares (2 ∷ 3 ∷ 4 ∷ []) (4 ∷ 9 ∷ 16 ∷ [])
  pub none : Meet Squares [] []
  pub swapped : Meet Squares (2 ∷ 3 ∷ []) (9 ∷ 4 ∷ []) → ⊥
  pub lost : Meet Squares (2 ∷ 3 ∷ []) (4 ∷ []) → ⊥
  pub more : Meet Squares (2 ∷ []) (4 ∷ 9 ∷ []) → ⊥
  -- a job is started behind those that were started, and only where the answer says so
  pub started : Starts {J = ℕ} Runs 5 (2 ∷ 3 ∷ []) (2 ∷ 3 ∷ 5 ∷ [])
  pub not_started : Starts {J = ℕ} Runs 5 (2 ∷ []) (2 ∷ []) → ⊥
  pub not_behind : Starts {J = ℕ} Runs 5 (2 ∷ []) (5 ∷ 2 ∷ []) → ⊥
  pub back : Starts {J = ℕ} (Back 5) 5 (2 ∷ []) (2 ∷ [])
  pub another_back : Starts {J = ℕ} (Back 4) 5 (2 ∷ []) (2 ∷ []) → ⊥
  pub back_and_started : Starts {J = ℕ} (Back 5) 5 (2 ∷ []) (2 ∷ 5 ∷ []) → ⊥
  pub no_memory : Starts {J = ℕ} (NoMemory 5) 5 (2 ∷ []) (2 ∷ [])
  -- just a job that is handed back for a fault is counted; at its end the count stands still
  pub counted : StartIsCounted {J = ℕ} (Back 5) 1 2
  pub not_counted : StartIsCounted {J = ℕ} (Back 5) 1 1 → ⊥
  pub last_counted : StartIsCounted {J = ℕ} (Back 5) (2 ^ 64 - 1) (2 ^ 64 - 1)
  pub no_fault : StartIsCounted {J = ℕ} Runs 1 2 → ⊥
  pub no_fault_of_memory : StartIsCounted {J = ℕ} (NoMemory 5) 1 2 → ⊥
  -- of the starts 0, 1 and 2 the second is to be handed back
  pub first_planned : is_start_planned (1 ∷ []) 0 ≡ false
  pub second_planned : is_start_planned (1 ∷ []) 1 ≡ true
  pub third_planned : is_start_planned (1 ∷ []) (next_number 1) ≡ false
  pub as_planned : IsAsPlanned {J = ℕ} (Back 5) (is_start_planned (4 ∷ 1 ∷ []) 1)
  pub not_as_planned : IsAsPlanned {J = ℕ} Runs (is_start_planned (4 ∷ 1 ∷ []) 1) → ⊥
  pub unplanned : IsAsPlanned {J = ℕ} (Back 5) (is_start_planned (4 ∷ 1 ∷ []) 2) → ⊥
  -- a job that went to a thread was run or recalled, and a recalled one can still be run
  pub ran : ComesBack IsJobReady Squares 5 (Ran 25)
  pub ran_wrong : ComesBack IsJobReady Squares 5 (Ran 24) → ⊥
  pub recalled : ComesBack {J = ℕ} IsJobReady Squares 5 (Recalled 5)
  pub recalled_another : ComesBack {J = ℕ} IsJobReady Squares 5 (Recalled 4) → ⊥
  pub recalled_unready : ComesBack IsJobReady Squares 0 (Recalled 0) → ⊥
  pub there : BeginsJob {J = ℕ} (λ handle. handle) 5 (begun.There 5)
  pub there_another : BeginsJob {J = ℕ} (λ handle. handle) 5 (begun.There 4) → ⊥
  pub not_there : BeginsJob {J = ℕ} {H = ℕ} (λ handle. handle) 5 (begun.Back 5)
  pub not_there_another : BeginsJob {J = ℕ} {H = ℕ} (λ handle. handle) 5 (begun.Back 4) → ⊥
