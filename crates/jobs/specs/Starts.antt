-- What the start of a job does.
use Rattle.std.specs.Prelude.{◌≡◌, ℕ, ◌+◌, ◌-◌, ◌^◌, ◌≤◌, min, List, [], ◌∷◌, ◌++◌}
use Rattle.jobs.specs.declared.spawner.Started.{Started}
use Rattle.jobs.specs.declared.spawner.Started.TheVariants.{Runs, Back, NoMemory}

-- a count of faults rose: at the end of its range it stands still, and counts as risen
abbrev pub Rose : ℕ → ℕ → Type 0
Rose before now = min (before + 1) (2 ^ 64 - 1) ≤ now

-- the job was started behind all others, or it is handed back and the others stand as before
abbrev pub Starts : {J : Type 0} → Started J → J → List J → List J → Type 0
Starts Runs job before now = now ≡ before ++ job ∷ []
Starts (Back given) job before now = (given ≡ job) × (now ≡ before)
Starts (NoMemory given) job before now = (given ≡ job) × (now ≡ before)

-- the count of faults rises where a job is handed back for a fault, and only there
abbrev pub StartIsCounted : {J : Type 0} → Started J → ℕ → ℕ → Type 0
StartIsCounted (Back job) before now = Rose before now
StartIsCounted Runs before now = now ≡ before
StartIsCounted (NoMemory job) before now = now ≡ before
