-- Which starts are planned to be handed back.
use Rattle.std.specs.Prelude.{◌≡◌, ◌==◌, ◌+◌, ◌-◌, ◌^◌, ℕ, min, Bool, true, false, List}
use Rattle.std.specs.List.{list_any}
use Rattle.jobs.specs.declared.spawner.Started.{Started}
use Rattle.jobs.specs.declared.spawner.Started.TheVariants.{Runs, Back, NoMemory}

-- whether the start with this number is to be handed back
abbrev pub is_start_planned : List ℕ → ℕ → Bool
is_start_planned back made = list_any (λ number. number == made) back

-- the number of the next start: at the end of its range it stands still
abbrev pub next_number : ℕ → ℕ
next_number made = min (made + 1) (2 ^ 64 - 1)

-- a job is handed back for a fault where that was planned, and only there
abbrev pub IsAsPlanned : {J : Type 0} → Started J → Bool → Type 0
IsAsPlanned (Back job) planned = planned ≡ true
IsAsPlanned Runs planned = planned ≡ false
IsAsPlanned (NoMemory job) planned = planned ≡ false
