-- Which calls of a port are planned to fail.
use Rattle.std.specs.Prelude.{ℕ, ◌+◌, ◌-◌, ◌^◌, ◌==◌, min, Bool, true, false}
use Rattle.std.specs.List.{list_any}
use Rattle.kak_ports.specs.declared.memory.FailingCalls.{FailingCalls}

-- whether the next call is planned to fail: the plan has its number, which is how many calls were made before it
abbrev pub is_planned : FailingCalls → Bool
is_planned plan = list_any (λ number. number == plan.made) plan.failing.items

-- the plan behind one call more; at the end of its range the count of calls stands still
abbrev pub after_call : FailingCalls → FailingCalls
after_call plan = record plan { made = min (plan.made + 1) (2 ^ 64 - 1) }

-- how many faults were counted behind a call that failed or passed, where so many were before it; at the end of its range
-- the count stands still
abbrev pub faults_after : Bool → ℕ → ℕ
faults_after true before = min (before + 1) (2 ^ 64 - 1)
faults_after false before = before
