-- The promise that the result of a job keeps.
use Rattle.std.specs.Prelude.{◌≡◌, Bool, true, false, Option, Some, None}
use Rattle.jobs.specs.declared.running.Running.{Running}
use Rattle.jobs.specs.declared.running.Running.TheVariants.{There, Here}

-- the result, from wherever it comes, keeps the promise
abbrev pub KeepsPromise : {T P : Type 0} → (P → T → Type 0) → Running T P → P → Type 0
KeepsPromise kept_by (There handle) promise = handle.promise ≡ promise
KeepsPromise kept_by (Here given) promise = kept_by promise given

-- a result is to be had, which keeps the promise
abbrev pub IsOwed : {T P : Type 0} → (P → T → Type 0) → Option (Running T P) → P → Type 0
IsOwed kept_by (Some running) promise = KeepsPromise kept_by running promise
IsOwed kept_by None promise = ⊥

-- whether the thread was let go from which a result came: it is here
abbrev pub is_let_go : {T P : Type 0} → Option (Running T P) → Bool
is_let_go (Some (Here given)) = true
is_let_go _ = false
