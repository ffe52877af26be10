-- What a client records, as its keys are struck.
use Rattle.std.specs.Prelude.{ℕ, true, if◌then◌else◌, [], ◌∷◌, ◌++◌, option_map}
use Rattle.std.specs.declared.option.Option.{Option}
use Rattle.key_names.specs.declared.key.Key.{Key}
use Rattle.kak_world.specs.declared.own.Recording.{Recording}
use Rattle.kak_world.specs.Flat.{Flat, with_own}

-- what is recorded when a key begins takes it: one that the key itself begins doesn't
abbrev pub listens : Option Recording → Option Recording
listens recording = option_map {T = Recording} {U = Recording} (λ r. record r { listens = true }) recording

-- with a key behind those that were struck, where it is taken
abbrev pub with_struck : Key → Recording → Recording
with_struck key r = if r.listens then record r { struck = r.struck ++ key ∷ [] } else r

-- the world when a key ends: what its client still records has it, where it did so when the key began
abbrev pub recorded : ℕ → Key → Flat → Flat
recorded who key flat = with_own who (λ o. record o { recording = option_map (with_struck key) o.recording }) flat
