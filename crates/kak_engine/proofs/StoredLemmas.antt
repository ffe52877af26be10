-- What is left alone is left as it is stored.
use Rattle.std.proofs.Common.{◌≡◌, ℕ, Bool, List, Option, None, Some, refl, get_or}
use Rattle.std.specs.Prelude.{slice_index_or}
use Rattle.kak_world.specs.Stored.{Stored, LeavesSlot, LeavesOthersOf}

slot-same : (who : ℕ) (slot : Option Stored) → LeavesSlot who slot slot
slot-same who None = tt
slot-same who (Some stored) = λ new again other apart has. record { there = has; same = refl }

-- where nothing is done, what others have stored is left so
pub leaves-same : (who : ℕ) (stored : List (Option Stored)) → LeavesOthersOf who stored stored
leaves-same who stored = λ n. slot-same who (slice_index_or stored n None)
