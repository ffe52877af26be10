-- What the errors say.
use Rattle.std.specs.Prelude.{◌≡◌, ℕ, List, Result, Err}
use Rattle.face_texts.specs.declared.text.FaceError.{FaceError}
use Rattle.face_texts.specs.declared.text.FaceError.TheVariants.{BadFace, Cycle, NoMemory}

-- an error of reading tells the place that the reading gives; memory may run out at any time
abbrev pub IsBadFace : {A : Type 0} → FaceError → Result A ℕ → Type 0
IsBadFace (BadFace at) reading = reading ≡ Err at
IsBadFace (Cycle name) reading = ⊥
IsBadFace NoMemory reading = Unit {0}

-- an error of setting tells the name that bases come back to; memory may run out at any time
abbrev pub IsCycle : {A : Type 0} → FaceError → Result A (List ℕ) → Type 0
IsCycle (BadFace at) setting = ⊥
IsCycle (Cycle name) setting = setting ≡ Err name
IsCycle NoMemory setting = Unit {0}
