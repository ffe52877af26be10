-- What the answer of a reading says: it has the place of the client's line in place of that line.
use Rattle.std.specs.Prelude.{ℕ, List, drop}
use Rattle.session_replay.specs.Written.{Written, Blank, Of, Bad}
use Rattle.session_replay.specs.declared.written.Written as answer
use Rattle.session_replay.specs.declared.written.Written.TheVariants as variant

-- what an answer says of a line: the client's line begins at the place
abbrev pub written_at : List ℕ → answer.Written → Written
written_at line variant.Blank = Blank
written_at line (variant.Of who from) = Of who (drop from line)
written_at line variant.Bad = Bad

-- of an answer that names a client and a place, this holds of the two
abbrev pub IfOf : answer.Written → (ℕ → ℕ → Type 0) → Type 0
IfOf variant.Blank Holds = Unit {0}
IfOf (variant.Of who from) Holds = Holds who from
IfOf variant.Bad Holds = Unit {0}
