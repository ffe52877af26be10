-- What a maker of patterns may answer.
use Rattle.std.specs.Prelude.{ℕ, ◌+◌, ◌-◌, ◌^◌, ◌≤◌, min}
use Rattle.regex_ports.specs.declared.maker.Made.{Made}
use Rattle.regex_ports.specs.declared.maker.Made.TheVariants.{Built, Refused}

-- a count of refusals rose: at the end of its range it stands still, and counts as risen
abbrev pub Rose : ℕ → ℕ → Type 0
Rose before now = min (before + 1) (2 ^ 64 - 1) ≤ now

-- a fact of the pattern, where one was built
abbrev pub IfBuilt : {P : Type 0} → Made P → (P → Type 0) → Type 0
IfBuilt (Built p) Holds = Holds p
IfBuilt Refused Holds = Unit {0}

-- a pattern is refused only where the count of refusals rises, which never falls
abbrev pub IsCounted : {P : Type 0} → Made P → ℕ → ℕ → Type 0
IsCounted (Built p) before now = before ≤ now
IsCounted Refused before now = Rose before now

-- no pattern was built
abbrev pub IsRefused : {P : Type 0} → Made P → Type 0
IsRefused (Built p) = ⊥
IsRefused Refused = Unit {0}
