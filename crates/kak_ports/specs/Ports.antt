-- What a call of a port does to the bytes behind it, where they are told, and when it may fail.
use Rattle.std.specs.Prelude.{◌≡◌, ℕ, ◌+◌, ◌-◌, ◌^◌, ◌<◌, ◌≤◌, min, List, ◌++◌, length, take}
use Rattle.std.specs.declared.option.Option.{Option}
use Rattle.std.specs.Io.KnownBytes.{Keeps, Appends, Consumes, IsAtEnd}
use Rattle.kak_ports.specs.declared.source.Took.{Took}
use Rattle.kak_ports.specs.declared.source.Took.TheVariants.{Got, End, Failed as TakeFailed}
use Rattle.kak_ports.specs.declared.sink.Put.{Put}
use Rattle.kak_ports.specs.declared.sink.Put.TheVariants.{Done, Failed as PutFailed}

-- What a source is seen as.
pub record Inlet : Type 0 where
  -- the bytes that takes will give from here on, where they are told
  pub left : Option (List ℕ)
  -- the most bytes that one take gives
  pub most : ℕ
  -- how often a take failed
  pub faults : ℕ

-- What a sink is seen as.
pub record Outlet : Type 0 where
  -- the bytes that were put so far, where they are told
  pub told : Option (List ℕ)
  -- how often a put failed
  pub faults : ℕ

-- a count of faults rose: at the end of its range it stands still, and counts as risen
abbrev pub Rose : ℕ → ℕ → Type 0
Rose before now = min (before + 1) (2 ^ 64 - 1) ≤ now

-- A take gave the next bytes of what was left: at least one, at most as many as there was room for, and at most the
-- most that one take gives.
pub record GivesBytes (count : ℕ) (old new : Inlet) (into : List ℕ) : Type 0 where
  pub some : 0 < count
  pub room : count ≤ length into
  pub most : count ≤ old.most
  pub bytes : Consumes old.left new.left (take count into)

-- a take gave the next bytes of what was left, or nothing was left, or it failed and took nothing
abbrev pub Takes : Took → Inlet → Inlet → List ℕ → Type 0
Takes (Got count) old new into = GivesBytes count old new into
Takes End old new into = IsAtEnd old.left × Keeps old.left new.left
Takes TakeFailed old new into = Keeps old.left new.left

-- the count of faults rises where a take fails, and only there
abbrev pub TakeIsCounted : Took → Inlet → Inlet → Type 0
TakeIsCounted TakeFailed old new = Rose old.faults new.faults
TakeIsCounted _ old new = new.faults ≡ old.faults

-- some front of the bytes was added
abbrev pub AppendsFront : Option (List ℕ) → Option (List ℕ) → List ℕ → Type 0
AppendsFront old new bytes = (front : List ℕ) × (rest : List ℕ) × (bytes ≡ front ++ rest) × Appends old new front

-- a put added all of the bytes, or it failed and added a front of them
abbrev pub Puts : Put → Outlet → Outlet → List ℕ → Type 0
Puts Done old new bytes = Appends old.told new.told bytes
Puts PutFailed old new bytes = AppendsFront old.told new.told bytes

-- the count of faults rises where a put fails, and only there
abbrev pub PutIsCounted : Put → Outlet → Outlet → Type 0
PutIsCounted PutFailed old new = Rose old.faults new.faults
PutIsCounted Done old new = new.faults ≡ old.faults
