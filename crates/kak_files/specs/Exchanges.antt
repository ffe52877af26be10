-- What was exchanged with files, in order, and what that tells of what they hold.
use Rattle.std.specs.Prelude.{◌≡◌, ℕ, Bool, true, false, List, [], ◌∷◌, count_by, Some, None}
use Rattle.std.specs.declared.option.Option.{Option}
use Rattle.kak_ports.specs.declared.sink.Put.{Put}
use Rattle.kak_ports.specs.declared.sink.Put.TheVariants.{Done, Failed as PutFailed}
use Rattle.kak_files.specs.declared.files.TheConstants.{MAX_FILE}
use Rattle.kak_files.specs.declared.files.FileRead.{FileRead}
use Rattle.kak_files.specs.declared.files.FileRead.TheVariants.{Failed as ReadFailed}
use Rattle.kak_files.specs.Files.{FileRow, content_of, ToldFiles, Shelf, raised, IsAnswer, content_left_by}

-- One exchange with files. Names are in UTF-8.
pub data Exchange : Type 0 where
  -- a name that was read, and what was answered
  Read : List ℕ → FileRead → Exchange
  -- a name that was written, the bytes, and what was answered
  Written : List ℕ → List ℕ → Put → Exchange

-- what is held after an exchange, by whether a failed write spares what stood under its name
abbrev pub held_behind_exchange : Bool → Exchange → List FileRow → List FileRow
held_behind_exchange spare (Read name answer) held = held
held_behind_exchange spare (Written name bytes answer) held = record { name = name; content = content_left_by answer bytes spare (content_of name held) } ∷ held

-- what is held after some exchanges
abbrev pub held_after : Bool → List Exchange → List FileRow → List FileRow
held_after spare [] held = held
held_after spare (exchange ∷ later) held = held_after spare later (held_behind_exchange spare exchange held)

-- an exchange agrees with what is held: a read of at most `max` bytes is answered by that
abbrev pub Agrees : ℕ → List FileRow → Exchange → Type 0
Agrees max held (Read name answer) = IsAnswer answer max (content_of name held)
Agrees max held (Written name bytes answer) = Unit {0}

-- each exchange agrees with what is held behind those before it
abbrev pub Agree : ℕ → Bool → List FileRow → List Exchange → Type 0
Agree max spare held [] = Unit {0}
Agree max spare held (exchange ∷ later) = Agrees max held exchange × Agree max spare (held_behind_exchange spare exchange held) later

-- whether an exchange failed
abbrev pub exchange_fails : Exchange → Bool
exchange_fails (Read name ReadFailed) = true
exchange_fails (Read name answer) = false
exchange_fails (Written name bytes PutFailed) = true
exchange_fails (Written name bytes Done) = false

-- how many of some exchanges failed
abbrev pub failures : List Exchange → ℕ
failures exchanges = count_by exchange_fails exchanges

-- each name stands for the same here as there
abbrev pub AreAlike : List FileRow → List FileRow → Type 0
AreAlike here there = (name : List ℕ) → content_of name here ≡ content_of name there

-- What files tell that some exchanges led from one moment to another: the exchanges agree with what was held, each name
-- stands for what they leave under it, and all else stays. At most `MAX_FILE` bytes are asked for.
pub record LeadsTo (exchanges : List Exchange) (old new : ToldFiles) : Type 0 where
  pub opening : new.opening ≡ old.opening
  pub spare : new.spare ≡ old.spare
  pub agree : Agree MAX_FILE old.spare old.held exchanges
  pub held : AreAlike new.held (held_after old.spare exchanges old.held)

-- some exchanges led from one moment to another, where files tell what they hold
abbrev pub Leads : List Exchange → Option ToldFiles → Option ToldFiles → Type 0
Leads exchanges None None = Unit {0}
Leads exchanges (Some old) (Some new) = LeadsTo exchanges old new
Leads exchanges old new = ⊥

-- These exchanges, in order, were all that passed between two moments of files: the count of faults rose once for each
-- that failed.
pub record Passed (exchanges : List Exchange) (old new : Shelf) : Type 0 where
  pub told : Leads exchanges old.told new.told
  pub counted : new.faults ≡ raised (failures exchanges) old.faults
