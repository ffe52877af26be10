-- What a send does.
use Rattle.std.specs.Prelude.{◌≡◌, ℕ, List, Ok, Err}
use Rattle.std.specs.declared.result.Result.{Result}
use Rattle.std.specs.Io.KnownBytes.{Appends}
use Rattle.kak_ports.specs.Ports.{Outlet, AppendsFront, Rose}
use Rattle.session_lines.specs.declared.playing.Stop.{Stop}
use Rattle.session_lines.specs.declared.playing.Stop.TheVariants.{NoMemory, WriteFault}
use Rattle.session_lines.specs.Stops.{NoneFailed}

-- all of the bytes were sent, or a write failed and a front of them was sent
abbrev pub Sends : {A : Type 0} → Result A Stop → Outlet → Outlet → List ℕ → Type 0
Sends (Ok _) old new bytes = Appends old.told new.told bytes
Sends (Err stop) old new bytes = (stop ≡ WriteFault) × AppendsFront old.told new.told bytes

-- the sink counted a write that failed, and none that didn't
abbrev pub Counts : {A : Type 0} → Result A Stop → Outlet → Outlet → Type 0
Counts (Ok _) old new = NoneFailed old new
Counts (Err _) old new = Rose old.faults new.faults

-- why a telling fails: a front was told, and the fault was counted; or memory was wanting, and nothing was told
abbrev pub FailsFor : Stop → Outlet → Outlet → List ℕ → Type 0
FailsFor WriteFault before now bytes = AppendsFront before.told now.told bytes × Rose before.faults now.faults
FailsFor NoMemory before now bytes = now ≡ before
FailsFor _ before now bytes = ⊥

-- what is to be told was told, with no fault, or the telling failed
abbrev pub Tells : {A : Type 0} → Result A Stop → Outlet → Outlet → List ℕ → Type 0
Tells (Ok _) before now bytes = Appends before.told now.told bytes × NoneFailed before now
Tells (Err why) before now bytes = FailsFor why before now bytes
