-- The seat of one client at a desk.
use Rattle.std.specs.Prelude.{◌≡◌, ℕ, Bool, not, ◌&&◌, List, IfSome, Some, None}
use Rattle.std.specs.declared.option.Option.{Option}
use Rattle.session_turns.specs.Growth.{Begins}
use Rattle.session_desk.specs.Histories.{Met}
use Rattle.session_desk.specs.Tokens.{Home, DeskPlace, IsOf, PassView}
use Rattle.session_events.specs.declared.event.Entry.{Entry}
use Rattle.session_events.specs.declared.fault.StepFault.{StepFault}
use Rattle.session_events.specs.declared.fault.StepFault.TheVariants.{Broken, NoMemory}
use Rattle.session_events.specs.declared.kind.Kind.{Kind}
use Rattle.session_events.specs.Entries.{is_going, draws}
use Rattle.session_events.specs.Seats.{Seated}
use Rattle.session_events.specs.Missing.{has_missed}
use Rattle.engine_desk.specs.Sharing.{Frame}

-- A seat: the desk, the client's pass, what this had seen when the seat was made, and the mark of the session where the client
-- was told it.
pub record DeskSeated : Type 0 where
  pub home : Home Frame
  pub pass : PassView Entry Frame
  pub first : List Entry
  pub told : Option ℕ

-- a seat whose client was told no mark
abbrev pub new_seat : Home Frame → PassView Entry Frame → DeskSeated
new_seat home pass = record { home = home; pass = pass; first = pass.seen; told = None }

-- what it is to its client: others play too
abbrev pub desk_seat_of : DeskSeated → Seated
desk_seat_of seat = record {
  number = seat.pass.number;
  limit = seat.home.frame.limit;
  mark = seat.told;
  seen = seat.pass.seen;
  others = None;
}

-- what no step changes: the desk, that the pass is of this desk, and what it had seen at first
pub record AtDesk : Type 0 where
  pub home : Home Frame
  pub place : DeskPlace Frame
  pub first : List Entry

abbrev pub desk_of : DeskSeated → AtDesk
desk_of seat = record { home = seat.home; place = seat.pass.place; first = seat.first }

-- The pass is of the desk. A mark that the client was told is the one that the pass has met. Where it is known whether the
-- client has missed something, that is so. What the pass had seen at first stands in front of what it has seen.
pub record IsAtDesk (home : Home Frame) (pass : PassView Entry Frame) (first : List Entry) (told : Option ℕ) (missed : Option Bool) : Type 0 where
  pub own : IsOf pass.place home
  pub met : Met told pass.mark
  pub known : IfSome missed (λ m. m ≡ has_missed pass.number pass.seen)
  pub begins : Begins pass.seen first

-- the mark that a client was told, behind a refusal: that of a session which was found to be broken, or broke then
abbrev pub told_behind : StepFault → Option ℕ → ℕ → Option ℕ
told_behind (Broken at) told count = Some at
told_behind NoMemory told count = Some count
told_behind _ told count = told

-- whether a client has missed something behind an event of its own, of some kind: what it did wasn't drawn yet
abbrev pub missed_behind : Kind → Bool
missed_behind kind = not (draws kind) && not (is_going kind)
