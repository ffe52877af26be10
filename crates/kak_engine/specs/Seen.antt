-- What the code of a step answers, as the definitions have it.
use Rattle.std.specs.Prelude.{◌≡◌, ℕ, true, List, ◌++◌, Ok, Err, IfSome}
use Rattle.std.specs.declared.result.Result.{Result}
use Rattle.std.specs.declared.alloc.AllocError.{AllocError}
use Rattle.kak_world.specs.declared.ask.Ask.{Ask}
use Rattle.kak_world.specs.declared.ask.EditError.{EditError}
use Rattle.kak_world.specs.Flat.{Flat, acts}
use Rattle.kak_world.specs.Rows.{row_of}
use Rattle.kak_world.specs.Events.{refused, fault_kept}
use Rattle.session_turns.specs.Growth.{Begins}
use Rattle.session_events.specs.declared.event.Answered.{Answered}
use Rattle.kak_engine.specs.declared.ending.Ending.{Ending}
use Rattle.kak_engine.specs.declared.ending.Ending.TheVariants as code
use Rattle.kak_engine.specs.declared.ending.Told.{Told}
use Rattle.kak_engine.specs.declared.ending.Told.TheVariants as code_told
use Rattle.kak_engine.specs.declared.ending.Limit.{Limit}
use Rattle.kak_engine.specs.declared.ending.Limit.TheVariants.{Units, Depth}
use Rattle.kak_engine.specs.Course.{Happened, asks_in}
use Rattle.kak_engine.specs.Wanting.{IsLeftBy}
use Rattle.kak_engine.specs.Doing.{DoingEnd, Fine, Failed, GivenUp, Moment, Part, budget_spent, nested_too_deep}
use Rattle.kak_engine.specs.Honesty.{Outside, IsHonest}

-- the text of a step that was given up at a limit
abbrev pub limit_text : Limit → List ℕ
limit_text Units = budget_spent
limit_text Depth = nested_too_deep

-- how something ended
abbrev pub end_seen : Ending → DoingEnd
end_seen code.Fine = Fine
end_seen (code.Failed fault) = Failed fault
end_seen (code.GivenUp limit) = GivenUp (limit_text limit)

-- a client is told of how its step ended
abbrev pub told_as : Told → ℕ → Flat → Flat
told_as code_told.Nothing who flat = flat
told_as (code_told.Fault fault) who flat = fault_kept who fault flat
told_as (code_told.GivenUp text) who flat = refused who text flat

-- a moment of a step whose answers so far were of the kind that was asked for
abbrev pub moment_of : List Happened → List Answered → Flat → Moment
moment_of course answers flat = record { world = flat; answers = answers; fit = true; course = course }

-- a client acts behind a row, unless memory was wanting for that
abbrev pub ActsBehind : Result Ask EditError → ℕ → Flat → Type 0
ActsBehind (Ok ask) who flat = acts who flat ≡ true
ActsBehind (Err error) who flat = IfSome (row_of error) (λ row. acts who flat ≡ true)

-- a step under way: the world, what the outside answered so far, and the outside
pub record UnderWay : Type 0 where
  pub world : Flat
  pub had : List Answered
  pub outside : Outside

abbrev pub under_way : Flat → List Answered → Outside → UnderWay
under_way world had outside = record { world = world; had = had; outside = outside }

-- A part was done: this happened in it, whatever answers are still to come. The outside answered what it was asked for and
-- nothing else, and was honest in it.
pub record Does (part : Part) (old new : UnderWay) (end : DoingEnd) : Type 0 where
  pub used : List Answered
  pub course : List Happened
  pub kept : new.had ≡ old.had ++ used
  pub leads : (before : List Happened) (later : List Answered) → part (moment_of before (used ++ later) old.world) ≡ record { moment = moment_of (before ++ course) later new.world; end = end }
  pub honest : IsHonest used (asks_in course) old.outside new.outside
  pub left : IsLeftBy (λ x. x ≡ old.world) course new.world

-- A part was begun, and memory was wanting: what happened is a beginning of what happens in the part with the answers that
-- came, the outside was honest in it, and the world is left by it.
pub record IsCutShort (part : Part) (old new : UnderWay) : Type 0 where
  pub used : List Answered
  pub course : List Happened
  pub begins : (before : List Happened) → Begins (part (moment_of before used old.world)).moment.course (before ++ course)
  pub honest : IsHonest used (asks_in course) old.outside new.outside
  pub left : IsLeftBy (λ x. x ≡ old.world) course new.world

-- unless memory was wanting, the part was done and ended as was answered; else it was cut short
abbrev pub PartEnds : Result Ending AllocError → Part → UnderWay → UnderWay → Type 0
PartEnds (Err e) part old new = IsCutShort part old new
PartEnds (Ok ending) part old new = Does part old new (end_seen ending)
