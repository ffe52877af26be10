-- Selection lists that lag behind the changes of their text.
use Rattle.std.specs.Prelude.{◌≡◌, ℕ, ◌≤◌, ◌-◌, List, map, drop}
use Rattle.text_model.specs.declared.coords.Shift.{Shift}
use Rattle.text_model.specs.Texts.{IsStored}
use Rattle.text_model.specs.Changes.{Change, all_changed}
use Rattle.selection_set.specs.Listing.{Listed}
use Rattle.selection_set.specs.Held.{IsHeld}
use Rattle.selection_set.specs.Sweeping.{swept_listed}
use Rattle.selection_map.specs.Reaching.{through}
use Rattle.selection_map.specs.Catching.{AreShiftsOf}
use Rattle.change_list.specs.Logs.{Logged, stamp_of}
use Rattle.list_shelf.specs.declared.lag.Lag.{Lag}

-- the shifts of a log from a stamp on
abbrev pub since : Logged → ℕ → List Shift
since log stamp = drop (stamp - log.first) log.shifts

-- a list mapped through each of some shifts, and settled once
abbrev pub caught : List Shift → Listed → Listed
caught shifts s = swept_listed (record { list = map (through shifts) s.list; main = s.main })

-- what a list is seen as: the list through each shift from its stamp on
abbrev pub seen_by : Logged → Lag → Listed
seen_by log lag = caught (since log lag.stamp) lag.sels

-- a list that was brought up to date: it is what it was seen as, and its stamp is the log's
abbrev pub up_to_date : Logged → Lag → Lag
up_to_date log lag = record { stamp = stamp_of log; sels = seen_by log lag }

-- a list that was brought up to date for a log that begins again, at stamp 0
abbrev pub renewed : Logged → Lag → Lag
renewed log lag = record { stamp = 0; sels = seen_by log lag }

-- a list that went through shifts that no log holds
abbrev pub gone_through : List Shift → Lag → Lag
gone_through shifts lag = record { stamp = lag.stamp; sels = caught shifts lag.sels }

-- a list lags behind a text: its stamp is one of the log's, and it is held in an old text, from which single changes with the
-- log's shifts from its stamp on lead to the text as it is now
pub record Lags (text : List ℕ) (log : Logged) (lag : Lag) : Type 0 where
  pub old : List ℕ
  pub changes : List Change
  pub stored : IsStored old
  pub shifts_are : AreShiftsOf old changes (since log lag.stamp)
  pub text_is : all_changed old changes ≡ text
  pub held : IsHeld old lag.sels
  pub first : log.first ≤ lag.stamp
  pub last : lag.stamp ≤ stamp_of log

-- there is a text behind which a list lags
pub record IsLagging (log : Logged) (lag : Lag) : Type 0 where
  pub text : List ℕ
  pub lags : Lags text log lag
