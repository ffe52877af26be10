-- A whole replay of two clients: the first one comes, the second one comes and is let go, and the first one leaves at the
-- end.
use Rattle.std.specs.Prelude.{ℕ, ◌==◌, true, List, [], ◌∷◌, ◌++◌, codes, Ok, Some}
use Rattle.ui_board.specs.declared.ui.Kind.TheVariants.{Json, Silent}
use Rattle.ui_board.specs.Told.{untold}
use Rattle.ui_board.specs.Boards.{seat_at}
use Rattle.session_events.specs.declared.event.Event.TheVariants.{Join, Refresh, Leave}
use Rattle.session_events.specs.declared.event.Entry.{Entry}
use Rattle.session_events.specs.Entries.{entry_of}
use Rattle.session_events.specs.Meaning.{no_output}
use Rattle.requests.specs.declared.request.Request.TheVariants.{Nothing}
use Rattle.session_replay.specs.Settings.{Setting, setting}
use Rattle.session_replay.specs.declared.ends.ReplayEnd.TheVariants.{Ended}
use Rattle.session_replay.specs.Replays.{WasReplayed}

-- client 1 may leave as soon as it has come, nothing is drawn, and no line asks for anything
abbrev pub lets_go : Setting
lets_go = setting (λ before entry. record no_output { leaving = entry.who == 1 }) (λ line. Ok Nothing)

-- a line of client 0, one of client 1, a blank one, and one of client 1 again, which is passed over
abbrev pub typed_lines : List ℕ
typed_lines = codes "0 \n01 \n\n1 "

-- what stands behind the first line, behind the second, and at the end
abbrev pub one_came : List Entry
one_came = entry_of 0 Join ∷ entry_of 0 (Refresh true) ∷ []

abbrev pub one_went_first : List Entry
one_went_first = one_came ++ entry_of 1 Join ∷ entry_of 1 (Refresh true) ∷ entry_of 1 Leave ∷ []

abbrev pub both_went : List Entry
both_went = one_went_first ++ entry_of 0 Leave ∷ []

-- this is a replay of those bytes, of which one take gives them all
abbrev pub IsWholeReplay : Type 0
IsWholeReplay = WasReplayed lets_go 100 (Json ∷ Silent ∷ []) (λ who. seat_at who (Some (untold Json) ∷ Some (untold Silent) ∷ [])) both_went
    (record { left = Some typed_lines; most = 4096; faults = 0 }) (record { left = Some []; most = 4096; faults = 0 })
    (record { told = Some []; faults = 0 }) (record { told = Some []; faults = 0 }) (Ok Ended)
