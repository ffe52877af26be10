-- Worked examples of when a replay is over, of who leaves when, and of what is read and answered.
use Rattle.std.specs.Prelude.{◌≡◌, ℕ, true, false, List, [], ◌∷◌, codes, Ok, Err, Some}
use Rattle.kak_ports.specs.Ports.{Inlet}
use Rattle.session_events.specs.declared.event.Event.TheVariants.{Join, Refresh, Leave}
use Rattle.session_events.specs.declared.event.Entry.{Entry}
use Rattle.session_events.specs.Entries.{entry_of}
use Rattle.session_lines.specs.declared.playing.Stop.TheVariants.{HistoryFull, WriteFault}
use Rattle.session_replay.specs.declared.ends.ReplayEnd.TheVariants.{Ended, BadClient}
use Rattle.session_replay.specs.declared.places.ClientPlace.TheVariants as place
use Rattle.session_replay.specs.Clients.{ClientStands}
use Rattle.session_replay.specs.Replays.{has_bad, is_over, leave_in_order, before_leavings, unwritten, AreFirst, IsNeededFor}
use Rattle.session_replay.specs.WholeExample.{lets_go, one_came, IsWholeReplay}

-- two clients have come
abbrev pub both_here : List Entry
both_here = entry_of 0 Join ∷ entry_of 1 Join ∷ entry_of 0 (Refresh true) ∷ []

-- an input of these bytes, of which one take gives at most two
abbrev pub input : List ℕ → Inlet
input bytes = record { left = Some bytes; most = 2; faults = 0 }

-- the table of examples
pub record WorkedExamples : Type 0 where
  -- a replay is over where somebody has left and nobody is here
  pub nobody_came : is_over [] ≡ false
  pub nobody_left : is_over both_here ≡ false
  pub one_left : is_over (entry_of 0 Join ∷ entry_of 1 Join ∷ entry_of 0 Leave ∷ []) ≡ false
  pub both_left : is_over (entry_of 0 Join ∷ entry_of 1 Join ∷ entry_of 1 Leave ∷ entry_of 0 Leave ∷ []) ≡ true
  pub alone_left : is_over (entry_of 5 Join ∷ entry_of 5 (Refresh true) ∷ entry_of 5 Leave ∷ []) ≡ true
  pub came_behind : is_over (entry_of 0 Join ∷ entry_of 0 Leave ∷ entry_of 1 Join ∷ []) ≡ false
  -- at the end they leave by their numbers, and nothing comes behind
  pub rising : leave_in_order (entry_of 0 Leave ∷ entry_of 2 Leave ∷ entry_of 3 Leave ∷ []) ≡ true
  pub falling : leave_in_order (entry_of 2 Leave ∷ entry_of 0 Leave ∷ []) ≡ false
  pub none_leaves : leave_in_order both_here ≡ true
  pub part_of_a_line : leave_in_order (entry_of 1 (Refresh true) ∷ entry_of 0 Leave ∷ entry_of 1 Leave ∷ []) ≡ true
  pub behind_a_leaving : leave_in_order (entry_of 0 Leave ∷ entry_of 1 (Refresh true) ∷ entry_of 1 Leave ∷ []) ≡ false
  pub before_the_end : before_leavings (entry_of 1 (Refresh true) ∷ entry_of 0 Leave ∷ entry_of 1 Leave ∷ []) ≡ entry_of 1 (Refresh true) ∷ []
  -- a client that has no line isn't here
  pub came_early : ClientStands lets_go place.Here 0 one_came [] [] → ⊥
  -- bad lines
  pub no_such_client : has_bad 2 (codes "0 a" ∷ codes "" ∷ codes "2 b" ∷ []) ≡ true
  pub all_good : has_bad 2 (codes "0 a" ∷ codes "" ∷ codes "1 " ∷ []) ≡ false
  -- the lines that were read: 49 is a last part, and no line before the input has ended
  pub some_lines : AreFirst (input (48 ∷ 10 ∷ 10 ∷ 49 ∷ [])) (48 ∷ 10 ∷ 10 ∷ []) ((48 ∷ []) ∷ [])
  pub last_part : AreFirst (input (48 ∷ 10 ∷ 49 ∷ [])) (48 ∷ 10 ∷ 49 ∷ []) ((48 ∷ []) ∷ (49 ∷ []) ∷ [])
  pub cut_off : AreFirst (input (48 ∷ 10 ∷ 49 ∷ 50 ∷ [])) (48 ∷ 10 ∷ 49 ∷ []) ((48 ∷ []) ∷ (49 ∷ []) ∷ []) → ⊥
  -- for one line a take more isn't needed, for the second line it is
  pub taken_ahead : IsNeededFor 1 (input (48 ∷ 10 ∷ 49 ∷ 10 ∷ [])) (48 ∷ 10 ∷ 49 ∷ 10 ∷ []) → ⊥
  pub taken_for_two : IsNeededFor 2 (input (48 ∷ 10 ∷ 49 ∷ 10 ∷ [])) (48 ∷ 10 ∷ 49 ∷ 10 ∷ [])
  pub taken_for_last : IsNeededFor 2 (input (48 ∷ 10 ∷ 49 ∷ [])) (48 ∷ 10 ∷ 49 ∷ [])
  -- what was met first is answered
  pub only_unwritten : unwritten (Ok Ended) ≡ Err WriteFault
  pub bad_before : unwritten (Ok BadClient) ≡ Ok BadClient
  pub full_before : unwritten (Err HistoryFull) ≡ Err HistoryFull
  -- a whole replay
  pub whole : IsWholeReplay
