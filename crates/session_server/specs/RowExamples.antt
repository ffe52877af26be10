-- Worked examples of the rows of links: clients 0 and 1 come, and 0 goes; and as many come as there may be.
use Rattle.std.specs.Prelude.{◌≡◌, ℕ, zero, suc, true, false, List, [], ◌∷◌, ◌++◌, codes, Some, None}
use Rattle.key_names.specs.declared.key.Base.TheVariants.{Char, Ret}
use Rattle.key_names.specs.Reading.{bare}
use Rattle.session_turns.specs.Histories.{own}
use Rattle.session_events.specs.declared.event.Event.TheVariants.{Join, Refresh, Leave}
use Rattle.session_events.specs.declared.event.Entry.{Entry}
use Rattle.session_events.specs.Entries.{entry_of}
use Rattle.session_events.specs.Meaning.{rules}
use Rattle.client_links.specs.Wires.{Wire}
use Rattle.link_lines.specs.declared.ended.Ended.TheVariants.{Closed, Full, HistoryFull, Broken}
use Rattle.link_lines.specs.Endings.{HasLeftAt, EndsFor}
use Rattle.kak_engine.specs.Steps.{given_by, crowded_by, parting_by}
use Rattle.session_server.specs.Rows.{opening_keys, seat_by}

abbrev pub both_came : List Entry
both_came = entry_of 1 Join ∷ entry_of 0 Join ∷ entry_of 0 (Refresh true) ∷ []

abbrev pub one_went : List Entry
one_went = both_came ++ entry_of 0 Leave ∷ []

-- what others do behind that
abbrev pub behind : List Entry
behind = entry_of 1 (Refresh false) ∷ []

-- so many clients come, from client 0 on
abbrev pub all_came : ℕ → List Entry
all_came zero = []
all_came (suc count) = all_came count ++ entry_of count Join ∷ []

-- of 64 clients, one goes
abbrev pub place_free : List Entry
place_free = all_came 64 ++ entry_of 0 Leave ∷ []

pub record RowExamples : Type 0 where
  -- a file that is named is opened by the keys of its command, and else no key is struck
  pub file : opening_keys (Some (codes "a")) ≡ bare (Char 58) ∷ bare (Char 101) ∷ bare (Char 100) ∷ bare (Char 105) ∷ bare (Char 116) ∷ bare (Char 32) ∷ bare (Char 39) ∷ bare (Char 97) ∷ bare (Char 39) ∷ bare Ret ∷ []
  pub no_file : opening_keys None ≡ []
  -- whoever was served to the end has left at the end of a front, behind which others may go on
  pub left : HasLeftAt given_by parting_by Closed 0 one_went
  pub others : own (rules given_by) 0 behind ≡ []
  -- a client that is here still hasn't, nor has one behind whose front others went on already
  pub here : HasLeftAt given_by parting_by Closed 0 both_came → ⊥
  pub other_here : HasLeftAt given_by parting_by Closed 1 one_went → ⊥
  pub others_in_front : HasLeftAt given_by parting_by Closed 0 (one_went ++ behind) → ⊥
  -- a client for which there was no room has no entry, and where the history is full it left or never came
  pub no_room : HasLeftAt given_by parting_by Full 2 one_went
  pub came_though_full : HasLeftAt given_by parting_by Full 1 one_went → ⊥
  pub full : HasLeftAt given_by parting_by HistoryFull 0 one_went
  pub full_never_came : HasLeftAt given_by parting_by HistoryFull 2 one_went
  pub full_here : HasLeftAt given_by parting_by HistoryFull 1 one_went → ⊥
  -- 64 clients may be here, and whoever is refused then is so for that
  pub last_place : crowded_by (all_came 63) ≡ false
  pub no_place : crowded_by (all_came 64) ≡ true
  pub place_again : crowded_by place_free ≡ false
  pub refused : (link : Wire) → EndsFor given_by crowded_by parting_by Full (seat_by 1000 64 (all_came 64) None) link link
  -- but nobody is by a front behind which there is a place
  pub refused_later : (link : Wire) → EndsFor given_by crowded_by parting_by Full (seat_by 1000 64 place_free None) link link → ⊥
  -- that the session is broken is told by who had met its mark, and by nobody else
  pub broken : (link : Wire) → EndsFor given_by crowded_by parting_by (Broken 3) (seat_by 1000 1 both_came (Some 3)) link link
  pub broken_later : (link : Wire) → EndsFor given_by crowded_by parting_by (Broken 3) (seat_by 1000 0 one_went None) link link → ⊥
  -- that the history is full is told by who had seen more entries than it may have, though it be full later
  pub filled : (link : Wire) → EndsFor given_by crowded_by parting_by HistoryFull (seat_by 3 0 one_went None) link link
  pub filled_later : (link : Wire) → EndsFor given_by crowded_by parting_by HistoryFull (seat_by 4 0 one_went None) link link → ⊥
