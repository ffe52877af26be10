-- Worked examples of when a client is drawn without having asked for it, and of what is due to it: clients 0 and 1 come, and 0
-- is drawn.
use Rattle.std.specs.Prelude.{ℕ, true, false, List, [], ◌∷◌, ◌++◌}
use Rattle.key_names.specs.declared.key.Key.{Key}
use Rattle.session_turns.specs.Turns.{Line, Idle, During}
use Rattle.session_events.specs.declared.event.Event.TheVariants.{Join, Key as Struck, Refresh}
use Rattle.session_events.specs.declared.event.Entry.{Entry}
use Rattle.session_events.specs.Entries.{entry_of}
use Rattle.session_lines.specs.Reading.{IsDueStill}
use Rattle.link_lines.specs.Drawings.{DrawsOnlyMissed}

abbrev pub drawn_once : List Entry
drawn_once = entry_of 1 Join ∷ entry_of 0 Join ∷ entry_of 0 (Refresh true) ∷ []

pub record Examples : Type 0 where
  -- it has missed a key of the other client
  pub key_of_other : (key : Key) → DrawsOnlyMissed 0 (drawn_once ++ entry_of 1 (Struck key) ∷ entry_of 0 (Refresh false) ∷ [])
  -- behind its own drawing nothing is missed
  pub nothing_missed : DrawsOnlyMissed 0 (drawn_once ++ entry_of 0 (Refresh false) ∷ []) → ⊥
  -- nor behind the drawing that showed it what it had missed
  pub drawn_twice : (key : Key) → DrawsOnlyMissed 0 (drawn_once ++ entry_of 1 (Struck key) ∷ entry_of 0 (Refresh false) ∷ entry_of 0 (Refresh false) ∷ []) → ⊥
  -- whoever asks is drawn
  pub asked : DrawsOnlyMissed 0 (drawn_once ++ entry_of 0 (Refresh true) ∷ [])
  -- drawings of others say nothing of it
  pub other_drawn : DrawsOnlyMissed 0 (drawn_once ++ entry_of 1 (Refresh false) ∷ entry_of 1 (Refresh false) ∷ [])
  -- what a line plays is due, and a drawing that nobody asked for where something was missed, and only there
  pub line_due : (line : List ℕ) → IsDueStill 0 drawn_once (During (Line line))
  pub drawing_due : (key : Key) → IsDueStill 0 (drawn_once ++ entry_of 1 (Struck key) ∷ []) (During Idle)
  pub drawing_not_due : IsDueStill 0 drawn_once (During Idle) → ⊥
