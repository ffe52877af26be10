-- Worked examples of what a client has missed, and of how many are here: clients 0 and 1 come, and 0 is drawn.
use Rattle.std.specs.Prelude.{◌≡◌, pos, true, false, List, [], ◌∷◌, ◌++◌}
use Rattle.key_names.specs.declared.key.Key.{Key}
use Rattle.mouse_events.specs.declared.mouse.Mouse.{Mouse}
use Rattle.window_view.specs.Sizes.{sized}
use Rattle.session_events.specs.declared.event.Event.TheVariants.{Join, Key as Struck, Resize, Scroll, Mouse as Pointed, Refresh, Leave}
use Rattle.session_events.specs.declared.event.Entry.{Entry}
use Rattle.session_events.specs.Entries.{entry_of}
use Rattle.session_events.specs.Counting.{AreNeverMore}
use Rattle.session_events.specs.Missing.{behind_drawing, has_missed}

abbrev pub both_came : List Entry
both_came = entry_of 1 Join ∷ entry_of 0 Join ∷ []

abbrev pub drawn : List Entry
drawn = both_came ++ entry_of 0 (Refresh true) ∷ []

pub record Examples : Type 0 where
  -- who comes has missed something until it is drawn, even where nothing else happened
  pub came : has_missed 0 both_came ≡ true
  pub was_drawn : has_missed 0 drawn ≡ false
  -- the other client wasn't drawn by that
  pub other_not_drawn : has_missed 1 drawn ≡ true
  -- drawings of others are nothing to be drawn
  pub drawing_of_other : has_missed 0 (drawn ++ entry_of 1 (Refresh false) ∷ entry_of 1 (Refresh true) ∷ []) ≡ false
  -- a key is, the client's own too
  pub key_of_other : (key : Key) → has_missed 0 (drawn ++ entry_of 1 (Struck key) ∷ entry_of 1 (Refresh false) ∷ []) ≡ true
  pub own_key : (key : Key) → has_missed 0 (drawn ++ entry_of 0 (Struck key) ∷ []) ≡ true
  -- and so is a resize, the client's own too
  pub resize_of_other : has_missed 0 (drawn ++ entry_of 1 (Resize (sized 2 3)) ∷ []) ≡ true
  pub own_resize : has_missed 0 (drawn ++ entry_of 0 (Resize (sized 2 3)) ∷ []) ≡ true
  -- and so are scrolling and what a mouse does
  pub own_scroll : has_missed 0 (drawn ++ entry_of 0 (Scroll (pos 3)) ∷ []) ≡ true
  pub mouse_of_other : (mouse : Mouse) → has_missed 0 (drawn ++ entry_of 1 (Pointed mouse) ∷ []) ≡ true
  -- and so is the coming or the going of another
  pub going_of_other : has_missed 0 (drawn ++ entry_of 1 Leave ∷ []) ≡ true
  pub coming_of_other : has_missed 0 (drawn ++ entry_of 2 Join ∷ []) ≡ true
  -- a second drawing shows all that stands before it
  pub drawn_again : (key : Key) → has_missed 0 (drawn ++ entry_of 1 (Struck key) ∷ entry_of 0 (Refresh false) ∷ []) ≡ false
  pub behind_last : (key : Key) → behind_drawing 0 (drawn ++ entry_of 1 (Struck key) ∷ []) ≡ entry_of 1 (Struck key) ∷ []
  -- who hasn't come, or has gone, has missed nothing
  pub never_came : has_missed 2 drawn ≡ false
  pub has_gone : has_missed 0 (both_came ++ entry_of 0 Leave ∷ []) ≡ false
  -- two are here at once, though one goes later; where one goes before the next one comes there is one at a time
  pub two_here : AreNeverMore 2 [] both_came
  pub more_here : AreNeverMore 1 [] (both_came ++ entry_of 0 Leave ∷ []) → ⊥
  pub one_by_one : AreNeverMore 1 [] (entry_of 1 Join ∷ entry_of 1 Leave ∷ entry_of 0 Join ∷ [])
