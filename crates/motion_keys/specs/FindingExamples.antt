-- Worked examples of what becomes of a selection by a motion, which hold by computation.
use Rattle.std.specs.Prelude.{◌≡◌, ℕ, true, false, None, Some, codes}
use Rattle.list_model.specs.Ranges.{Range, only}
use Rattle.directions.specs.declared.direction.Direction.TheVariants.{Forward, Backward}
use Rattle.motion_keys.specs.declared.landmarks.LinePart.TheVariants.{ToStart}
use Rattle.motion_keys.specs.declared.landmarks.Place.TheVariants.{LastLine}
use Rattle.motion_keys.specs.declared.finding.Motion.TheVariants.{Step, Line, Page, Character, To, Along, Bracket}
use Rattle.motion_keys.specs.declared.finding.Reach.TheVariants.{Select, Extend}
use Rattle.motion_keys.specs.Jumps.{search_of}
use Rattle.motion_keys.specs.Examples.{turned_from}
use Rattle.motion_keys.specs.LandmarkExamples.{view}
use Rattle.motion_keys.specs.Finding.{found, moved}

-- a straight selection, with a target and without
abbrev pub aimed : ℕ → ℕ → ℕ → Range
aimed target a b = record { low = a; high = b; turned = false; target = Some target }

abbrev pub straight : ℕ → ℕ → Range
straight a b = record { low = a; high = b; turned = false; target = None }

pub record FindingExamples : Type 0 where
  pub a_step_is_one_character : found (Step Forward) (view 0 9) 8 (codes "abc\n") (straight 0 1) ≡ Some (only 2)
  pub a_line_up : found (Line Backward) (view 0 9) 8 (codes "ab\ncd\n") (only 4) ≡ Some (aimed 1 1 1)
  pub a_page_is_the_window : found (Page Forward) (view 0 2) 8 (codes "a\nb\nc\nd\n") (only 0) ≡ Some (aimed 0 4 4)
  pub a_page_up : found (Page Backward) (view 0 2) 8 (codes "a\nb\nc\nd\n") (only 6) ≡ Some (aimed 0 2 2)
  pub along_the_line : found (Along ToStart) (view 0 9) 8 (codes "abc\n") (only 2) ≡ Some (turned_from 0 2)
  pub no_bracket : found Bracket (view 0 9) 8 (codes "abc\n") (only 0) ≡ None
  pub it_is_selected : moved (Character (search_of true true) 99) Select (view 0 9) 8 (codes "abc\n") (straight 0 1) ≡ straight 1 2
  pub it_is_reached : moved (Character (search_of true true) 99) Extend (view 0 9) 8 (codes "abc\n") (straight 0 1) ≡ straight 0 2
  pub the_anchor_is_passed : moved (Step Backward) Extend (view 0 9) 8 (codes "abc\n") (turned_from 1 2) ≡ turned_from 0 2
  pub the_target_is_taken : moved (Line Forward) Extend (view 0 9) 8 (codes "ab\ncd\n") (aimed 5 0 1) ≡ aimed 5 0 4
  pub a_place_loses_it : moved (To LastLine) Extend (view 0 9) 8 (codes "ab\ncd\n") (aimed 5 0 1) ≡ straight 0 3
  pub without_a_place_it_stays : moved (Step Forward) Select (view 0 9) 8 (codes "ab\n") (turned_from 2 2) ≡ turned_from 2 2
