-- What a user interface was told, and what it reports of that.
use Rattle.std.specs.Prelude.{ℕ, List, [], ◌∷◌, ◌++◌}
use Rattle.drawings.specs.declared.drawing.Drawing.{Drawing}
use Rattle.drawings.specs.declared.refusal.Refusal.{Refusal}
use Rattle.json_writing.specs.Drawings.{drawing_bytes}
use Rattle.json_writing.specs.Refusals.{refusal_bytes}
use Rattle.ui_board.specs.Screens.{screen_bytes}
use Rattle.ui_board.specs.declared.ui.Kind.{Kind}
use Rattle.ui_board.specs.declared.ui.Kind.TheVariants.{Json, Silent, Screen}

-- One thing that a user interface is told: what is drawn for its client, or why a line of its client is refused.
pub data Told : Type 0 where
  Drawn : (drawing : Drawing) → Told
  Refused : (refusal : Refusal) → Told

-- What a user interface has shown.
pub record Shown : Type 0 where
  -- its kind, which never changes
  pub kind : Kind
  -- all that it was told, in order
  pub told : List Told

-- a user interface that was told nothing yet
abbrev pub untold : Kind → Shown
untold kind = record { kind = kind; told = [] }

-- after it was told one thing more
abbrev pub telling : Told → Shown → Shown
telling what shown = record { kind = shown.kind; told = shown.told ++ what ∷ [] }

-- the JSON lines of one thing that was told
abbrev pub told_bytes : Told → List ℕ
told_bytes (Drawn drawing) = drawing_bytes drawing
told_bytes (Refused refusal) = refusal_bytes refusal

-- the JSON lines of all that was told, in order
abbrev pub json_lines : List Told → List ℕ
json_lines [] = []
json_lines (what ∷ more) = told_bytes what ++ json_lines more

-- what stands on a screen behind one thing more: a drawing takes the place of what stood there, and a refusal leaves it
abbrev pub screen_after : List ℕ → Told → List ℕ
screen_after before (Drawn drawing) = screen_bytes drawing.lines
screen_after before (Refused refusal) = before

-- what stands there behind some things more
abbrev pub screen_behind : List ℕ → List Told → List ℕ
screen_behind before [] = before
screen_behind before (what ∷ more) = screen_behind (screen_after before what) more

-- what stands there behind all that was told; nothing did at first
abbrev pub screen_text : List Told → List ℕ
screen_text told = screen_behind [] told

-- what a kind of user interface reports of what it was told
abbrev pub kind_report : Kind → List Told → List ℕ
kind_report Json told = json_lines told
kind_report Silent told = []
kind_report Screen told = screen_text told

-- what a user interface reports
abbrev pub report_of : Shown → List ℕ
report_of shown = kind_report shown.kind shown.told
