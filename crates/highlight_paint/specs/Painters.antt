-- What highlighters do, and where they are.
use Rattle.std.specs.Prelude.{ℕ, Bool, true, false, List, ◌++◌, map, filter}
use Rattle.scope_options.specs.declared.scope.Scope.{Scope}
use Rattle.scope_options.specs.declared.scope.Scope.TheVariants.{Global, Buffer, Window}
use Rattle.scope_options.specs.Scopes.{is_same_scope}
use Rattle.face_texts.specs.declared.text.FaceText.{FaceText}
use Rattle.highlight_paint.specs.declared.painter.GroupFace.{GroupFace}
use Rattle.highlight_paint.specs.declared.painter.Painter.{Painter}
use Rattle.highlight_paint.specs.declared.painter.Painter.TheVariants.{Fill, Regex, NumberLines, AtLine, AtColumn, ShowWhitespaces, Group}

-- what a highlighter does, with a pattern by the text that it was made of
pub data Paints : Type 0 where
  -- each character of a line has a face
  Fills : FaceText → Paints
  -- the groups of matches have faces
  Matches : List ℕ → List GroupFace → Paints
  -- lines are numbered: whether the main cursor's is seen in another face, and what stands behind the number
  Numbers : Bool → List ℕ → Paints
  -- each character of the line of a number has a face
  MarksLine : ℕ → FaceText → Paints
  -- the character of a number has a face in each line
  MarksColumn : ℕ → FaceText → Paints
  -- whitespace is shown
  ShowsWhitespaces : Paints
  -- others stand below it
  HoldsOthers : Paints

-- what a painter does, where its pattern gives a text
abbrev pub paints_of : {P : Type 0} → (P → List ℕ) → Painter P → Paints
paints_of source (Fill text) = Fills text
paints_of source (Regex pattern groups) = Matches (source pattern) groups
paints_of source (NumberLines marked separator) = Numbers marked separator
paints_of source (AtLine n text) = MarksLine n text
paints_of source (AtColumn n text) = MarksColumn n text
paints_of source ShowWhitespaces = ShowsWhitespaces
paints_of source Group = HoldsOthers

-- whether it is there to have others below it
abbrev pub is_holder : Paints → Bool
is_holder HoldsOthers = true
is_holder _ = false

-- a highlighter: its scope, its path, and what it does
pub record Highlighter : Type 0 where
  pub scope : Scope
  pub path : List ℕ
  pub paints : Paints

abbrev pub highlighter : Scope → List ℕ → Paints → Highlighter
highlighter scope path paints = record { scope = scope; path = path; paints = paints }

-- whether a highlighter is of a scope
abbrev pub is_of_scope : Scope → Highlighter → Bool
is_of_scope scope row = is_same_scope row.scope scope

-- what the highlighters of a scope do, in the order in which they were added
abbrev pub painting_at : Scope → List Highlighter → List Paints
painting_at scope rows = map (λ r. r.paints) (filter (is_of_scope scope) rows)

-- what is done for a client in a buffer: by the global ones, then by the buffer's, then by the window's
abbrev pub painting : ℕ → ℕ → List Highlighter → List Paints
painting buffer client rows =
    painting_at Global rows ++ painting_at (Buffer buffer) rows ++ painting_at (Window client buffer) rows
