-- The kinds of lines that runs are made of.
use Rattle.std.specs.Prelude.{ℕ, Bool, List}
use Rattle.text_objects.specs.declared.line_runs.LineKind.{LineKind}
use Rattle.text_objects.specs.declared.line_runs.LineKind.TheVariants.{Full, Empty, Indented}
use Rattle.text_objects.specs.LineObjects.{is_full, is_empty, is_indented}

-- whether a line is of a kind, by its number
abbrev pub is_line_of : LineKind → List ℕ → ℕ → Bool
is_line_of Full text n = is_full text n
is_line_of Empty text n = is_empty text n
is_line_of (Indented least tabstop) text n = is_indented text tabstop.columns least n
