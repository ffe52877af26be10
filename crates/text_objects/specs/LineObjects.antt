-- The objects that are runs of lines: paragraphs, and lines by their indentation. Each is by its first and its last
-- offset, which is that of a newline, and there is none where the cursor's line is empty.
use Rattle.std.specs.Prelude.{ℕ, ◌+◌, ◌-◌, nat_lt, nat_le, Bool, not, ◌||◌, if◌then◌else◌, List, length, None, Some}
use Rattle.std.specs.declared.option.Option.{Option}
use Rattle.text_model.specs.Texts.{nth_line, line_count}
use Rattle.kak_text.specs.Cells.{display_column}
use Rattle.motion_keys.specs.Landmarks.{line_begin, line_of}
use Rattle.motion_keys.specs.Words.{Ends, ends}
use Rattle.text_objects.specs.Runs.{run_begin, run_end, chars_end}
use Rattle.text_objects.specs.RunObjects.{is_blank}

-- whether a line has a character before its newline
abbrev pub is_full : List ℕ → ℕ → Bool
is_full text n = nat_lt 1 (length (nth_line text n))

-- whether a line is empty
abbrev pub is_empty : List ℕ → ℕ → Bool
is_empty text n = not (is_full text n)

-- the lines from one on to before another, by their first and last offset
abbrev pub lines_between : List ℕ → ℕ → ℕ → Ends
lines_between text from to = ends (line_begin text from) (line_begin text to - 1)

-- the first line of the paragraph that holds a line
abbrev pub paragraph_from : List ℕ → ℕ → ℕ
paragraph_from text n = run_begin (is_full text) n

-- the line behind it
abbrev pub paragraph_to : List ℕ → ℕ → ℕ
paragraph_to text n = run_end (is_full text) (n + 1) (line_count text)

-- behind the empty lines that begin at a line
abbrev pub behind_empty : List ℕ → ℕ → ℕ
behind_empty text n = run_end (is_empty text) n (line_count text)

-- the paragraph that a line is in: the run of lines that aren't empty
abbrev pub paragraph : List ℕ → ℕ → Option Ends
paragraph text n = if is_full text n then Some (lines_between text (paragraph_from text n) (paragraph_to text n)) else None

-- and with the empty lines behind it
abbrev pub paragraph_and_behind : List ℕ → ℕ → Option Ends
paragraph_and_behind text n = if is_full text n then Some (lines_between text (paragraph_from text n) (behind_empty text (paragraph_to text n))) else None

-- the same for the line of an offset
abbrev pub inner_paragraph : List ℕ → ℕ → Option Ends
inner_paragraph text o = paragraph text (line_of text o)

abbrev pub around_paragraph : List ℕ → ℕ → Option Ends
around_paragraph text o = paragraph_and_behind text (line_of text o)

-- the indentation of a line: the display column of its first character that is no blank, with a tab stop at each so
-- many columns
abbrev pub indentation : List ℕ → ℕ → ℕ
indentation line tabstop = display_column line (chars_end is_blank line 0) tabstop

-- whether a line is empty, or is indented at least so much
abbrev pub is_indented : List ℕ → ℕ → ℕ → ℕ → Bool
is_indented text tabstop least n = is_empty text n || nat_le least (indentation (nth_line text n) tabstop)

-- the indentation of the line with that number
abbrev pub indentation_at : List ℕ → ℕ → ℕ → ℕ
indentation_at text tabstop n = indentation (nth_line text n) tabstop

-- the first line of those around a line that are empty or indented at least as it
abbrev pub indent_from : List ℕ → ℕ → ℕ → ℕ
indent_from text tabstop n = run_begin (is_indented text tabstop (indentation_at text tabstop n)) n

-- the line behind them
abbrev pub indent_to : List ℕ → ℕ → ℕ → ℕ
indent_to text tabstop n = run_end (is_indented text tabstop (indentation_at text tabstop n)) (n + 1) (line_count text)

-- all of them
abbrev pub indented_lines : List ℕ → ℕ → ℕ → Option Ends
indented_lines text tabstop n = if is_full text n then Some (lines_between text (indent_from text tabstop n) (indent_to text tabstop n)) else None

-- and without the empty lines at their ends
abbrev pub indented_inside : List ℕ → ℕ → ℕ → Option Ends
indented_inside text tabstop n =
    if is_full text n then Some (lines_between text (behind_empty text (indent_from text tabstop n)) (run_begin (is_empty text) (indent_to text tabstop n))) else None

-- the same for the line of an offset
abbrev pub inner_indent : List ℕ → ℕ → ℕ → Option Ends
inner_indent text o tabstop = indented_inside text tabstop (line_of text o)

abbrev pub around_indent : List ℕ → ℕ → ℕ → Option Ends
around_indent text o tabstop = indented_lines text tabstop (line_of text o)
