-- What the code makes of a selection by the matches in it.
use Rattle.std.specs.Prelude.{◌≡◌, ℕ, ◌+◌, List, ◌++◌}
use Rattle.text_model.specs.Texts.{offset}
use Rattle.list_model.specs.Ranges.{Range}
use Rattle.selection_set.specs.declared.sel.Sel.{Sel}
use Rattle.selection_set.specs.Listing.{ranges_of}
use Rattle.regex_ports.specs.declared.pattern.Span.{Span}
use Rattle.regex_select.specs.declared.taking.Take.{Take}
use Rattle.regex_select.specs.declared.taking.Take.TheVariants.{Matches, Parts}
use Rattle.regex_select.specs.Rows.{selected_chars, spans_in}
use Rattle.regex_select.specs.Selecting.{match_end, part_between, selected_by_all, parts_from}
use Rattle.regex_select.specs.Walks.{own_chars}

-- what some matches select in characters that begin at an offset, or the parts that they leave
abbrev pub taken_by : Take → List ℕ → ℕ → List Span → List Range
taken_by Matches chars low spans = selected_by_all chars low spans
taken_by Parts chars low spans = parts_from chars low 0 spans

-- what is made of a selection
abbrev pub taken_in : Take → List ℕ → List ℕ → Range → List Range
taken_in what source text r = taken_by what (selected_chars text r) r.low (spans_in source (selected_chars text r))

-- what is made of a selection of a text by matches in its characters
abbrev pub made_of : Take → List ℕ → Sel → List Span → List Range
made_of what text sel spans = taken_by what (own_chars text sel) (offset text sel.low) spans

-- what lies in a selection from one of its characters on and before another
abbrev pub part_of : List ℕ → Sel → ℕ → ℕ → List Range
part_of text sel from to = part_between (offset text sel.low + from) (offset text sel.low + to)

-- what a match selects in a selection, from one of its characters on and before another
abbrev pub part_found : List ℕ → Sel → ℕ → ℕ → List Range
part_found text sel from to = part_of text sel from (match_end (own_chars text sel) from to)

-- a list has become another, with these ranges behind those that it had
abbrev pub AreAdded : List ℕ → List Sel → List Sel → List Range → Type 0
AreAdded text old new rs = ranges_of text new ≡ ranges_of text old ++ rs
