-- What commands do to highlighters.
use Rattle.std.specs.Prelude.{ℕ, Bool, false, List, if◌then◌else◌, None, Some, option_map, option_and_then, Ok, Err}
use Rattle.std.specs.declared.option.Option.{Option}
use Rattle.std.specs.declared.result.Result.{Result}
use Rattle.std.specs.Str.{chars}
use Rattle.command_forms.specs.declared.painters.HighlighterOrder.{HighlighterOrder}
use Rattle.command_forms.specs.declared.painters.HighlighterOrder.TheVariants.{Add, Remove}
use Rattle.command_forms.specs.declared.painters.HighlighterWords.{HighlighterWords}
use Rattle.command_forms.specs.declared.painters.PainterWords.{PainterWords}
use Rattle.command_forms.specs.declared.painters.PainterWords.TheVariants as words
use Rattle.command_forms.specs.Numbers.{whole_number}
use Rattle.command_forms.specs.Parting.{Parts, parted}
use Rattle.face_texts.specs.Tables.{word_text}
use Rattle.highlight_paint.specs.declared.highlighters.PaintError.{PaintError}
use Rattle.highlight_paint.specs.declared.highlighters.PaintError.TheVariants as paint
use Rattle.highlight_paint.specs.declared.painter.GroupFace.{GroupFace}
use Rattle.highlight_paint.specs.Painters.{Paints, Fills, Matches, Numbers, MarksLine, MarksColumn, ShowsWhitespaces, HoldsOthers}
use Rattle.highlight_paint.specs.Highlighters.{is_held, paint_refusal}
use Rattle.kak_world.specs.declared.ask.Ask.TheVariants.{Make}
use Rattle.kak_world.specs.declared.ask.EditError.{EditError}
use Rattle.kak_world.specs.declared.ask.EditError.TheVariants.{Command as OfCommand, NoMemory}
use Rattle.kak_world.specs.declared.command_error.CommandError.TheVariants.{NoSuchHighlighter, HighlighterExists}
use Rattle.kak_world.specs.declared.purpose.NewHighlighter.{NewHighlighter}
use Rattle.kak_world.specs.declared.purpose.Wanted.TheVariants.{Paints as ToPaint}
use Rattle.kak_world.specs.Flat.{Flat, faces_of, highlighters_of}
use Rattle.kak_world.specs.Scoping.{highlighter_added, highlighter_removed}
use Rattle.kak_world.specs.Rows.{RowEnd, does, fails}
use Rattle.command_set.specs.declared.painting.Place.{Place}
use Rattle.command_set.specs.Buffers.{asks, refuses}
use Rattle.command_set.specs.Options.{scope_named}
use Rattle.command_set.specs.Painters.{face_told, number_told, groups_told, full_path}

-- a row of what was told, or the refusal
abbrev pub told_row : {A : Type 0} → (A → RowEnd) → Flat → Result A EditError → RowEnd
told_row row flat (Ok x) = row x
told_row row flat (Err e) = fails e flat

-- a highlighter is added that does this
abbrev pub lays : Place → Flat → Paints → RowEnd
lays at flat paints = does (highlighter_added at.scope at.path paints flat)

-- a pattern is asked for, with the groups that are to have faces
abbrev pub seeks : Place → List ℕ → Flat → List GroupFace → RowEnd
seeks at pattern flat groups =
    asks (Make (record { pattern = chars pattern; then = ToPaint (record { scope = at.scope; path = at.path; groups = groups; replace = at.replace }) })) flat

-- a highlighter is added by its words: numbers are judged, and faces, from the left, and the pattern last
abbrev pub painter_row : Place → Flat → PainterWords → RowEnd
painter_row at flat (words.Fill face) = told_row (λ text. lays at flat (Fills text)) flat (face_told (word_text (faces_of flat) face))
painter_row at flat (words.Regex m) = told_row (seeks at m.pattern flat) flat (groups_told (faces_of flat) m.groups)
painter_row at flat (words.NumberLines n) = lays at flat (Numbers n.marked (chars n.separator))
painter_row at flat (words.Line p) =
    told_row (λ n. told_row (λ text. lays at flat (MarksLine n text)) flat (face_told (word_text (faces_of flat) p.face))) flat (number_told (whole_number p.number))
painter_row at flat (words.Column p) =
    told_row (λ n. told_row (λ text. lays at flat (MarksColumn n text)) flat (face_told (word_text (faces_of flat) p.face))) flat (number_told (whole_number p.number))
painter_row at flat words.ShowWhitespaces = lays at flat ShowsWhitespaces
painter_row at flat words.Group = lays at flat HoldsOthers

-- by what a client is told why a highlighter can't stand at a path: as it was written, and with its name
abbrev pub path_refusal : List ℕ → List ℕ → PaintError → EditError
path_refusal written full paint.BadPath = OfCommand (NoSuchHighlighter written)
path_refusal written full paint.PathTaken = OfCommand (HighlighterExists full)
path_refusal written full paint.NoMemory = NoMemory

-- a row where a highlighter may be added, or why it may not
abbrev pub unless_refused : Option PaintError → List ℕ → List ℕ → RowEnd → Flat → RowEnd
unless_refused None written full row flat = row
unless_refused (Some e) written full row flat = fails (path_refusal written full e) flat

-- the place of a path with the word of a scope before it, if there is that scope
abbrev pub place_in : Bool → ℕ → Flat → Parts → Option Place
place_in replace who flat p = option_map (λ scope. record { scope = scope; path = p.behind; replace = replace }) (scope_named p.before who flat)

abbrev pub place_at : Bool → List ℕ → ℕ → Flat → Option Place
place_at replace path who flat = option_and_then (place_in replace who flat) (parted 47 path)

-- a highlighter is added at a place, if there is the place, and unless it can't stand there
abbrev pub added_at : Option Place → HighlighterWords → Flat → RowEnd
added_at None h flat = refuses (NoSuchHighlighter h.path) flat
added_at (Some at) h flat =
    unless_refused (paint_refusal at.scope at.path at.replace (highlighters_of flat)) h.path (full_path h.path h.words) (painter_row at flat h.painter) flat

-- a highlighter is added
abbrev pub add_row : HighlighterWords → ℕ → Flat → RowEnd
add_row h who flat = added_at (place_at h.replace (full_path h.path h.words) who flat) h flat

-- the highlighter of a place is removed, if it is there
abbrev pub removed_at : Option Place → List ℕ → Flat → RowEnd
removed_at None written flat = refuses (NoSuchHighlighter written) flat
removed_at (Some at) written flat =
    if is_held at.scope at.path (highlighters_of flat) then does (highlighter_removed at.scope at.path flat) else refuses (NoSuchHighlighter written) flat

-- what is ordered of highlighters
abbrev pub highlighter_row : HighlighterOrder → ℕ → Flat → RowEnd
highlighter_row (Add h) who flat = add_row h who flat
highlighter_row (Remove path) who flat = removed_at (place_at false path who flat) path flat

-- a highlighter whose pattern was made is added, or why it can't stand there now
abbrev pub painted_row : NewHighlighter → List ℕ → Flat → RowEnd
painted_row new source flat =
    unless_refused (paint_refusal new.scope new.path new.replace (highlighters_of flat)) new.path new.path
    (does (highlighter_added new.scope new.path (Matches source new.groups) flat)) flat
