-- Highlighters that are added and removed.
use Rattle.std.specs.Prelude.{◌≡◌, ℕ, ◌&&◌, ◌||◌, not, Bool, List, filter, if◌then◌else◌, Option, Some, None}
use Rattle.std.specs.List.{list_any}
use Rattle.std.specs.Str.{bytes_eq}
use Rattle.tables.specs.Tables.{put_where}
use Rattle.scope_options.specs.declared.scope.Scope.{Scope}
use Rattle.scope_options.specs.Scopes.{is_same_scope}
use Rattle.highlight_paint.specs.declared.highlighters.PaintError.{PaintError}
use Rattle.highlight_paint.specs.declared.highlighters.PaintError.TheVariants.{BadPath, PathTaken, NoMemory}
use Rattle.highlight_paint.specs.Painters.{Paints, is_holder, Highlighter, highlighter}
use Rattle.highlight_paint.specs.Paths.{is_slash, is_below, is_child}

-- whether a highlighter is that of a path at a scope
abbrev pub is_highlighter : Scope → List ℕ → Highlighter → Bool
is_highlighter scope path row = is_same_scope row.scope scope && bytes_eq row.path path

-- whether there is one
abbrev pub is_held : Scope → List ℕ → List Highlighter → Bool
is_held scope path rows = list_any (is_highlighter scope path) rows

-- whether it stands below a path at a scope
abbrev pub is_below_highlighter : Scope → List ℕ → Highlighter → Bool
is_below_highlighter scope path row = is_same_scope row.scope scope && is_below path row.path

-- whether it is a group right below which a path stands
abbrev pub is_parent_of : Scope → List ℕ → Highlighter → Bool
is_parent_of scope path row = is_same_scope row.scope scope && is_holder row.paints && is_child row.path path

-- whether a path has one name, or stands right below a group that is there
abbrev pub has_parent : Scope → List ℕ → List Highlighter → Bool
has_parent scope path rows = not (list_any is_slash path) || list_any (is_parent_of scope path) rows

-- why a highlighter isn't added, if it isn't: its path stands below what is no group, or, where none may be replaced, is there
abbrev pub paint_refusal : Scope → List ℕ → Bool → List Highlighter → Option PaintError
paint_refusal scope path replace rows =
    if not (has_parent scope path rows) then Some BadPath else
    (if not replace && is_held scope path rows then Some PathTaken else None)

-- without those that stand below a path
abbrev pub without_below : Scope → List ℕ → List Highlighter → List Highlighter
without_below scope path rows = filter (λ r. not (is_below_highlighter scope path r)) rows

-- with a highlighter in place of the one of its path, or at the end, and without those that stood below that
abbrev pub with_highlighter : Scope → List ℕ → Paints → List Highlighter → List Highlighter
with_highlighter scope path paints rows =
    without_below scope path (put_where (is_highlighter scope path) (highlighter scope path paints) rows)

-- without the highlighter of a path, and without those below it
abbrev pub without_highlighter : Scope → List ℕ → List Highlighter → List Highlighter
without_highlighter scope path rows = without_below scope path (filter (λ r. not (is_highlighter scope path r)) rows)

-- without those of the scopes that pass a test
abbrev pub without_scopes : (Scope → Bool) → List Highlighter → List Highlighter
without_scopes goes rows = filter (λ r. not (goes r.scope)) rows

-- an error is the refusal that is due; memory may run out only where none is
abbrev pub IsPaintErrorDue : PaintError → Option PaintError → Type 0
IsPaintErrorDue BadPath due = due ≡ Some BadPath
IsPaintErrorDue PathTaken due = due ≡ Some PathTaken
IsPaintErrorDue NoMemory due = due ≡ None
