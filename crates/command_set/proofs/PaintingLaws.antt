-- What commands do to highlighters and hooks takes no units, and keeps those that have joined.
use Rattle.std.proofs.Common.{◌≡◌, ℕ, Bool, true, false, List, refl, ap}
use Rattle.std.specs.Prelude.{if◌then◌else◌, Some, None, Ok, Err}
use Rattle.std.specs.declared.option.Option.{Option}
use Rattle.std.specs.declared.result.Result.{Result}
use Rattle.command_forms.specs.declared.painters.HighlighterOrder.{HighlighterOrder}
use Rattle.command_forms.specs.declared.painters.HighlighterOrder.TheVariants.{Add, Remove}
use Rattle.command_forms.specs.declared.painters.HighlighterWords.{HighlighterWords}
use Rattle.command_forms.specs.declared.painters.PainterWords.{PainterWords}
use Rattle.command_forms.specs.declared.painters.PainterWords.TheVariants as words
use Rattle.command_forms.specs.Numbers.{whole_number}
use Rattle.face_texts.specs.Tables.{word_text}
use Rattle.highlight_paint.specs.declared.highlighters.PaintError.{PaintError}
use Rattle.highlight_paint.specs.Painters.{MarksLine, MarksColumn}
use Rattle.kak_world.specs.declared.ask.EditError.{EditError}
use Rattle.kak_world.specs.declared.purpose.NewHighlighter.{NewHighlighter}
use Rattle.kak_world.specs.declared.purpose.NewHook.{NewHook}
use Rattle.kak_world.specs.Flat.{Scoped, Flat, units_of, faces_of, with_scoped}
use Rattle.kak_world.specs.Keeping.{KeepsClients}
use Rattle.kak_world.specs.Rows.{Row, RowEnd, Fails, does, stages_of}
use Rattle.kak_world.proofs.WorldLaws.{units_in, rest_scoped}
use Rattle.kak_world.proofs.KeepingLaws.{keeps_same, keeps_scoped}
use Rattle.kak_world.proofs.JoinedLemmas.{joined_kept, joined_same}
use Rattle.command_set.specs.declared.painting.Place.{Place}
use Rattle.command_set.specs.Painters.{face_told, number_told, full_path}
use Rattle.command_set.specs.Painting.{told_row, lays, painter_row, unless_refused, place_at, added_at, removed_at, highlighter_row, painted_row}
use Rattle.command_set.specs.Hooking.{hooked_row}
use Rattle.command_set.specs.Laws.{IsTame}

-- a row that leaves the world
pub tame-same : (flat : Flat) (row : Row) → IsTame flat (record { world = flat; row = row })
tame-same flat row = record { units = refl; keeps = joined_same flat }

-- whichever of two rows
pub tame-if : (flat : Flat) (t : Bool) (a b : RowEnd) → IsTame flat a → IsTame flat b → IsTame flat (if t then a else b)
tame-if flat true a b h g = h
tame-if flat false a b h g = g

-- what is kept by scope is changed
pub tame-scoped : (f : Scoped → Scoped) (flat : Flat) → IsTame flat (does (with_scoped f flat))
tame-scoped f flat = record { units = ap units_in (rest_scoped f flat); keeps = joined_kept flat (with_scoped f flat) (keeps_scoped f flat) }

-- what was told, or a refusal
pub tame-told : {A : Type 0} (row : A → RowEnd) (flat : Flat) (r : Result A EditError) → ((x : A) → IsTame flat (row x)) → IsTame flat (told_row row flat r)
tame-told row flat (Ok x) h = h x
tame-told row flat (Err e) h = tame-same flat _

tame-painter : (at : Place) (flat : Flat) (w : PainterWords) → IsTame flat (painter_row at flat w)
tame-painter at flat (words.Fill face) = tame-told _ flat _ (λ text. tame-scoped _ flat)
tame-painter at flat (words.Regex m) = tame-told _ flat _ (λ gs. tame-same flat _)
tame-painter at flat (words.NumberLines n) = tame-scoped _ flat
tame-painter at flat (words.Line p) =
    tame-told _ flat (number_told (whole_number p.number)) (λ n. tame-told (λ text. lays at flat (MarksLine n text)) flat (face_told (word_text (faces_of flat) p.face)) (λ text. tame-scoped _ flat))
tame-painter at flat (words.Column p) =
    tame-told _ flat (number_told (whole_number p.number)) (λ n. tame-told (λ text. lays at flat (MarksColumn n text)) flat (face_told (word_text (faces_of flat) p.face)) (λ text. tame-scoped _ flat))
tame-painter at flat words.ShowWhitespaces = tame-scoped _ flat
tame-painter at flat words.Group = tame-scoped _ flat

tame-unless : (o : Option PaintError) (written full : List ℕ) (row : RowEnd) (flat : Flat) → IsTame flat row → IsTame flat (unless_refused o written full row flat)
tame-unless None written full row flat h = h
tame-unless (Some e) written full row flat h = tame-same flat _

tame-added : (o : Option Place) (h : HighlighterWords) (flat : Flat) → IsTame flat (added_at o h flat)
tame-added None h flat = tame-same flat _
tame-added (Some at) h flat = tame-unless _ _ _ _ flat (tame-painter at flat h.painter)

tame-removed : (o : Option Place) (written : List ℕ) (flat : Flat) → IsTame flat (removed_at o written flat)
tame-removed None written flat = tame-same flat _
tame-removed (Some at) written flat = tame-if flat _ _ _ (tame-scoped _ flat) (tame-same flat _)

pub tame-highlighter : (h : HighlighterOrder) (who : ℕ) (flat : Flat) → IsTame flat (highlighter_row h who flat)
tame-highlighter (Add h) who flat = tame-added (place_at h.replace (full_path h.path h.words) who flat) h flat
tame-highlighter (Remove path) who flat = tame-removed (place_at false path who flat) path flat

-- A row that changes what is kept by scope, if anything, and asks for nothing.
data Settles (flat : Flat) : RowEnd → Type 0 where
  Changes : (f : Scoped → Scoped) → Settles flat (does (with_scoped f flat))
  Refuses : (text : List ℕ) → Settles flat (record { world = flat; row = Fails text })

settles-painted : (o : Option PaintError) (written full : List ℕ) (f : Scoped → Scoped) (flat : Flat) → Settles flat (unless_refused o written full (does (with_scoped f flat)) flat)
settles-painted None written full f flat = Changes f
settles-painted (Some e) written full f flat = Refuses _

settles-if : (flat : Flat) (t : Bool) (a b : RowEnd) → Settles flat a → Settles flat b → Settles flat (if t then a else b)
settles-if flat true a b h g = h
settles-if flat false a b h g = g

settles_painted : (new : NewHighlighter) (source : List ℕ) (flat : Flat) → Settles flat (painted_row new source flat)
settles_painted new source flat = settles-painted _ _ _ _ flat

settles_hooked : (new : NewHook) (source : List ℕ) (flat : Flat) → Settles flat (hooked_row new source flat)
settles_hooked new source flat = settles-if flat _ _ _ (Refuses _) (Changes _)

-- the row of a highlighter or a hook whose pattern was made: no units, nothing behind it, and the same clients
pub record IsLast (flat : Flat) (end : RowEnd) : Type 0 where
  pub units : units_of end.world ≡ units_of flat
  pub ends : stages_of end.row ≡ 0
  pub keeps : KeepsClients flat end.world

last-settled : (flat : Flat) (end : RowEnd) → Settles flat end → IsLast flat end
last-settled flat end (Changes f) = record { units = ap units_in (rest_scoped f flat); ends = refl; keeps = keeps_scoped f flat }
last-settled flat end (Refuses text) = record { units = refl; ends = refl; keeps = keeps_same flat }

pub last-painted : (new : NewHighlighter) (source : List ℕ) (flat : Flat) → IsLast flat (painted_row new source flat)
last-painted new source flat = last-settled flat _ (settles_painted new source flat)

pub last-hooked : (new : NewHook) (source : List ℕ) (flat : Flat) → IsLast flat (hooked_row new source flat)
last-hooked new source flat = last-settled flat _ (settles_hooked new source flat)
