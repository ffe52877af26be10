-- What the boxes of a replay have shown, and their reports, when all clients have parted.
use Rattle.std.proofs.Common.{◌≡◌, ℕ, zero, suc, ◌<◌, ◌⊎◌, inl, inr, List, [], ◌∷◌, ◌++◌, length, map, refl, ap, ◌∙◌, arith}
use Rattle.std.specs.Prelude.{get_or, Some}
use Rattle.std.specs.List.{flat_map}
use Rattle.ui_board.specs.declared.ui.Kind.{Kind}
use Rattle.ui_board.specs.declared.ui.Kind.TheVariants.{Silent}
use Rattle.ui_board.specs.Told.{Shown, untold, json_lines, report_of}
use Rattle.session_turns.specs.Growth.{How}
use Rattle.session_turns.specs.Headline.{Left, Closed}
use Rattle.session_events.specs.declared.event.Entry.{Entry}
use Rattle.session_replay.specs.Settings.{Setting}
use Rattle.session_replay.specs.declared.places.ClientPlace.{ClientPlace}
use Rattle.session_replay.specs.declared.places.ClientPlace.TheVariants as place
use Rattle.session_replay.specs.Written.{lines_for}
use Rattle.session_replay.specs.Clients.{HeldClient, moment}
use Rattle.session_replay.specs.Replays.{StandsAt}
use Rattle.session_replay.specs.Partings.{ends_as, how_at, AreParting}
use Rattle.session_replay.proofs.PartingLemmas.{last-ended, last-report, last-box}
use Rattle.session_replay.specs.Phases.{IsEnding}

-- what boxes of these kinds have shown, of which something is known for each
pub record HasShown (kinds : List Kind) (Holds : ℕ → Shown → Type 0) : Type 0 where
  pub shown : List Shown
  pub kinds_are : map (λ box. box.kind) shown ≡ kinds
  pub each : (who : ℕ) → who < length kinds → Holds who (get_or shown who (untold Silent))

below : (n m : ℕ) → suc n < suc m → n < m
below n m l = omega (arith, l)

pub all-shown : (kinds : List Kind) (Holds : ℕ → Shown → Type 0) → ((who : ℕ) → who < length kinds → (box : Shown) × (box.kind ≡ get_or kinds who Silent) × Holds who box) → HasShown kinds Holds
all-shown [] Holds each = record { shown = []; kinds_are = refl; each = λ who inside. absurd (omega (arith, inside)) }
all-shown (kind ∷ kinds) Holds each =
    let first = each 0 (omega arith) in
    let rest : HasShown kinds (λ n box. Holds (suc n) box) = all-shown kinds (λ n box. Holds (suc n) box) (λ who inside. each (suc who) (omega (arith, inside))) in
    record { shown = first.0 ∷ rest.shown; kinds_are = ap (λ k. k ∷ map (λ box. box.kind) rest.shown) first.1 ∙ ap (λ ks. kind ∷ ks) rest.kinds_are; each = by first.0 first.2 rest.shown rest.each }
  where
    by : (box : Shown) → Holds 0 box → (boxes : List Shown) → ((who : ℕ) → who < length kinds → Holds (suc who) (get_or boxes who (untold Silent))) → (who : ℕ) → who < length (kind ∷ kinds) → Holds who (get_or (box ∷ boxes) who (untold Silent))
    by box held boxes later zero inside = held
    by box held boxes later (suc who) inside = later who (below who (length kinds) inside)

-- the reports of boxes, one after another
pub reports-are : (shown : List Shown) (reports : List (List ℕ)) → length reports ≡ length shown → ((who : ℕ) → who < length shown → get_or reports who [] ≡ report_of (get_or shown who (untold Silent))) → flat_map (λ report. report) reports ≡ flat_map report_of shown
reports-are [] [] count each = refl
reports-are [] (report ∷ reports) count each = absurd (omega (arith, count))
reports-are (box ∷ shown) [] count each = absurd (omega (arith, count))
reports-are (box ∷ shown) (report ∷ reports) count each =
    ap (λ q. q ++ flat_map (λ r. r) reports) (each 0 (omega arith)) ∙ ap (λ q. report_of box ++ q) (reports-are shown reports (omega (arith, count)) (λ who inside. each (suc who) (omega (arith, inside))))

-- what is known of a client when all have parted: how it ended, and that its report is held, and its box
abbrev pub Parted : (g : Setting) (count : ℕ) (hows : ℕ → How) (lines : List (List ℕ)) (h : List Entry) (held : ℕ → HeldClient) → ℕ → Shown → Type 0
Parted g count hows lines h held who box = StandsAt (ends_as (hows who)) g who h (lines_for count who lines) (json_lines box.told) × ((held who).report ≡ report_of box) × ((held who).box ≡ Some box)

pub all-parted : (g : Setting) (kinds : List Kind) (hows : ℕ → How) (lines : List (List ℕ)) (h : List Entry) (held : ℕ → HeldClient) → ((who : ℕ) → who < length kinds → IsEnding (hows who)) → AreParting g kinds hows (length kinds) lines (moment h held) → HasShown kinds (Parted g (length kinds) hows lines h held)
all-parted g kinds hows lines h held ending m = all-shown kinds (Parted g (length kinds) hows lines h held) (λ who inside.
    let c = m.clients who inside in (
      c.shown,
      c.kind_is,
      (
        last-ended g (hows who) (held who).place who h (lines_for (length kinds) who lines) (json_lines c.shown.told) (ending who inside) (m.parted who inside) c.stands,
        last-report g (get_or kinds who Silent) (hows who) who h (lines_for (length kinds) who lines) (held who) (m.parted who inside) c,
        last-box g (get_or kinds who Silent) (hows who) who h (lines_for (length kinds) who lines) (held who) c,
      ),
    ))

-- a client that was here or gone behind the last line was let go by a line, or left at the end
pub ended-how : (g : Setting) (p : ClientPlace) (k : ℕ) (h : List Entry) (lines : List (List ℕ)) (told : List ℕ) → StandsAt (ends_as (how_at p)) g k h lines told → StandsAt Left g k h lines told ⊎ StandsAt Closed g k h lines told
ended-how g place.Away k h lines told s = inr s
ended-how g place.Here k h lines told s = inr s
ended-how g place.Gone k h lines told s = inl s
