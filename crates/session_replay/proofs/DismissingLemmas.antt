-- How one client after another is let go at the end of a replay.
use Rattle.std.proofs.Common.{◌≡◌, ◌≢◌, ℕ, ◌+◌, ◌<◌, ◌≤◌, ◌⊎◌, inl, inr, true, false, List, [], ◌∷◌, ◌++◌, length, Ok, Err, refl, sym, ap, ◌∙◌, subst, append-nil, append_assoc}
use Rattle.std.specs.Prelude.{get_or, Option, Some, None, is_none}
use Rattle.ui_board.specs.declared.ui.Kind.{Kind}
use Rattle.ui_board.specs.declared.ui.Kind.TheVariants.{Silent}
use Rattle.ui_board.specs.Told.{Shown, json_lines, report_of}
use Rattle.ui_board.specs.Boards.{report_at}
use Rattle.session_turns.specs.Growth.{Begins, How, Lost}
use Rattle.session_turns.specs.Headline.{Lost as WasLost}
use Rattle.session_events.specs.declared.event.Entry.{Entry}
use Rattle.session_events.specs.Legal.{Away, is_here, presence_from}
use Rattle.session_lines.specs.declared.playing.Stop.{Stop}
use Rattle.session_lines.specs.declared.playing.Stop.TheVariants.{HistoryFull, Broken, NoMemory, WriteFault}
use Rattle.session_lines.specs.Serving.{how_of}
use Rattle.session_replay.specs.Settings.{Setting}
use Rattle.session_replay.specs.declared.places.ClientPlace.{ClientPlace}
use Rattle.session_replay.specs.declared.places.ClientPlace.TheVariants as place
use Rattle.session_replay.specs.Written.{lines_for}
use Rattle.session_replay.specs.Clients.{GotTo, LeftAt, HeldClient, Keeps, GrowsBy, moment}
use Rattle.session_replay.specs.Players.{OthersAreHeld, let_off}
use Rattle.session_replay.specs.Partings.{StandsLast, IsParting, AreParting}
use Rattle.session_replay.specs.Phases.{IsEnding, AreLeaving, AreLost, IsLossFor, MayLeave, IsLostLeaving}
use Rattle.session_replay.specs.Replays.{StandsAt}
use Rattle.session_replay.proofs.ClientLemmas.{still-strange}
use Rattle.session_replay.proofs.PartingLemmas.{apart}
use Rattle.session_replay.proofs.LostLemmas.{ending-known, got-at-lost, left-at-lost}
use Rattle.session_replay.proofs.StoppedLemmas.{parting-lost}

-- those who may leave are about to
pub may-leave : (g : Setting) (count : ℕ) (h : List Entry) (held : ℕ → HeldClient) → (m : MayLeave g count (moment h held)) → AreLeaving g m.kinds m.hows 0 m.lines h (moment h held)
may-leave g count h held m = record { rest = []; split = sym (append-nil h); in_order = refl; below = refl; parting = m.parting }

-- a client that is to leave is here, and has a box
stands-here : (g : Setting) (kinds : List Kind) (hows : ℕ → How) (next who : ℕ) (lines : List (List ℕ)) (h : List Entry) (held : ℕ → HeldClient) → (m : AreParting g kinds hows next lines (moment h held)) → (inside : who < length kinds) → (held who).place ≡ place.Here
    → StandsLast g (hows who) place.Here who h (lines_for (length kinds) who lines) (json_lines (m.clients who inside).shown.told)
stands-here g kinds hows next who lines h held m inside e =
    let c = m.clients who inside in
    subst (λ p. StandsLast g (hows who) p who h (lines_for (length kinds) who lines) (json_lines c.shown.told)) e c.stands

pub here-in : (g : Setting) (kinds : List Kind) (hows : ℕ → How) (next who : ℕ) (lines : List (List ℕ)) (before h : List Entry) (held : ℕ → HeldClient) → AreLeaving g kinds hows next lines before (moment h held) → who < length kinds → (held who).place ≡ place.Here → is_here (presence_from who Away h) ≡ true
here-in g kinds hows next who lines before h held l inside e = (stands-here g kinds hows next who lines h held l.parting inside e).0

pub here-boxed : (g : Setting) (kinds : List Kind) (hows : ℕ → How) (next who : ℕ) (lines : List (List ℕ)) (before h : List Entry) (held : ℕ → HeldClient) → AreLeaving g kinds hows next lines before (moment h held) → who < length kinds → (held who).place ≡ place.Here → is_none (held who).box ≡ false
here-boxed g kinds hows next who lines before h held l inside e =
    let c = l.parting.clients who inside in
    let keeps : Keeps place.Here (held who) c.shown = subst (λ p. Keeps p (held who) c.shown) e c.keeps in
    ap is_none keeps.0

-- what is held for a client that was let go
pub off-gone : (held : HeldClient) (box : Option Shown) → held ≡ let_off box → held.place ≡ place.Gone
off-gone held box e = ap (λ q. q.place) e

pub off-keeps : (held : HeldClient) (box : Option Shown) → held ≡ let_off box → (shown : Shown) → box ≡ Some shown → Keeps place.Gone held shown
off-keeps held box e shown b = (ap (λ q. q.box) e ∙ b, ap (λ q. q.report) e ∙ ap report_at b)

-- something was lost as a client left
lost-why : (why : Stop) → how_of (Err why) ≡ Lost → IsLossFor why
lost-why (Broken at) e = tt
lost-why NoMemory e = tt
lost-why HistoryFull e = cc
lost-why WriteFault e = cc

pub leaving-lost : (g : Setting) (kinds : List Kind) (hows : ℕ → How) (who : ℕ) (lines : List (List ℕ)) (before h h' : List Entry) (held : ℕ → HeldClient) (why : Stop) → AreLeaving g kinds hows who lines before (moment h held) → ((k : ℕ) → k < length kinds → IsEnding (hows k)) → who < length kinds → (held who).place ≡ place.Here → GrowsBy g who h h'
    → ((how : How) → (mine : List (List ℕ)) → (told : List ℕ) → GotTo g how who h mine told → (how_of (Err why) ≡ Lost) × (GotTo g how who h' mine told ⊎ LeftAt g how who h' mine told)) → IsLostLeaving g kinds lines before h' why
leaving-lost g kinds hows who lines before h h' held why l ending inside e grows lost = record {
  loss = lost-why why was.0;
  grows = (l.rest ++ grows.more, grows.grows ∙ ap (λ q. q ++ grows.more) l.split ∙ append_assoc before l.rest grows.more);
  lost = parting-lost g kinds hows who who lines h h' held c.shown l.parting ending grows c.kind_is (by was.1);
  strangers = λ other past. still-strange g who other h h' grows (apart (length kinds) who other past inside) (l.parting.strangers other past);
}
  where
    c : IsParting g (get_or kinds who Silent) (hows who) who h (lines_for (length kinds) who lines) (held who)
    c = l.parting.clients who inside

    stands : StandsLast g (hows who) place.Here who h (lines_for (length kinds) who lines) (json_lines c.shown.told)
    stands = stands-here g kinds hows who who lines h held l.parting inside e

    was : (how_of (Err why) ≡ Lost) × (GotTo g (hows who) who h' (lines_for (length kinds) who lines) (json_lines c.shown.told) ⊎ LeftAt g (hows who) who h' (lines_for (length kinds) who lines) (json_lines c.shown.told))
    was = lost (hows who) (lines_for (length kinds) who lines) (json_lines c.shown.told) stands.2

    by : GotTo g (hows who) who h' (lines_for (length kinds) who lines) (json_lines c.shown.told) ⊎ LeftAt g (hows who) who h' (lines_for (length kinds) who lines) (json_lines c.shown.told) → StandsAt WasLost g who h' (lines_for (length kinds) who lines) (json_lines c.shown.told)
    by (inl got) = got-at-lost g (hows who) who h' (lines_for (length kinds) who lines) (json_lines c.shown.told) (ending-known (hows who) (ending who inside)) stands.1 got
    by (inr left) = left-at-lost g (hows who) who h' (lines_for (length kinds) who lines) (json_lines c.shown.told) (ending who inside) stands.1 left

-- one growth behind another
pub begins-more : (a b c : List Entry) → Begins b a → Begins c b → Begins c a
begins-more a b c x y = (x.0 ++ y.0, y.1 ∙ ap (λ q. q ++ y.0) x.1 ∙ append_assoc a x.0 y.0)

pub begins-grown : (g : Setting) (who : ℕ) (a b c : List Entry) → Begins b a → GrowsBy g who b c → Begins c a
begins-grown g who a b c x y = begins-more a b c x (y.more, y.grows)

pub begins-same : (a : List Entry) → Begins a a
begins-same a = ([], sym (append-nil a))

-- behind all of them nobody is left
pub leaving-all : (g : Setting) (kinds : List Kind) (hows : ℕ → How) (next : ℕ) (lines : List (List ℕ)) (before h : List Entry) (held : ℕ → HeldClient) → next ≡ length kinds → AreLeaving g kinds hows next lines before (moment h held) → AreLeaving g kinds hows (length kinds) lines before (moment h held)
leaving-all g kinds hows next lines before h held e l = subst (λ n. AreLeaving g kinds hows n lines before (moment h held)) e l
