-- One client after another leaves at the end of a replay.
use Rattle.std.proofs.Common.{◌≡◌, ◌≢◌, ℕ, ◌+◌, ◌<◌, ◌==◌, Bool, true, false, not, ◌&&◌, ◌||◌, List, [], ◌∷◌, ◌++◌, length, refl, sym, ap, ◌∙◌, subst, arith, append_assoc}
use Rattle.std.specs.Prelude.{nat_lt, get_or, Some}
use Rattle.std.specs.List.{list_any}
use Rattle.std.proofs.lemmas.Bool.{eq-eqb, ne_eqb, lt-ltb, ltb-true}
use Rattle.ui_board.specs.declared.ui.Kind.{Kind}
use Rattle.ui_board.specs.declared.ui.Kind.TheVariants.{Silent}
use Rattle.ui_board.specs.Told.{Shown, json_lines}
use Rattle.session_turns.specs.Histories.{own, answers}
use Rattle.session_turns.specs.Growth.{How}
use Rattle.session_turns.proofs.HistoryLemmas.{adds-answers, adds-own_events, leave-answers, leave-own}
use Rattle.session_events.specs.declared.event.Event.{Event}
use Rattle.session_events.specs.declared.event.Event.TheVariants.{Leave}
use Rattle.session_events.specs.declared.event.Entry.{Entry}
use Rattle.session_events.specs.Entries.{is_leave}
use Rattle.session_events.specs.Meaning.{rules}
use Rattle.session_replay.specs.Settings.{Setting}
use Rattle.session_replay.specs.declared.places.ClientPlace.{ClientPlace}
use Rattle.session_replay.specs.declared.places.ClientPlace.TheVariants as place
use Rattle.session_replay.specs.Written.{lines_for}
use Rattle.session_replay.specs.Clients.{GotTo, LeftAt, HeldClient, Keeps, GrowsBy, LeavesAlone, moment}
use Rattle.session_replay.specs.Partings.{StandsLast, IsParting, AreParting}
use Rattle.session_replay.specs.Replays.{leave_in_order}
use Rattle.session_replay.proofs.PartingLemmas.{one-parted, none-parted}
use Rattle.session_replay.proofs.ReplayLemmas.{none-below, none-in-order, below-more, in-order-more}
use Rattle.session_replay.specs.Phases.{are_below, AreLeaving}

-- the entry of a leaving is that client's alone
pub leaves-grows : (g : Setting) (k : ℕ) (h h' : List Entry) → LeavesAlone k h h' → GrowsBy g k h h'
leaves-grows g k h h' l = record { more = l.entry ∷ []; grows = l.stands; alone = λ other differs. rw (ne_eqb l.entry.who other (λ e. differs (sym e ∙ l.maker))) refl }

-- a client that got so far, and left
pub leaves-left : (g : Setting) (how : How) (k : ℕ) (h h' : List Entry) (lines : List (List ℕ)) (told : List ℕ) → LeavesAlone k h h' → GotTo g how k h lines told → LeftAt g how k h' lines told
leaves-left g how k h h' lines told l s =
    let mine : (l.entry.who == k) ≡ true = eq-eqb l.entry.who k l.maker in
    record {
      got = s.got;
      answered = ap (answers (rules g.gives) k) l.stands ∙ leave-answers (rules g.gives) k h l.entry mine (nothing l.entry.event l.event) ∙ adds-answers (rules g.gives) k h s.got s.adds;
      events = ap (own (rules g.gives) k) l.stands ∙ leave-own (rules g.gives) k h l.entry mine ∙ ap (λ e. own (rules g.gives) k h ++ e ∷ []) l.event ∙ ap (λ es. es ++ Leave ∷ []) (adds-own_events (rules g.gives) k h s.got s.adds);
      fits = s.fits;
    }
  where
    nothing : (event : Event) → event ≡ Leave → (rules g.gives).answer h (record { who = l.entry.who; event = event; answers = l.entry.answers }) ≡ []
    nothing event e = rw e refl

-- nobody has left yet behind `part`, in which nobody leaves
pub leaving-begins : (g : Setting) (kinds : List Kind) (hows : ℕ → How) (lines : List (List ℕ)) (before part : List Entry) (held : ℕ → HeldClient) → list_any (λ entry. is_leave entry.event) part ≡ false → AreParting g kinds hows 0 lines (moment (before ++ part) held) → AreLeaving g kinds hows 0 lines before (moment (before ++ part) held)
leaving-begins g kinds hows lines before part held stay m = record { rest = part; split = refl; in_order = none-in-order part stay; below = none-below 0 part stay; parting = m }

-- leavings below a number are below a greater one
below-later : (n : ℕ) (entries : List Entry) → are_below n entries ≡ true → are_below (n + 1) entries ≡ true
below-later n [] e = refl
below-later n (entry ∷ entries) e =
    by (not (is_leave entry.event)) (nat_lt entry.who n) (nat_lt entry.who (n + 1)) (are_below n entries) (are_below (n + 1) entries) (λ b. lt-ltb entry.who (n + 1) (omega (arith, ltb-true entry.who n b))) (below-later n entries) e
  where
    by : (x y z v w : Bool) → (y ≡ true → z ≡ true) → (v ≡ true → w ≡ true) → ((x || y) && v) ≡ true → ((x || z) && w) ≡ true
    by true y z v w f k e = k e
    by false true z v w f k e = rw (f refl) (k e)
    by false false z v w f k e = cc

-- the next one isn't here
pub leaving-passes : (g : Setting) (kinds : List Kind) (hows : ℕ → How) (who : ℕ) (lines : List (List ℕ)) (before h : List Entry) (held : ℕ → HeldClient) → AreLeaving g kinds hows who lines before (moment h held) → (held who).place ≢ place.Here → AreLeaving g kinds hows (who + 1) lines before (moment h held)
leaving-passes g kinds hows who lines before h held m away = record { rest = m.rest; split = m.split; in_order = m.in_order; below = below-later who m.rest m.below; parting = none-parted g kinds hows who lines h held m.parting away }

-- the next one left, and its report is held in place of its box
pub leaving-goes : (g : Setting) (kinds : List Kind) (hows : ℕ → How) (who : ℕ) (lines : List (List ℕ)) (before h h' : List Entry) (held held' : ℕ → HeldClient) → AreLeaving g kinds hows who lines before (moment h held) → LeavesAlone who h h' → who < length kinds → ((other : ℕ) → other ≢ who → held' other ≡ held other)
    → (held who).place ≡ place.Here → (held' who).place ≡ place.Gone → ((shown : Shown) → (held who).box ≡ Some shown → Keeps place.Gone (held' who) shown) → AreLeaving g kinds hows (who + 1) lines before (moment h' held')
leaving-goes g kinds hows who lines before h h' held held' m l inside same was now reported = record {
  rest = m.rest ++ l.entry ∷ [];
  split = l.stands ∙ ap (λ q. q ++ l.entry ∷ []) m.split ∙ append_assoc before m.rest (l.entry ∷ []);
  in_order = in-order-more m.rest l.entry (ap is_leave l.event) (subst (λ n. are_below n m.rest ≡ true) (sym l.maker) m.below) m.in_order;
  below = below-more who (who + 1) m.rest l.entry (omega arith) (omega (arith, l.maker)) m.below;
  parting = one-parted g kinds hows who lines h h' held held' m.parting (leaves-grows g who h h' l) inside same (not-here (held' who).place now) mine;
}
  where
    not-here : (p : ClientPlace) → p ≡ place.Gone → p ≢ place.Here
    not-here p e is = cc

    c : IsParting g (get_or kinds who Silent) (hows who) who h (lines_for (length kinds) who lines) (held who)
    c = m.parting.clients who inside

    boxed : (held who).box ≡ Some c.shown
    boxed = (subst (λ p. Keeps p (held who) c.shown) was c.keeps).0

    stood : StandsLast g (hows who) place.Here who h (lines_for (length kinds) who lines) (json_lines c.shown.told)
    stood = subst (λ p. StandsLast g (hows who) p who h (lines_for (length kinds) who lines) (json_lines c.shown.told)) was c.stands

    mine : IsParting g (get_or kinds who Silent) (hows who) who h' (lines_for (length kinds) who lines) (held' who)
    mine = record {
      shown = c.shown;
      kind_is = c.kind_is;
      keeps = subst (λ p. Keeps p (held' who) c.shown) (sym now) (reported c.shown boxed);
      stands = subst (λ p. StandsLast g (hows who) p who h' (lines_for (length kinds) who lines) (json_lines c.shown.told)) (sym now)
          (stood.1, leaves-left g (hows who) who h h' (lines_for (length kinds) who lines) (json_lines c.shown.told) l stood.2);
    }
