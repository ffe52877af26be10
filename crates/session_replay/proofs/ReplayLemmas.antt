-- What a replay has reached goes on being reached, and how its leavings go on.
use Rattle.std.proofs.Common.{◌≡◌, ◌≢◌, ℕ, ◌<◌, ◌≤◌, ◌==◌, inl, inr, Bool, true, false, not, ◌&&◌, ◌||◌, List, [], ◌∷◌, ◌++◌, length, take, refl, sym, ap, ◌∙◌, subst, arith, append_assoc, length-append}
use Rattle.std.specs.Prelude.{if◌then◌else◌, nat_lt}
use Rattle.std.specs.List.{list_all, list_any}
use Rattle.std.proofs.lemmas.Bool.{cases_lt, lt-ltb, ltb-true, eq-eqb, eqb-true, eqb-false}
use Rattle.std.proofs.lemmas.List.{take-append-le}
use Rattle.std.proofs.Math.Seq.{take-append_seam}
use Rattle.ui_board.specs.declared.ui.Kind.{Kind}
use Rattle.ui_board.specs.Told.{Shown, json_lines}
use Rattle.session_turns.specs.Histories.{own}
use Rattle.session_turns.proofs.HistoryLemmas.{own-append}
use Rattle.session_events.specs.declared.event.Event.{Event}
use Rattle.session_events.specs.declared.event.Event.TheVariants.{Leave}
use Rattle.session_events.specs.declared.event.Entry.{Entry}
use Rattle.session_events.specs.Entries.{is_leave}
use Rattle.session_events.specs.Meaning.{rules}
use Rattle.session_replay.specs.Settings.{Setting}
use Rattle.session_replay.specs.Written.{lines_for}
use Rattle.session_replay.specs.Clients.{ClientStands, HeldClient, IsMoment, GrowsBy, moment}
use Rattle.session_replay.specs.Replays.{Replay, has_bad, is_over, leave_in_order, before_leavings, ReachesLines}
use Rattle.session_replay.specs.Phases.{are_below}

-- one growth of a client after another
pub grows-append : (g : Setting) (k : ℕ) (a b c : List Entry) → GrowsBy g k a b → GrowsBy g k b c → GrowsBy g k a c
grows-append g k a b c x y = record {
  more = x.more ++ y.more;
  grows = y.grows ∙ ap (λ q. q ++ y.more) x.grows ∙ append_assoc a x.more y.more;
  alone = λ other differs. own-append (rules g.gives) other x.more y.more ∙ ap (λ q. q ++ own (rules g.gives) other y.more) (x.alone other differs) ∙ y.alone other differs;
}

-- a moment is reached
abbrev pub moment-reached : (r : Replay) (kinds : List Kind) (lines : List (List ℕ)) (front rest : List Entry) (held : ℕ → HeldClient) (over : Bool) → length kinds ≡ length r.shown → r.history ≡ front ++ rest → IsMoment r.with kinds lines (moment front held) → has_bad (length r.shown) lines ≡ false → is_over front ≡ over → ReachesLines r lines over
moment-reached r kinds lines front rest held over count split m good is = record {
  good = good;
  front = front;
  rest = rest;
  split = split;
  clients = λ who inside.
      let c = m.clients who (subst (λ n. who < n) (sym count) inside) in
      ((held who).place, json_lines c.shown.told, subst (λ n. ClientStands r.with (held who).place who front (lines_for n who lines) (json_lines c.shown.told)) count c.stands);
  over_is = is;
}

-- and goes on being reached, whatever entries and lines come behind
pub reached-later : (g : Setting) (limit : ℕ) (old new lines : List (List ℕ)) (h more : List Entry) (shown after : List Shown) (over : Bool) → length after ≡ length shown
    → ReachesLines (record { with = g; limit = limit; lines = old; history = h; shown = shown }) lines over → ReachesLines (record { with = g; limit = limit; lines = new; history = h ++ more; shown = after }) lines over
reached-later g limit old new lines h more shown after over count r = record {
  good = subst (λ n. has_bad n lines ≡ false) (sym count) r.good;
  front = r.front;
  rest = r.rest ++ more;
  split = ap (λ q. q ++ more) r.split ∙ append_assoc r.front r.rest more;
  clients = λ who inside.
      let c = r.clients who (subst (λ n. who < n) count inside) in
      (c.0, c.1, subst (λ n. ClientStands g c.0 who r.front (lines_for n who lines) c.1) (sym count) c.2);
  over_is = r.over_is;
}

-- what is reached behind each number of lines, with one line more
pub order-more : (r : Replay) (given : List (List ℕ)) (line : List ℕ) → ((i : ℕ) → i < length given → ReachesLines r (take i given) false) → ReachesLines r given false → (i : ℕ) → i < length (given ++ line ∷ []) → ReachesLines r (take i (given ++ line ∷ [])) false
order-more r given line order last i inside =
    elim (cases_lt i (length given)) [
      | inl before ↦ subst (λ q. ReachesLines r q false) (sym (take-append-le i given (line ∷ []) (omega (arith, before)))) (order i before)
      | inr past ↦
          let at : length given ≡ i = omega (arith, past, inside, length-append given (line ∷ [])) in
          subst (λ q. ReachesLines r q false) (sym (ap (λ n. take n (given ++ line ∷ [])) (sym at) ∙ take-append_seam given (line ∷ []))) last
    ]

-- the entries of one client's growth are its own
pub all-own : (g : Setting) (k : ℕ) (entry : Entry) (more : List Entry) → ((other : ℕ) → other ≢ k → own (rules g.gives) other (entry ∷ more) ≡ []) → entry.who ≡ k
all-own g k entry more alone = by (entry.who == k) refl
  where
    none : (t : Bool) → t ≡ true → (if t then entry.event ∷ own (rules g.gives) entry.who more else own (rules g.gives) entry.who more) ≡ [] → ⊥
    none true e n = cc
    none false e n = cc

    by : (t : Bool) → (entry.who == k) ≡ t → entry.who ≡ k
    by true e = eqb-true entry.who k e
    by false e = absurd (none (entry.who == entry.who) (eq-eqb entry.who entry.who refl) (alone entry.who (eqb-false entry.who k e)))

pub rest-alone : (g : Setting) (k : ℕ) (entry : Entry) (more : List Entry) → ((other : ℕ) → other ≢ k → own (rules g.gives) other (entry ∷ more) ≡ []) → (other : ℕ) → other ≢ k → own (rules g.gives) other more ≡ []
rest-alone g k entry more alone other differs = by (entry.who == other) (alone other differs)
  where
    by : (t : Bool) → (if t then entry.event ∷ own (rules g.gives) other more else own (rules g.gives) other more) ≡ [] → own (rules g.gives) other more ≡ []
    by true e = cc
    by false e = e

-- a growth by which a client's own events have its leaving more is that one entry
pub one-leaving : (g : Setting) (k : ℕ) (h h' : List Entry) → GrowsBy g k h h' → own (rules g.gives) k h' ≡ own (rules g.gives) k h ++ Leave ∷ [] → (entry : Entry) × (h' ≡ h ++ entry ∷ []) × (entry.who ≡ k) × (entry.event ≡ Leave)
one-leaving g k h h' grows e = by grows.more grows.grows grows.alone (cancel (own (rules g.gives) k h) (own (rules g.gives) k grows.more) (Leave ∷ []) (sym (own-append (rules g.gives) k h grows.more) ∙ ap (own (rules g.gives) k) (sym grows.grows) ∙ e))
  where
    cancel : (a b c : List Event) → a ++ b ≡ a ++ c → b ≡ c
    cancel [] b c e = e
    cancel (x ∷ a) b c e = cancel a b c (cc)

    two-none : (entry next : Entry) (more : List Entry) → entry.who ≡ k → next.who ≡ k → own (rules g.gives) k (entry ∷ next ∷ more) ≡ Leave ∷ [] → ⊥
    two-none entry next more x y e = let two : entry.event ∷ next.event ∷ own (rules g.gives) k more ≡ Leave ∷ [] = rw (eq-eqb entry.who k x, eq-eqb next.who k y) at e in cc

    by : (more : List Entry) → h' ≡ h ++ more → ((other : ℕ) → other ≢ k → own (rules g.gives) other more ≡ []) → own (rules g.gives) k more ≡ Leave ∷ [] → (entry : Entry) × (h' ≡ h ++ entry ∷ []) × (entry.who ≡ k) × (entry.event ≡ Leave)
    by [] s alone e = cc
    by (entry ∷ []) s alone e =
        let mine : entry.who ≡ k = all-own g k entry [] alone in
        let is : entry.event ∷ [] ≡ Leave ∷ [] = rw (eq-eqb entry.who k mine) at e in
        (entry, s, mine, cc)
    by (entry ∷ next ∷ more) s alone e =
        absurd (two-none entry next more (all-own g k entry (next ∷ more) alone) (all-own g k next more (rest-alone g k entry (next ∷ more) alone)) e)

-- where nobody leaves, all do so in order, whatever the number
pub none-below : (n : ℕ) (entries : List Entry) → list_any (λ entry. is_leave entry.event) entries ≡ false → are_below n entries ≡ true
none-below n [] e = refl
none-below n (entry ∷ entries) e = by (is_leave entry.event) (list_any (λ later. is_leave later.event) entries) (nat_lt entry.who n) (are_below n entries) e (none-below n entries)
  where
    by : (x y z w : Bool) → (x || y) ≡ false → (y ≡ false → w ≡ true) → ((not x || z) && w) ≡ true
    by true y z w e f = cc
    by false y z w e f = f e

pub none-in-order : (entries : List Entry) → list_any (λ entry. is_leave entry.event) entries ≡ false → leave_in_order entries ≡ true
none-in-order [] e = refl
none-in-order (entry ∷ entries) e = by (is_leave entry.event) (list_any (λ later. is_leave later.event) entries) (list_all (λ later. is_leave later.event && nat_lt entry.who later.who) entries) (leave_in_order entries) e (none-in-order entries)
  where
    by : (x y z w : Bool) → (x || y) ≡ false → (y ≡ false → w ≡ true) → ((not x || z) && w) ≡ true
    by true y z w e f = cc
    by false y z w e f = f e

-- the leaving of a client with a greater number than those who left before
all-more : (passes : Entry → Bool) (entries : List Entry) (entry : Entry) → list_all passes entries ≡ true → passes entry ≡ true → list_all passes (entries ++ entry ∷ []) ≡ true
all-more passes [] entry all last = rw last refl
all-more passes (first ∷ entries) entry all last = by (passes first) (list_all passes entries) (list_all passes (entries ++ entry ∷ [])) all (λ e. all-more passes entries entry e last)
  where
    by : (x y z : Bool) → (x && y) ≡ true → (y ≡ true → z ≡ true) → (x && z) ≡ true
    by true y z e f = f e
    by false y z e f = cc

pub below-more : (n m : ℕ) (entries : List Entry) (entry : Entry) → n ≤ m → entry.who < m → are_below n entries ≡ true → are_below m (entries ++ entry ∷ []) ≡ true
below-more n m [] entry le lt e = rw (lt-ltb entry.who m lt) (both (not (is_leave entry.event)))
  where
    both : (x : Bool) → ((x || true) && true) ≡ true
    both true = refl
    both false = refl
below-more n m (first ∷ entries) entry le lt e =
    by (not (is_leave first.event)) (nat_lt first.who n) (nat_lt first.who m) (are_below n entries) (are_below m (entries ++ entry ∷ [])) (λ b. lt-ltb first.who m (omega (arith, ltb-true first.who n b, le))) (below-more n m entries entry le lt) e
  where
    by : (x y z v w : Bool) → (y ≡ true → z ≡ true) → (v ≡ true → w ≡ true) → ((x || y) && v) ≡ true → ((x || z) && w) ≡ true
    by true y z v w f k e = k e
    by false true z v w f k e = rw (f refl) (k e)
    by false false z v w f k e = cc

pub in-order-more : (entries : List Entry) (entry : Entry) → is_leave entry.event ≡ true → are_below entry.who entries ≡ true → leave_in_order entries ≡ true → leave_in_order (entries ++ entry ∷ []) ≡ true
in-order-more [] entry leaves below e = by (is_leave entry.event)
  where
    by : (x : Bool) → ((not x || true) && true) ≡ true
    by true = refl
    by false = refl
in-order-more (first ∷ entries) entry leaves below e =
    by (is_leave first.event) (nat_lt first.who entry.who) (list_all behind entries) (list_all behind (entries ++ entry ∷ [])) (are_below entry.who entries) (leave_in_order entries) (leave_in_order (entries ++ entry ∷ []))
    (λ all less. all-more behind entries entry all (rw (leaves, less) refl)) (λ b o. in-order-more entries entry leaves b o) below e
  where
    behind : Entry → Bool
    behind later = is_leave later.event && nat_lt first.who later.who

    by : (x y v w b o p : Bool) → (v ≡ true → y ≡ true → w ≡ true) → (b ≡ true → o ≡ true → p ≡ true) → ((not x || y) && b) ≡ true → ((not x || v) && o) ≡ true → ((not x || w) && p) ≡ true
    by false y v w b o p f k d e = k d e
    by true true true w b o p f k d e = rw (f refl refl) (k d e)
    by true false v w b o p f k d e = cc
    by true true false w b o p f k d e = cc

-- where nobody leaves among some entries, these stand before all leavings
pub before-leavings : (entries more : List Entry) → list_any (λ entry. is_leave entry.event) entries ≡ false → before_leavings (entries ++ more) ≡ entries ++ before_leavings more
before-leavings [] more e = refl
before-leavings (entry ∷ entries) more e = by (is_leave entry.event) (list_any (λ later. is_leave later.event) entries) e (before-leavings entries more)
  where
    by : (x y : Bool) → (x || y) ≡ false → (y ≡ false → before_leavings (entries ++ more) ≡ entries ++ before_leavings more) → (if x then [] else entry ∷ before_leavings (entries ++ more)) ≡ entry ∷ (entries ++ before_leavings more)
    by true y e f = cc
    by false y e f = ap (λ q. entry ∷ q) (f e)
