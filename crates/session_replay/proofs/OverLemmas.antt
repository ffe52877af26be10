-- When a replay is over, and which entries a leaving adds.
use Rattle.std.proofs.Common.{◌≡◌, ◌≢◌, ℕ, ◌<◌, ◌==◌, inl, inr, Bool, true, false, not, ◌&&◌, ◌||◌, List, [], ◌∷◌, ◌++◌, length, refl, sym, ap, ◌∙◌}
use Rattle.std.specs.Prelude.{if◌then◌else◌}
use Rattle.std.specs.List.{list_any}
use Rattle.std.proofs.lemmas.Bool.{cases_lt, eqb-true}
use Rattle.std.proofs.lemmas.List.Folds.{list_any-append}
use Rattle.ui_board.specs.declared.ui.Kind.{Kind}
use Rattle.ui_board.specs.Told.{json_lines}
use Rattle.session_turns.specs.Histories.{own, events_of}
use Rattle.session_turns.specs.Growth.{How}
use Rattle.session_events.specs.declared.event.Event.{Event}
use Rattle.session_events.specs.declared.event.Event.TheVariants.{Leave}
use Rattle.session_events.specs.declared.event.Entry.{Entry}
use Rattle.session_events.specs.Entries.{kind_of, is_leave}
use Rattle.session_events.specs.Legal.{Presence, Away, Gone, is_here, presence_after, presence_from}
use Rattle.session_events.specs.Meaning.{rules}
use Rattle.session_replay.specs.Settings.{Setting}
use Rattle.session_replay.specs.declared.places.ClientPlace.{ClientPlace}
use Rattle.session_replay.specs.declared.places.ClientPlace.TheVariants as place
use Rattle.session_replay.specs.Clients.{LeftAt, ClientStands, HeldClient, IsMoment, moment}
use Rattle.session_replay.specs.Replays.{is_over}
use Rattle.session_replay.proofs.ClientLemmas.{presence-others}

-- where a client is, by its own events
abbrev moves : Presence → List Event → Presence
moves p [] = p
moves p (event ∷ events) = moves (presence_after (kind_of event) p) events

moves-append : (p : Presence) (a b : List Event) → moves p (a ++ b) ≡ moves (moves p a) b
moves-append p [] b = refl
moves-append p (event ∷ a) b = moves-append (presence_after (kind_of event) p) a b

presence-step : (g : Setting) (k : ℕ) (t : Bool) (p : Presence) (entry : Entry) (h : List Entry) → ((q : Presence) → presence_from k q h ≡ moves q (own (rules g.gives) k h))
    → presence_from k (if t then presence_after (kind_of entry.event) p else p) h ≡ moves p (if t then entry.event ∷ own (rules g.gives) k h else own (rules g.gives) k h)
presence-step g k true p entry h next = next (presence_after (kind_of entry.event) p)
presence-step g k false p entry h next = next p

presence-own : (g : Setting) (k : ℕ) (p : Presence) (h : List Entry) → presence_from k p h ≡ moves p (own (rules g.gives) k h)
presence-own g k p [] = refl
presence-own g k p (entry ∷ h) = presence-step g k (entry.who == k) p entry h (λ q. presence-own g k q h)

-- a client whose last event is its leaving is gone
left-is-gone : (g : Setting) (k : ℕ) (h : List Entry) (events : List Event) → own (rules g.gives) k h ≡ events ++ Leave ∷ [] → presence_from k Away h ≡ Gone
left-is-gone g k h events e = presence-own g k Away h ∙ ap (moves Away) e ∙ moves-append Away events (Leave ∷ [])

-- a client that hasn't come, or has gone, isn't here
not-here : (g : Setting) (p : ClientPlace) (k : ℕ) (h : List Entry) (lines : List (List ℕ)) (told : List ℕ) → p ≢ place.Here → ClientStands g p k h lines told → is_here (presence_from k Away h) ≡ false
not-here g place.Away k h lines told differs s = ap is_here (presence-others g k Away h s.0)
not-here g place.Here k h lines told differs s = absurd (differs refl)
not-here g place.Gone k h lines told differs s = ap is_here (left-is-gone g k h (events_of s.1.got) s.1.events)

-- one of those who made some entries passes a test
maker-step : (g : Setting) (k : ℕ) (passes : ℕ → Bool) (entry : Entry) (h : List Entry) (t : Bool) → (entry.who == k) ≡ t → passes k ≡ true → ((own (rules g.gives) k h ≡ [] → ⊥) → list_any (λ e. passes e.who) h ≡ true)
    → ((if t then entry.event ∷ own (rules g.gives) k h else own (rules g.gives) k h) ≡ [] → ⊥) → (passes entry.who || list_any (λ e. passes e.who) h) ≡ true
maker-step g k passes entry h true e yes-k next some = rw (ap passes (eqb-true entry.who k e) ∙ yes-k) refl
maker-step g k passes entry h false e yes-k next some = or-right (passes entry.who) (list_any (λ e. passes e.who) h) (next some)
  where
    or-right : (x y : Bool) → y ≡ true → (x || y) ≡ true
    or-right true y e = refl
    or-right false y e = e

some-maker : (g : Setting) (k : ℕ) (passes : ℕ → Bool) (h : List Entry) → passes k ≡ true → (own (rules g.gives) k h ≡ [] → ⊥) → list_any (λ e. passes e.who) h ≡ true
some-maker g k passes [] yes-k some = absurd (some refl)
some-maker g k passes (entry ∷ h) yes-k some = maker-step g k passes entry h (entry.who == k) refl yes-k (λ more. some-maker g k passes h yes-k more) some

no-maker : (passes : ℕ → Bool) (h : List Entry) → ((k : ℕ) → passes k ≡ false) → list_any (λ e. passes e.who) h ≡ false
no-maker passes [] none = refl
no-maker passes (entry ∷ h) none = rw (none entry.who) (no-maker passes h none)

and-false : (x y : Bool) → y ≡ true → (x && not y) ≡ false
and-false true y e = rw e refl
and-false false y e = refl

-- a replay isn't over where somebody is here
pub here-not-over : (g : Setting) (k : ℕ) (h : List Entry) → is_here (presence_from k Away h) ≡ true → is_over h ≡ false
here-not-over g k h here =
    and-false (list_any (λ entry. is_leave entry.event) h) (list_any (λ entry. is_here (presence_from entry.who Away h)) h)
    (some-maker g k (λ n. is_here (presence_from n Away h)) h here some)
  where
    some : own (rules g.gives) k h ≡ [] → ⊥
    some none = let away : false ≡ true = sym (ap is_here (presence-others g k Away h none)) ∙ here in cc

-- a leaving of a client's own is a leaving
leave-step : (g : Setting) (k : ℕ) (entry : Entry) (h : List Entry) (t : Bool) → (list_any is_leave (own (rules g.gives) k h) ≡ true → list_any (λ e. is_leave e.event) h ≡ true)
    → list_any is_leave (if t then entry.event ∷ own (rules g.gives) k h else own (rules g.gives) k h) ≡ true → (is_leave entry.event || list_any (λ e. is_leave e.event) h) ≡ true
leave-step g k entry h true next e = either (is_leave entry.event) (list_any is_leave (own (rules g.gives) k h)) (list_any (λ e. is_leave e.event) h) next e
  where
    either : (x y z : Bool) → (y ≡ true → z ≡ true) → (x || y) ≡ true → (x || z) ≡ true
    either true y z f e = refl
    either false y z f e = f e
leave-step g k entry h false next e = behind (is_leave entry.event) (list_any (λ e. is_leave e.event) h) (next e)
  where
    behind : (x y : Bool) → y ≡ true → (x || y) ≡ true
    behind true y e = refl
    behind false y e = e

own-leaving : (g : Setting) (k : ℕ) (h : List Entry) → list_any is_leave (own (rules g.gives) k h) ≡ true → list_any (λ e. is_leave e.event) h ≡ true
own-leaving g k [] e = e
own-leaving g k (entry ∷ h) e = leave-step g k entry h (entry.who == k) (own-leaving g k h) e

has-left : (g : Setting) (k : ℕ) (h : List Entry) (events : List Event) → own (rules g.gives) k h ≡ events ++ Leave ∷ [] → list_any (λ e. is_leave e.event) h ≡ true
has-left g k h events e = own-leaving g k h (ap (list_any is_leave) e ∙ list_any-append is_leave events (Leave ∷ []) ∙ last (list_any is_leave events))
  where
    last : (x : Bool) → (x || true) ≡ true
    last true = refl
    last false = refl

-- a replay is over where a client has gone, and none is here
pub gone-over : (g : Setting) (kinds : List Kind) (k : ℕ) (lines mine : List (List ℕ)) (told : List ℕ) (h : List Entry) (held : ℕ → HeldClient) (how : How) → IsMoment g kinds lines (moment h held)
    → ((other : ℕ) → other < length kinds → (held other).place ≢ place.Here) → LeftAt g how k h mine told → is_over h ≡ true
gone-over g kinds k lines mine told h held how m nobody l =
    rw (has-left g k h (events_of l.got) l.events, no-maker (λ n. is_here (presence_from n Away h)) h absent) refl
  where
    absent : (n : ℕ) → is_here (presence_from n Away h) ≡ false
    absent n =
        elim (cases_lt n (length kinds)) [
          | inl inside ↦ let c = m.clients n inside in not-here g (held n).place n h _ (json_lines c.shown.told) (nobody n inside) c.stands
          | inr past ↦ ap is_here (presence-others g n Away h (m.strangers n past))
        ]
