-- Drawings for which a client didn't ask, over phases one after another.
use Rattle.std.proofs.Common.{◌≡◌, ◌<◌, ℕ, inl, inr, Bool, true, false, List, [], ◌∷◌, ◌++◌, length, drop, Ok, Err, refl, sym, ap, ◌∙◌, subst, arith, append_assoc, append-nil}
use Rattle.std.specs.Prelude.{if◌then◌else◌, ◌&&◌, ◌==◌}
use Rattle.std.specs.List.{AllByRecursion}
use Rattle.std.specs.declared.result.Result.{Result}
use Rattle.kak_ports.specs.Ports.{Outlet}
use Rattle.key_names.specs.declared.key.Key.{Key}
use Rattle.requests.specs.declared.request.Request.{Request}
use Rattle.requests.specs.declared.request.Request.TheVariants.{Nothing, Keys, Resize, Scroll, Mouse, MenuSelect}
use Rattle.requests.specs.Reading.{Reads}
use Rattle.drawings.specs.declared.refusal.Refusal.{Refusal}
use Rattle.session_turns.specs.Histories.{Answer, own, events_of}
use Rattle.session_turns.specs.Turns.{Phase, Protocol, Opening, During, Line, Idle, plays}
use Rattle.session_turns.specs.Growth.{Begins, How, Whole, Over, Short, Unsent, Lost, Fits}
use Rattle.session_events.specs.declared.event.Event.{Event}
use Rattle.session_events.specs.declared.event.Event.TheVariants.{Refresh, Leave}
use Rattle.session_events.specs.declared.event.Entry.{Entry}
use Rattle.session_events.specs.Entries.{kind_of, is_drawing, entry_with}
use Rattle.session_events.specs.Legal.{Presence, Away, is_here, presence_after, presence_from}
use Rattle.session_events.specs.Meaning.{Gives, rules}
use Rattle.session_events.specs.Seats.{Seated, Sees}
use Rattle.session_events.proofs.LegalLemmas.{presence-append}
use Rattle.session_events.specs.Missing.{has_news, has_missed}
use Rattle.session_events.proofs.MissingLemmas.{news-new, news-other}
use Rattle.session_lines.specs.declared.playing.Stop.{Stop}
use Rattle.session_lines.specs.declared.playing.Stop.TheVariants as stop
use Rattle.session_lines.specs.Session.{protocol, keys_played, played_by}
use Rattle.session_lines.specs.Serving.{Service, service, Serves, HasGone, how_of, line_phases, unseen}
use Rattle.session_lines.proofs.ReadingLemmas.{due-one, short-size}
use Rattle.link_lines.specs.declared.ended.Ended.{Ended}
use Rattle.link_lines.specs.declared.ended.Ended.TheVariants.{Left, Closed, LinkRead, LinkWrite, InputFull, HistoryFull, Full, Broken, NoMemory}
use Rattle.link_lines.specs.Endings.{JoinsNot}
use Rattle.link_lines.specs.Talking.{IsDrawnUnasked, DrawsMissed}
use Rattle.link_lines.specs.Drawings.{is_unasked, DrawsMissedBehind, DrawsOnlyMissed}
use Rattle.link_lines.proofs.LostLemmas.{unsent-lost}

-- no event is a drawing for which the client didn't ask
abbrev AreAsked : List Event → Type 0
AreAsked events = AllByRecursion (λ event. is_unasked event ≡ false) events

asked-front : (whole front : List Event) → AreAsked whole → Begins whole front → AreAsked front
asked-front whole [] a b = tt
asked-front [] (e ∷ front) a b = cc
asked-front (x ∷ whole) (e ∷ front) a b = (subst (λ q. is_unasked q ≡ false) (ap (λ q. head q x) b.1) a.0, asked-front whole front a.1 (b.0, ap (λ q. drop 1 q) b.1))
  where
    head : List Event → Event → Event
    head [] d = d
    head (e ∷ es) d = e

-- entries put together
behind-append : (k : ℕ) (b xs ys : List Entry) → DrawsMissedBehind k b xs → DrawsMissedBehind k (b ++ xs) ys → DrawsMissedBehind k b (xs ++ ys)
behind-append k b [] ys d e = subst (λ q. DrawsMissedBehind k q ys) (append-nil b) e
behind-append k b (x ∷ xs) ys d e = (d.0, behind-append k (b ++ x ∷ []) xs ys d.1 (subst (λ q. DrawsMissedBehind k q ys) (sym (append_assoc b (x ∷ []) xs)) e))

-- entries of which none of the client's own is such a drawing
asked-step : (t : Bool) (e : Event) (es : List Event) (m : Type 0) → AreAsked (if t then e ∷ es else es) → ((t && is_unasked e) ≡ true → m) × AreAsked es
asked-step true e es m a = (λ u. absurd (differ (is_unasked e) a.0 u), a.1)
  where
    differ : (b : Bool) → b ≡ false → b ≡ true → ⊥
    differ true f u = cc
    differ false f u = cc
asked-step false e es m a = (λ u. cc, a)

all-asked : (g : Gives) (k : ℕ) (b h : List Entry) → AreAsked (own (rules g) k h) → DrawsMissedBehind k b h
all-asked g k b [] a = tt
all-asked g k b (n ∷ h) a =
    let s = asked-step (n.who == k) n.event (own (rules g) k h) (has_missed k b ≡ true) a in
    (s.0, all-asked g k (b ++ n ∷ []) h s.1)

none-asked : (es : List Event) → es ≡ [] → AreAsked es
none-asked [] e = tt
none-asked (x ∷ es) e = cc

-- what was missed is missed behind an entry of another
missed-foreign : (k : ℕ) (b : List Entry) (n : Entry) → (n.who == k) ≡ false → has_missed k b ≡ true → has_missed k (b ++ n ∷ []) ≡ true
missed-foreign k b n other m =
    both (is_here (presence_from k Away b)) (has_news k b) (is_here (presence_from k Away (b ++ n ∷ []))) (has_news k (b ++ n ∷ [])) (ap is_here (presence-append k Away b (n ∷ []) ∙ away (n.who == k) (presence_from k Away b) other))
    (by (is_drawing n.event) refl) m
  where
    away : (t : Bool) (p : Presence) → t ≡ false → (if t then presence_after (kind_of n.event) p else p) ≡ p
    away true p e = cc
    away false p e = refl

    by : (t : Bool) → is_drawing n.event ≡ t → has_news k b ≡ true → has_news k (b ++ n ∷ []) ≡ true
    by true d h = news-other k b n d other ∙ h
    by false d h = news-new k b n d

    both : (x y z w : Bool) → z ≡ x → (y ≡ true → w ≡ true) → (x && y) ≡ true → (z && w) ≡ true
    both true y z w e f m = rw e (f m)
    both false y z w e f m = cc

-- and behind entries of others alone
missed-on : (g : Gives) (k : ℕ) (b more : List Entry) → own (rules g) k more ≡ [] → has_missed k b ≡ true → has_missed k (b ++ more) ≡ true
missed-on g k b [] none m = ap (λ h. has_missed k h) (append-nil b) ∙ m
missed-on g k b (n ∷ more) none m = by (n.who == k) refl (λ e missed. missed-on g k (b ++ n ∷ []) more e missed) none
  where
    by : (t : Bool) → (n.who == k) ≡ t → (own (rules g) k more ≡ [] → has_missed k (b ++ n ∷ []) ≡ true → has_missed k ((b ++ n ∷ []) ++ more) ≡ true) → (if t then n.event ∷ own (rules g) k more else own (rules g) k more) ≡ [] → has_missed k (b ++ n ∷ more) ≡ true
    by true mine next e = cc
    by false other next e = ap (λ h. has_missed k h) (sym (append_assoc b (n ∷ []) more)) ∙ next e (missed-foreign k b n other m)

no-more : (es rest : List Event) → [] ≡ es ++ rest → es ≡ []
no-more [] rest e = refl
no-more (x ∷ es) rest e = cc

-- the client was drawn once where it had missed something, or not yet
drawn-once : (g : Gives) (k : ℕ) (b more : List Entry) (rest : List Event) → has_missed k b ≡ true → Refresh false ∷ [] ≡ own (rules g) k more ++ rest → DrawsMissedBehind k b more
drawn-once g k b [] rest m e = tt
drawn-once g k b (n ∷ more) rest m e = by (n.who == k) refl (λ missed f. drawn-once g k (b ++ n ∷ []) more rest missed f) e
  where
    by : (t : Bool) → (n.who == k) ≡ t → (has_missed k (b ++ n ∷ []) ≡ true → Refresh false ∷ [] ≡ own (rules g) k more ++ rest → DrawsMissedBehind k (b ++ n ∷ []) more) → Refresh false ∷ [] ≡ (if t then n.event ∷ own (rules g) k more else own (rules g) k more) ++ rest → DrawsMissedBehind k b (n ∷ more)
    by true mine behind f = (λ u. m, all-asked g k (b ++ n ∷ []) more (none-asked (own (rules g) k more) (no-more (own (rules g) k more) rest (ap (λ q. drop 1 q) f))))
    by false other behind f = (λ u. m, behind (missed-foreign k b n other m) f)

-- one phase, or a beginning of it
begins-by : (whole due front : List Event) → due ≡ whole → Begins due front → Begins whole front
begins-by whole due front e b = (b.0, sym e ∙ b.1)

plays-begin : (p : Protocol Event) (how : How) (phase : Phase) (got : List (Answer Event)) (out : List ℕ) → Fits p how (phase ∷ []) got out → Begins (plays p phase) (events_of got)
plays-begin p Whole phase got out f = ([], sym (append-nil (plays p phase)) ∙ sym f.events ∙ sym (append-nil (events_of got)))
plays-begin p Over phase got out f = ([], sym (due-one p phase got) ∙ f.events [] ∙ sym (append-nil (events_of got)))
plays-begin p Short phase got out f = let h = f.events [] in (h.0 ∷ h.1, sym (due-one p phase got) ∙ h.2)
plays-begin p Unsent phase got out f = begins-by _ _ _ (due-one p phase got) ((unsent-lost p (phase ∷ []) got out f).events [])
plays-begin p Lost phase got out f = begins-by _ _ _ (due-one p phase got) (f.events [])

-- a growth of the history, in which the client's own events are these
grown : (g : Gives) (k n : ℕ) (old new more : List Entry) → n ≡ k → new ≡ old ++ more → AreAsked (own (rules g) n more) → DrawsOnlyMissed k old → DrawsOnlyMissed k new
grown g k n old new more e grows a d =
    subst (λ h. DrawsOnlyMissed k h) (sym grows) (behind-append k [] old more d (all-asked g k old more (subst (λ m. AreAsked (own (rules g) m more)) e a)))

-- keys, and the drawing that was asked for
keys-asked : (keys : List Key) → AreAsked (keys_played keys)
keys-asked [] = (refl, tt)
keys-asked (key ∷ keys) = (refl, keys-asked keys)

line-asked : (read : Result Request Refusal) → AreAsked (played_by read)
line-asked (Ok Nothing) = tt
line-asked (Ok (Keys keys)) = keys-asked keys
line-asked (Ok (Resize size)) = (refl, keys-asked [])
line-asked (Ok (Scroll lines place)) = (refl, keys-asked [])
line-asked (Ok (Mouse mouse)) = (refl, keys-asked [])
line-asked (Ok MenuSelect) = tt
line-asked (Err refusal) = tt

-- a line was played, or a part of it
pub line-draws : (g : Gives) (reads : Reads) (opens : List Key) (x y : Seated) (a b : Outlet) (how : How) (line : List ℕ) (k : ℕ) → x.number ≡ k → Serves (service g reads opens) x y a b how (line_phases (line ∷ [])) → DrawsOnlyMissed k x.seen → DrawsOnlyMissed k y.seen
line-draws g reads opens x y a b how line k e s d =
    grown g k x.number x.seen y.seen s.adds.more e s.adds.grows
    (subst AreAsked (sym s.adds.events) (asked-front _ _ (line-asked (reads line)) (plays-begin (protocol reads opens) how (During (Line line)) s.got s.out s.fits))) d

-- a connection was opened, or a part of it
pub opening-draws : (g : Gives) (reads : Reads) (opens : List Key) (x y : Seated) (a b : Outlet) (how : How) → Serves (service g reads opens) (unseen x) y a b how (Opening ∷ []) → DrawsOnlyMissed x.number y.seen
opening-draws g reads opens x y a b how s =
    grown g x.number x.number [] y.seen s.adds.more refl s.adds.grows
    (subst AreAsked (sym s.adds.events) (asked-front _ _ (refl, keys-asked opens) (plays-begin (protocol reads opens) how Opening s.got s.out s.fits))) tt

-- entries of others came
pub sees-draws : (g : Gives) (x y : Seated) (k : ℕ) → x.number ≡ k → Sees g x y → DrawsOnlyMissed k x.seen → DrawsOnlyMissed k y.seen
sees-draws g x y k e s d = grown g k x.number x.seen y.seen s.between e s.stands (none-asked _ s.foreign) d

-- and the client was drawn what it had missed
drawn-draws : (g : Service) (x y : Seated) (a b : Outlet) (how : How) (k : ℕ) → g.protocol.idles ≡ Refresh false → x.number ≡ k → IsDrawnUnasked g x y a b how → DrawsOnlyMissed k x.seen → DrawsOnlyMissed k y.seen
drawn-draws g x y a b how k idle e w d =
    let n : w.looked.number ≡ k = w.same.number ∙ e in
    let s = w.serves in
    let begins = subst (λ q. Begins (q ∷ []) (events_of s.got)) idle (plays-begin g.protocol how (During Idle) s.got s.out s.fits) in
    subst (λ h. DrawsOnlyMissed k h) (sym s.adds.grows)
    (behind-append k [] w.looked.seen s.adds.more (sees-draws g.gives x w.looked k e w.sees d)
    (drawn-once g.gives k w.looked.seen s.adds.more begins.0 (subst (λ m. has_missed m w.looked.seen ≡ true) n w.missed)
    (begins.1 ∙ ap (λ q. q ++ begins.0) (sym s.adds.events ∙ ap (λ m. own (rules g.gives) m s.adds.more) n))))

pub missed-draws : {A : Type 0} (r : Result A Stop) (g : Service) (x y : Seated) (a b : Outlet) (k : ℕ) → g.protocol.idles ≡ Refresh false → x.number ≡ k → DrawsMissed g x y a b r → DrawsOnlyMissed k x.seen → DrawsOnlyMissed k y.seen
missed-draws (Ok done) g x y a b k idle e (inl m) d = sees-draws g.gives x y k e m.sees d
missed-draws (Ok done) g x y a b k idle e (inr w) d = drawn-draws g x y a b Whole k idle e w d
missed-draws (Err (stop.Broken at)) g x y a b k idle e (inl m) d = sees-draws g.gives x y k e m.sees d
missed-draws (Err (stop.Broken at)) g x y a b k idle e (inr w) d = drawn-draws g x y a b (how_of (Err (stop.Broken at))) k idle e w d
missed-draws (Err stop.HistoryFull) g x y a b k idle e w d = drawn-draws g x y a b (how_of (Err stop.HistoryFull)) k idle e w d
missed-draws (Err stop.NoMemory) g x y a b k idle e w d = drawn-draws g x y a b (how_of (Err stop.NoMemory)) k idle e w d
missed-draws (Err stop.WriteFault) g x y a b k idle e w d = drawn-draws g x y a b (how_of (Err stop.WriteFault)) k idle e w d

-- where its drawing was refused, the client has missed something still
pub still-missed : (g : Service) (old new : Seated) (a b : Outlet) → IsDrawnUnasked g old new a b Short → has_missed old.number new.seen ≡ true
still-missed g old new a b d =
    let s = d.serves in
    let none = s.adds.events ∙ ap events_of (nothing s.got (short-size g.protocol (During Idle) s.got s.out s.fits)) in
    subst (λ n. has_missed n new.seen ≡ true) d.same.number
    (ap (λ h. has_missed d.looked.number h) s.adds.grows ∙ missed-on g.gives d.looked.number d.looked.seen s.adds.more none d.missed)
  where
    nothing : (got : List (Answer Event)) → length got < 1 → got ≡ []
    nothing [] few = refl
    nothing (x ∷ got) few = absurd (omega (arith, few))

-- the client left
pub gone-draws : (g : Gives) (x y : Seated) (k : ℕ) → x.number ≡ k → HasGone g x y → DrawsOnlyMissed k x.seen → DrawsOnlyMissed k y.seen
gone-draws g x y k e w d =
    subst (λ h. DrawsOnlyMissed k h) (sym w.stands)
    (behind-append k [] (x.seen ++ w.between) (entry_with x.number Leave w.answers ∷ [])
    (behind-append k [] x.seen w.between d (all-asked g k x.seen w.between (subst (λ m. AreAsked (own (rules g) m w.between)) e (none-asked _ w.foreign))))
    (leaving (x.number == k), tt))
  where
    leaving : (t : Bool) → (t && false) ≡ true → has_missed k (x.seen ++ w.between) ≡ true
    leaving true u = cc
    leaving false u = cc

-- a client of which there is no entry
never-draws : (g : Gives) (k n : ℕ) (h : List Entry) → n ≡ k → own (rules g) n h ≡ [] → DrawsOnlyMissed k h
never-draws g k n h e none = all-asked g k [] h (subst (λ m. AreAsked (own (rules g) m h)) e (none-asked _ none))

pub refused-draws : (g : Gives) (crowded : List Entry → Bool) (e : Ended) (seat : Seated) (k : ℕ) → seat.number ≡ k → JoinsNot g crowded e seat → DrawsOnlyMissed k seat.seen
refused-draws g crowded HistoryFull seat k n j = never-draws g k seat.number seat.seen n j.0
refused-draws g crowded Full seat k n j = never-draws g k seat.number seat.seen n j.0
refused-draws g crowded (Broken at) seat k n j = never-draws g k seat.number seat.seen n j.0
refused-draws g crowded NoMemory seat k n j = never-draws g k seat.number seat.seen n j
refused-draws g crowded Left seat k n j = absurd j
refused-draws g crowded Closed seat k n j = absurd j
refused-draws g crowded LinkRead seat k n j = absurd j
refused-draws g crowded LinkWrite seat k n j = absurd j
refused-draws g crowded InputFull seat k n j = absurd j

-- the client by its number
pub draws-as : (n k : ℕ) (h : List Entry) → n ≡ k → DrawsOnlyMissed n h → DrawsOnlyMissed k h
draws-as n k h e d = subst (λ m. DrawsOnlyMissed m h) e d

-- and so it stays while others go on
pub others-draw : (g : Gives) (k : ℕ) (h more : List Entry) → own (rules g) k more ≡ [] → DrawsOnlyMissed k h → DrawsOnlyMissed k (h ++ more)
others-draw g k h more none d = grown g k k h (h ++ more) more refl refl (none-asked _ none) d
