-- A client that has no entry yet, and its coming.
use Rattle.std.proofs.Common.{◌≡◌, ℕ, ◌<◌, inl, Bool, true, false, ◌||◌, List, [], ◌∷◌, ◌++◌, Err, refl, sym, ap, ◌∙◌, subst, arith}
use Rattle.std.specs.Prelude.{if◌then◌else◌, ◌&&◌, ◌==◌}
use Rattle.std.specs.Io.KnownBytes.{Appends}
use Rattle.std.proofs.KnownBytes.{Appends-nil, Consumes-nil}
use Rattle.kak_ports.specs.Ports.{Inlet, Outlet}
use Rattle.session_turns.specs.Histories.{own, answers}
use Rattle.session_turns.specs.Turns.{Opening, plays, phase_size}
use Rattle.session_turns.specs.Headline.{Stands, IsServed, Refused, Lost}
use Rattle.session_turns.proofs.HistoryLemmas.{own-append, answers_behind-others}
use Rattle.session_turns.proofs.TurnLemmas.{phase_stops, phase_breaks}
use Rattle.session_turns.proofs.Ends.{never-stands, lost-lost}
use Rattle.session_events.specs.declared.event.Event.{Event}
use Rattle.session_events.specs.declared.event.Entry.{Entry}
use Rattle.session_events.specs.Entries.{is_join, has_joined}
use Rattle.session_events.specs.Meaning.{Gives, rules}
use Rattle.session_events.specs.Seats.{Seated, IsSameSeat, Sees}
use Rattle.client_links.specs.Wires.{Wire}
use Rattle.line_reading.specs.Reading.{IsAll}
use Rattle.line_reading.specs.Hearing.{inlet_of}
use Rattle.session_lines.specs.declared.playing.Stop.{Stop}
use Rattle.session_lines.specs.declared.playing.Stop.TheVariants as stop
use Rattle.session_lines.specs.Serving.{Service}
use Rattle.session_lines.specs.Reading.{WasDueStill}
use Rattle.session_lines.specs.Connections.{connection_end, WasServed}
use Rattle.session_lines.proofs.ReadingLemmas.{refused-end}
use Rattle.session_lines.proofs.ConnectionLemmas.{lost-end}
use Rattle.link_lines.specs.declared.ended.Ended.{Ended}
use Rattle.link_lines.specs.declared.ended.Ended.TheVariants.{Left, Closed, LinkRead, LinkWrite, InputFull, HistoryFull, Full, Broken, NoMemory}
use Rattle.link_lines.specs.Endings.{result_of, PartsHistory, WasServedOver, JoinsNot}

-- entries of others behind those of a client that has none
pub never-yet : (g : Gives) (x y : Seated) → IsSameSeat x y → own (rules g) x.number x.seen ≡ [] → Sees g x y → own (rules g) y.number y.seen ≡ []
never-yet g x y same none s =
    let P : ℕ → Type 0 = λ n. own (rules g) n y.seen ≡ [] in
    subst P (sym same.number) (ap (own (rules g) x.number) s.stands ∙ own-append (rules g) x.number x.seen s.between ∙ ap (λ q. q ++ own (rules g) x.number s.between) none ∙ s.foreign)

step-none : (t : Bool) (e : Event) (es : List Event) (rest : Bool) → (es ≡ [] → rest ≡ false) → (if t then e ∷ es else es) ≡ [] → ((t && is_join e) || rest) ≡ false
step-none true e es rest f h = cc
step-none false e es rest f h = f h

-- who has no entry hasn't joined
none-joined : (g : Gives) (k : ℕ) (h : List Entry) → own (rules g) k h ≡ [] → has_joined k h ≡ false
none-joined g k [] e = refl
none-joined g k (n ∷ h) e = step-none (n.who == k) n.event (own (rules g) k h) (has_joined k h) (none-joined g k h) e

pub not-joined : (g : Gives) (seat : Seated) → own (rules g) seat.number seat.seen ≡ [] → has_joined seat.number seat.seen ≡ true → ⊥
not-joined g seat e j = differ (has_joined seat.number seat.seen) (none-joined g seat.number seat.seen e) j
  where
    differ : (b : Bool) → b ≡ false → b ≡ true → ⊥
    differ true f t = cc
    differ false f t = cc

-- a client that didn't come is owed nothing, and was sent nothing
none-answered : (g : Gives) (k : ℕ) (h : List Entry) → own (rules g) k h ≡ [] → answers (rules g) k h ≡ []
none-answered g k h e = answers_behind-others (rules g) k [] h e

refused-stands : (g : Service) (k : ℕ) (h : List Entry) → 0 < phase_size g.protocol Opening → own (rules g.gives) k h ≡ [] → Stands g.protocol (rules g.gives) Refused k h [] []
refused-stands g k h some e =
    never-stands g.protocol (rules g.gives) k h [] [] (phase_stops g.protocol Opening [] (plays g.protocol Opening, refl) some) (record { answered = none-answered g.gives k h e; stood = e })

lost-stands : (g : Service) (k : ℕ) (h : List Entry) → own (rules g.gives) k h ≡ [] → Stands g.protocol (rules g.gives) Lost k h [] []
lost-stands g k h e =
    lost-lost g.protocol (rules g.gives) k h [] [] [] (phase_breaks g.protocol Opening [] (plays g.protocol Opening, refl)) (record { answered = none-answered g.gives k h e; stood = inl e })

-- a connection over which nothing went, for any of the ends
nothing-full : (g : Service) (k : ℕ) (h : List Entry) (a : Outlet) (left : Inlet) → 0 < phase_size g.protocol Opening → own (rules g.gives) k h ≡ [] → (w : WasServed true g k h a a left left (Err stop.HistoryFull)) × (w.bytes ≡ [])
nothing-full g k h a left some none = (
  record {
    bytes = [];
    takes = Consumes-nil left.left;
    few = omega arith;
    turns = [];
    asked = λ e. refl;
    out = [];
    sends = Appends-nil a.told;
    served = record { lines = inl refl; stands = refused-stands g k h some none };
    end_is = refused-end g.protocol (WasDueStill g.gives k h) left (answers (rules g.gives) k h) tt some (none-answered g.gives k h none);
  },
  refl,
)

nothing-lost : (g : Service) (k : ℕ) (h : List Entry) (a : Outlet) (left : Inlet) (why : Stop) → connection_end (Err why) ≡ Lost → own (rules g.gives) k h ≡ [] → (w : WasServed true g k h a a left left (Err why)) × (w.bytes ≡ [])
nothing-lost g k h a left why lost none = (
  record {
    bytes = [];
    takes = Consumes-nil left.left;
    few = omega arith;
    turns = [];
    asked = λ e. refl;
    out = [];
    sends = Appends-nil a.told;
    served = subst (λ e. IsServed g.protocol (rules g.gives) e k h [] (IsAll left []) [] []) (sym lost) (record { lines = inl refl; stands = lost-stands g k h none });
    end_is = lost-end g.protocol (WasDueStill g.gives k h) (Opening ∷ []) [] (answers (rules g.gives) k h) why left [] lost;
  },
  refl,
)

-- that is a serving
bare-row : (g : Service) (k : ℕ) (h : List Entry) (a : Wire) (e : Ended) → PartsHistory g.gives e k h h → (w : WasServed true g k h a.outlet a.outlet (inlet_of a) (inlet_of a) (result_of e)) × (w.bytes ≡ []) → WasServedOver g k h a a e
bare-row g k h a e parts w = record { front = h; served = w.0; received = subst (λ bs. Appends a.received a.received bs) (sym w.1) (Appends-nil a.received); parting = parts }

-- how a serving ended where the client couldn't come, which is to play something when it opens
pub refused-over : (g : Service) (crowded : List Entry → Bool) (a : Wire) (e : Ended) (seat : Seated) → 0 < phase_size g.protocol Opening → JoinsNot g.gives crowded e seat → WasServedOver g seat.number seat.seen a a e
refused-over g crowded a HistoryFull seat some j =
    bare-row g seat.number seat.seen a HistoryFull refl (nothing-full g seat.number seat.seen a.outlet (inlet_of a) some j.0)
refused-over g crowded a Full seat some j =
    bare-row g seat.number seat.seen a Full refl (nothing-full g seat.number seat.seen a.outlet (inlet_of a) some j.0)
refused-over g crowded a (Broken at) seat some j =
    bare-row g seat.number seat.seen a (Broken at) refl (nothing-lost g seat.number seat.seen a.outlet (inlet_of a) (stop.Broken at) refl j.0)
refused-over g crowded a NoMemory seat some j =
    bare-row g seat.number seat.seen a NoMemory refl (nothing-lost g seat.number seat.seen a.outlet (inlet_of a) stop.NoMemory refl j)
refused-over g crowded a Left seat some j = absurd j
refused-over g crowded a Closed seat some j = absurd j
refused-over g crowded a LinkRead seat some j = absurd j
refused-over g crowded a LinkWrite seat some j = absurd j
refused-over g crowded a InputFull seat some j = absurd j
