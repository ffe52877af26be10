-- From what was played of a connection to what stands when it has ended.
use Rattle.std.proofs.Common.{◌≡◌, ℕ, inl, inr, Bool, true, false, List, [], ◌∷◌, ◌++◌, length, take, Ok, Err, refl, sym, ap, ◌∙◌, subst, arith, append-nil, append_assoc, length-append, ◌||◌, ◌+◌, ◌==◌, ◌≤◌, ◌⊎◌, ⊎_elim}
use Rattle.std.specs.List.{flat_map}
use Rattle.std.specs.declared.result.Result.{Result}
use Rattle.std.proofs.Math.Seq.{take-append-add}
use Rattle.std.proofs.lemmas.Bool.{eq-eqb}
use Rattle.std.proofs.KnownBytes.{Consumes-nil}
use Rattle.std.specs.Prelude.{if◌then◌else◌}
use Rattle.std.proofs.lemmas.List.{take_all}
use Rattle.kak_ports.specs.Ports.{Inlet, Outlet}
use Rattle.session_turns.specs.Histories.{Answer, own, answers, events_of, is_leaving}
use Rattle.session_turns.specs.Turns.{Turn, Line, Idle, Phase, Protocol, Opening, During, later, lines_among, plays, answers_to}
use Rattle.session_turns.specs.Growth.{Whole, Over, Adds, IsWhole, IsOver}
use Rattle.session_turns.specs.Headline.{Lost, Stands, LinesRead, AreLines}
use Rattle.session_turns.proofs.Lists.{is_leaving-append, length-events_of}
use Rattle.session_turns.proofs.TurnLemmas.{flat_map-append}
use Rattle.session_turns.proofs.HistoryLemmas.{adds-others, adds-append, adds-answers, adds-own_events, leave-answers, leave-own}
use Rattle.session_turns.proofs.Ends.{HasLeft, HasStayed, HasLost, left-stands, closed-stands, refused-stands, unsent-stands, lost-lost, short-lost, whole-lost, over-lost}
use Rattle.session_events.specs.declared.event.Event.{Event}
use Rattle.session_events.specs.declared.event.Event.TheVariants.{Leave}
use Rattle.session_events.specs.declared.event.Entry.{Entry}
use Rattle.session_events.specs.Entries.{entry_with}
use Rattle.session_events.specs.Meaning.{rules}
use Rattle.session_events.specs.Seats.{Seated, IsSameSeat, Sees}
use Rattle.session_lines.specs.declared.playing.Stop.{Stop}
use Rattle.session_lines.specs.declared.playing.Stop.TheVariants as stop
use Rattle.session_lines.specs.declared.reading.InputEnd.{InputEnd}
use Rattle.session_lines.specs.declared.reading.InputEnd.TheVariants.{Left, Ended, ReadFault, Full}
use Rattle.session_lines.specs.Stops.{IsLoss}
use Rattle.session_lines.specs.Serving.{Service, Serves, HasGone, how_of}
use Rattle.line_reading.specs.Reading.{IsAll}
use Rattle.session_lines.specs.Reading.{how_read, IsDueStill, WasDueStill, WasKept, IsTakenFor, WasStopped, EndIs}
use Rattle.session_lines.specs.Connections.{connection_end, is_unwritten, Plays, WasServed}
use Rattle.session_lines.proofs.ReadingLemmas.{stopped-lines, opening-end, ends-by}
use Rattle.session_lines.proofs.ServingLemmas.{serves-append}

-- an opening that stopped: nothing was read
pub opening-stopped : (u : Bool) (g : Service) (old new : Seated) (a b : Outlet) (left : Inlet) (why : Stop) → Serves g old new a b (how_of (Err why)) (Opening ∷ []) → (p : Plays u (Opening ∷ []) g old new a b left left (Err why)) × (p.bytes ≡ [])
opening-stopped u g old new a b left why s = (record { bytes = []; takes = Consumes-nil left.left; few = omega arith; turns = []; lines_are = stopped-lines why _ [] [] (inl refl); asked = λ e. refl; serves = s; end_is = opening-end g.protocol (IsDueStill old.number new.seen) why left s.got s.out tt s.fits }, refl)

-- what is over with its opening has that opening's answers
opening-over : (protocol : Protocol Event) (got : List (Answer Event)) (out : List ℕ) → IsOver protocol (Opening ∷ []) got out → is_leaving (answers_to protocol (Opening ∷ []) got) ≡ true
opening-over protocol got out o =
    let opening : List Event = plays protocol Opening in
    let count : length (flat_map (plays protocol) (Opening ∷ [])) ≡ length got = ap length (none-behind (is_leaving (take (length opening) got)) opening ∙ o.events []) ∙ length-events_of got in
    ap (λ n. is_leaving (take n got)) count ∙ ap is_leaving (take_all (length got) got (least (length got))) ∙ o.leaves
  where
    none-behind : (t : Bool) (es : List Event) → es ++ [] ≡ es ++ flat_map (plays protocol) (if t then [] else [])
    none-behind true es = refl
    none-behind false es = refl

    least : (n : ℕ) → n ≤ n
    least n = omega arith

-- an opening in which the client was let go: nothing was read
pub opening-left : (u : Bool) (g : Service) (old new : Seated) (a b : Outlet) (left : Inlet) (l : Bool) → l ≡ true → Serves g old new a b (how_of (Ok l)) (Opening ∷ []) → (p : Plays u (Opening ∷ []) g old new a b left left (Ok Left)) × (p.bytes ≡ [])
opening-left u g old new a b left l e s = (
  record {
    bytes = [];
    takes = Consumes-nil left.left;
    few = omega arith;
    turns = [];
    lines_are = inl refl;
    asked = λ e. refl;
    serves = now;
    end_is = inl (opening-over g.protocol now.got now.out now.fits, refl);
  },
  refl,
)
  where
    now : Serves g old new a b Over (Opening ∷ [])
    now = subst (λ q. Serves g old new a b (how_of (Ok q)) (Opening ∷ [])) e s

-- the phases behind whole ones kept the client, and so did all
kept-behind : (protocol : Protocol Event) (first more : List Phase) (a b : List (Answer Event)) (x : List ℕ) → IsWhole protocol first a x → is_leaving (answers_to protocol more b) ≡ false → is_leaving (answers_to protocol (first ++ more) (a ++ b)) ≡ false
kept-behind protocol first more a b x w k =
    let m : ℕ = length (flat_map (plays protocol) more) in
    let e : length (flat_map (plays protocol) (first ++ more)) ≡ length a + m =
    ap length (flat_map-append protocol first more) ∙ length-append (flat_map (plays protocol) first) (flat_map (plays protocol) more) ∙ ap (λ n. n + m) (sym (ap length w.events) ∙ length-events_of a) in
    ap (λ n. is_leaving (take n (a ++ b))) e
    ∙ ap is_leaving (take-append-add a b m)
    ∙ is_leaving-append a (take m b)
    ∙ both (is_leaving a) (is_leaving (take m b)) w.stays k
  where
    both : (x y : Bool) → x ≡ false → y ≡ false → (x || y) ≡ false
    both x y d e = rw (d, e) refl

-- an input behind the opening
pub opened-played : (r : Result InputEnd Stop) (u : Bool) (g : Service) (old mid new : Seated) (a b c : Outlet) (left rest : Inlet) (l : Bool) → l ≡ false → IsSameSeat old mid
    → Serves g old mid a b (how_of (Ok l)) (Opening ∷ []) → (q : Plays u [] g mid new b c left rest r) → (p : Plays u (Opening ∷ []) g old new a c left rest r) × (p.bytes ≡ q.bytes)
opened-played r u g old mid new a b c left rest l f same opened p = (
  record {
    bytes = p.bytes;
    takes = p.takes;
    few = p.few;
    turns = p.turns;
    lines_are = p.lines_are;
    asked = p.asked;
    serves = serves-append g old mid new a b c (how_read r) (Opening ∷ []) (later p.turns) same s p.serves;
    end_is = ends r p.bytes p.turns p.serves.got (subst (λ k. EndIs g.protocol (IsDueStill k new.seen) [] p.turns p.serves.got r left p.bytes) same.number p.end_is);
  },
  refl,
)
  where
    s : Serves g old mid a b Whole (Opening ∷ [])
    s = subst (λ q. Serves g old mid a b (how_of (Ok q)) (Opening ∷ [])) f opened

    kept : (bytes : List ℕ) (turns : List Turn) (got : List (Answer Event)) → WasKept g.protocol [] turns got bytes → WasKept g.protocol (Opening ∷ []) turns (s.got ++ got) bytes
    kept bytes turns got k = record { front = k.front; behind = k.behind; cut = k.cut; lines = k.lines; stays = kept-behind g.protocol (Opening ∷ []) (later k.front) s.got got s.out s.fits k.stays }

    size : (ts : List Phase) → length (flat_map (plays g.protocol) (Opening ∷ ts)) ≡ length s.got + length (flat_map (plays g.protocol) ts)
    size ts =
        let opening : length (plays g.protocol Opening) ≡ length s.got = sym (ap length (s.fits.events ∙ append-nil (plays g.protocol Opening))) ∙ length-events_of s.got in
        length-append (plays g.protocol Opening) (flat_map (plays g.protocol) ts) ∙ ap (λ n. n + length (flat_map (plays g.protocol) ts)) opening

    taken : (before : List Phase) (bytes : List ℕ) → (bytes ≡ []) ⊎ IsTakenFor before [] left bytes → (bytes ≡ []) ⊎ IsTakenFor (Opening ∷ before) (Opening ∷ []) left bytes
    taken before bytes n =
        ⊎_elim (λ (e : bytes ≡ []). inl e)
        (λ (t : IsTakenFor before [] left bytes). inr (record { early = t.early; piece = t.piece; cut = t.cut; one = t.one; most = t.most; front = t.front; lines = t.lines; inside = (t.inside.0, ap (λ ts. Opening ∷ ts) t.inside.1) })) n

    ends : (r : Result InputEnd Stop) (bytes : List ℕ) (turns : List Turn) (got : List (Answer Event)) → EndIs g.protocol (IsDueStill old.number new.seen) [] turns got r left bytes → EndIs g.protocol (IsDueStill old.number new.seen) (Opening ∷ []) turns (s.got ++ got) r left bytes
    ends (Ok Left) bytes turns got (inl e) = cc
    ends (Ok Left) bytes turns got (inr (inl e)) = inr (inl (record { before = e.before; piece = e.piece; cut = e.cut; one = e.one; most = e.most; kept = kept e.before turns got e.kept }))
    ends (Ok Left) bytes turns got (inr (inr e)) = inr (inr (e.0, kept bytes turns got e.1))
    ends (Ok Ended) bytes turns got e = e
    ends (Ok ReadFault) bytes turns got e = tt
    ends (Ok Full) bytes turns got e = e
    ends (Err (stop.Broken at)) bytes turns got e = tt
    ends (Err stop.NoMemory) bytes turns got e = tt
    ends (Err stop.HistoryFull) bytes turns got e =
        let w : WasStopped g.protocol (Opening ∷ []) turns (s.got ++ got) left bytes =
        record { before = Opening ∷ e.0.before; at = e.0.at; behind = e.0.behind; split = ap (λ ts. Opening ∷ ts) e.0.split; answered = omega (arith, size e.0.before, length-append s.got got, e.0.answered); needed = taken e.0.before bytes e.0.needed } in
        (w, omega (arith, size (e.0.before ++ e.0.at ∷ []), length-append s.got got, e.1), e.2)
    ends (Err stop.WriteFault) bytes turns got e =
        let w : WasStopped g.protocol (Opening ∷ []) turns (s.got ++ got) left bytes =
        record { before = Opening ∷ e.0.before; at = e.0.at; behind = e.0.behind; split = ap (λ ts. Opening ∷ ts) e.0.split; answered = omega (arith, size e.0.before, length-append s.got got, e.0.answered); needed = taken e.0.before bytes e.0.needed } in
        (w, omega (arith, size (e.0.before ++ e.0.at ∷ []), length-append s.got got, e.1))

-- the client has left behind what was added
gone : (g : Service) (x y z : Seated) (got : List (Answer Event)) → g.protocol.leaves ≡ Leave → x.seen ≡ [] → IsSameSeat x y → Adds (rules g.gives) x.number x.seen y.seen got → HasGone g.gives y z → HasLeft g.protocol (rules g.gives) x.number z.seen got
gone g x y z got leaves none same adds e =
    let here : List Entry = y.seen ++ e.between in
    let foreign : own (rules g.gives) x.number e.between ≡ [] = subst (λ n. own (rules g.gives) n e.between ≡ []) same.number e.foreign in
    let start : Adds (rules g.gives) x.number [] y.seen got = subst (λ h. Adds (rules g.gives) x.number h y.seen got) none adds in
    let more : Adds (rules g.gives) x.number [] here got = subst (λ q. Adds (rules g.gives) x.number [] here q) (append-nil got) (adds-append (rules g.gives) x.number [] y.seen here got [] start (adds-others (rules g.gives) x.number y.seen e.between foreign)) in
    let entry : Entry = entry_with y.number Leave e.answers in
    let mine : (entry.who == x.number) ≡ true = eq-eqb y.number x.number same.number in
    record {
      answered = ap (answers (rules g.gives) x.number) e.stands ∙ leave-answers (rules g.gives) x.number here entry mine refl ∙ adds-answers (rules g.gives) x.number here got more;
      stood = ap (own (rules g.gives) x.number) e.stands ∙ leave-own (rules g.gives) x.number here entry mine ∙ ap (λ es. es ++ Leave ∷ []) (adds-own_events (rules g.gives) x.number here got more) ∙ ap (λ (e : Event). events_of got ++ e ∷ []) (sym leaves);
    }

-- what was due to a client that then left
due-gone : (g : Service) (x y z : Seated) → IsSameSeat x y → HasGone g.gives y z → (phase : Phase) → IsDueStill x.number y.seen phase → WasDueStill g.gives x.number z.seen phase
due-gone g x y z same e Opening d = tt
due-gone g x y z same e (During (Line line)) d = tt
due-gone g x y z same e (During Idle) d =
    let entry : Entry = entry_with y.number Leave e.answers in
    let foreign : own (rules g.gives) x.number e.between ≡ [] = subst (λ n. own (rules g.gives) n e.between ≡ []) same.number e.foreign in
    record {
      before = y.seen;
      behind = e.between ++ entry ∷ [];
      cut = e.stands ∙ append_assoc y.seen e.between (entry ∷ []);
      leaves = leave-own (rules g.gives) x.number e.between entry (eq-eqb y.number x.number same.number) ∙ ap (λ es. es ++ Leave ∷ []) foreign;
      missed = d;
    }

-- the client may not have left
stayed : (g : Service) (x y z : Seated) (got : List (Answer Event)) → x.seen ≡ [] → IsSameSeat x y → Adds (rules g.gives) x.number x.seen y.seen got → Sees g.gives y z → HasStayed (rules g.gives) x.number z.seen got
stayed g x y z got none same adds s =
    let here : List Entry = y.seen ++ s.between in
    let foreign : own (rules g.gives) x.number s.between ≡ [] = subst (λ n. own (rules g.gives) n s.between ≡ []) same.number s.foreign in
    let start : Adds (rules g.gives) x.number [] y.seen got = subst (λ h. Adds (rules g.gives) x.number h y.seen got) none adds in
    let more : Adds (rules g.gives) x.number [] here got = subst (λ q. Adds (rules g.gives) x.number [] here q) (append-nil got) (adds-append (rules g.gives) x.number [] y.seen here got [] start (adds-others (rules g.gives) x.number y.seen s.between foreign)) in
    record { answered = ap (answers (rules g.gives) x.number) s.stands ∙ adds-answers (rules g.gives) x.number here got more; stood = ap (own (rules g.gives) x.number) s.stands ∙ adds-own_events (rules g.gives) x.number here got more }

-- nothing came behind
still : (g : Service) (x y : Seated) (got : List (Answer Event)) → x.seen ≡ [] → Adds (rules g.gives) x.number x.seen y.seen got → HasStayed (rules g.gives) x.number y.seen got
still g x y got none adds =
    let start : Adds (rules g.gives) x.number [] y.seen got = subst (λ h. Adds (rules g.gives) x.number h y.seen got) none adds in
    record { answered = adds-answers (rules g.gives) x.number y.seen got start; stood = adds-own_events (rules g.gives) x.number y.seen got start }

lost-left : (g : Service) (k : ℕ) (h : List Entry) (got : List (Answer Event)) → HasLeft g.protocol (rules g.gives) k h got → HasLost g.protocol (rules g.gives) k h got
lost-left g k h got f = record { answered = f.answered; stood = inr f.stood }

lost-stayed : (g : Service) (k : ℕ) (h : List Entry) (got : List (Answer Event)) → HasStayed (rules g.gives) k h got → HasLost g.protocol (rules g.gives) k h got
lost-stayed g k h got f = record { answered = f.answered; stood = inl f.stood }

-- the headline, from what stands
served : (u : Bool) (g : Service) (x y : Seated) (a b : Outlet) (left rest : Inlet) (r q : Result InputEnd Stop) (z : Seated) → (p : Plays u (Opening ∷ []) g x y a b left rest r) → LinesRead (connection_end q) (IsAll left p.bytes) p.bytes (lines_among p.turns)
    → Stands g.protocol (rules g.gives) (connection_end q) x.number z.seen p.turns p.serves.out → EndIs g.protocol (WasDueStill g.gives x.number z.seen) (Opening ∷ []) p.turns (answers (rules g.gives) x.number z.seen) q left p.bytes → (w : WasServed u g x.number z.seen a b left rest q) × (w.bytes ≡ p.bytes)
served u g x y a b left rest r q z p l s e = (
  record {
    bytes = p.bytes;
    takes = p.takes;
    few = p.few;
    turns = p.turns;
    asked = p.asked;
    out = p.serves.out;
    sends = p.serves.sends;
    served = record { lines = l; stands = s };
    end_is = e;
  },
  refl,
)

-- the connection ended, and the client left
ended-left : (u : Bool) (g : Service) (x y z : Seated) (a b : Outlet) (left rest : Inlet) (ending : InputEnd) → (p : Plays u (Opening ∷ []) g x y a b left rest (Ok ending)) → HasLeft g.protocol (rules g.gives) x.number z.seen p.serves.got → (w : WasServed u g x.number z.seen a b left rest (Ok ending)) × (w.bytes ≡ p.bytes)
ended-left u g x y z a b left rest ending p f =
    served u g x y a b left rest (Ok ending) (Ok ending) z p p.lines_are (stands ending p f)
    (subst (λ got. EndIs g.protocol (WasDueStill g.gives x.number z.seen) (Opening ∷ []) p.turns got (Ok ending) left p.bytes) (sym f.answered) (as-ended ending p.turns p.serves.got p.bytes p.end_is))
  where
    as-ended : (ending : InputEnd) (turns : List Turn) (got : List (Answer Event)) (bytes : List ℕ) → EndIs g.protocol (IsDueStill x.number y.seen) (Opening ∷ []) turns got (Ok ending) left bytes → EndIs g.protocol (WasDueStill g.gives x.number z.seen) (Opening ∷ []) turns got (Ok ending) left bytes
    as-ended Left turns got bytes e = e
    as-ended Ended turns got bytes e = e
    as-ended ReadFault turns got bytes e = tt
    as-ended Full turns got bytes e = e

    stands : (ending : InputEnd) (p : Plays u (Opening ∷ []) g x y a b left rest (Ok ending)) → HasLeft g.protocol (rules g.gives) x.number z.seen p.serves.got → Stands g.protocol (rules g.gives) (connection_end (Ok ending)) x.number z.seen p.turns p.serves.out
    stands Left p f = left-stands g.protocol (rules g.gives) x.number z.seen p.turns p.serves.got p.serves.out p.serves.fits f
    stands Ended p f = closed-stands g.protocol (rules g.gives) x.number z.seen p.turns p.serves.got p.serves.out p.serves.fits f
    stands ReadFault p f = closed-stands g.protocol (rules g.gives) x.number z.seen p.turns p.serves.got p.serves.out p.serves.fits f
    stands Full p f = closed-stands g.protocol (rules g.gives) x.number z.seen p.turns p.serves.got p.serves.out p.serves.fits f

-- of what was read nothing is said where something was lost
pub lost-end : (protocol : Protocol Event) (due : Phase → Type 0) (first : List Phase) (turns : List Turn) (got : List (Answer Event)) (why : Stop) (left : Inlet) (bytes : List ℕ) → connection_end (Err why) ≡ Lost → EndIs protocol due first turns got (Err why) left bytes
lost-end protocol due first turns got stop.HistoryFull left bytes e = cc
lost-end protocol due first turns got (stop.Broken at) left bytes e = tt
lost-end protocol due first turns got stop.NoMemory left bytes e = tt
lost-end protocol due first turns got stop.WriteFault left bytes e = cc

-- what was lost, was lost whatever had been played, unless a write failed
lost-served : (u : Bool) (g : Service) (x y z : Seated) (a b : Outlet) (left rest : Inlet) (r : Result InputEnd Stop) (why : Stop) → connection_end (Err why) ≡ Lost → is_unwritten r ≡ false → (p : Plays u (Opening ∷ []) g x y a b left rest r) → HasLost g.protocol (rules g.gives) x.number z.seen p.serves.got → (w : WasServed u g x.number z.seen a b left rest (Err why)) × (w.bytes ≡ p.bytes)
lost-served u g x y z a b left rest r why is_lost written p f =
    served u g x y a b left rest r (Err why) z p (subst (λ e. LinesRead e (IsAll left p.bytes) p.bytes (lines_among p.turns)) (sym is_lost) (any-lines r p))
    (subst (λ e. Stands g.protocol (rules g.gives) e x.number z.seen p.turns p.serves.out) (sym is_lost) (stands r written p f))
    (lost-end g.protocol (WasDueStill g.gives x.number z.seen) (Opening ∷ []) p.turns (answers (rules g.gives) x.number z.seen) why left p.bytes is_lost)
  where
    any-lines : (r : Result InputEnd Stop) (p : Plays u (Opening ∷ []) g x y a b left rest r) → AreLines (IsAll left p.bytes) p.bytes (lines_among p.turns)
    any-lines (Ok Left) p = p.lines_are
    any-lines (Ok Ended) p = inr p.lines_are
    any-lines (Ok ReadFault) p = inl p.lines_are
    any-lines (Ok Full) p = inl p.lines_are
    any-lines (Err stop.HistoryFull) p = p.lines_are
    any-lines (Err (stop.Broken at)) p = p.lines_are
    any-lines (Err stop.NoMemory) p = p.lines_are
    any-lines (Err stop.WriteFault) p = p.lines_are

    stands : (r : Result InputEnd Stop) → is_unwritten r ≡ false → (p : Plays u (Opening ∷ []) g x y a b left rest r) → HasLost g.protocol (rules g.gives) x.number z.seen p.serves.got → Stands g.protocol (rules g.gives) Lost x.number z.seen p.turns p.serves.out
    stands (Ok Left) w p f = over-lost g.protocol (rules g.gives) x.number z.seen p.turns p.serves.got p.serves.out p.serves.fits f
    stands (Ok Ended) w p f = whole-lost g.protocol (rules g.gives) x.number z.seen p.turns p.serves.got p.serves.out p.serves.fits f
    stands (Ok ReadFault) w p f = whole-lost g.protocol (rules g.gives) x.number z.seen p.turns p.serves.got p.serves.out p.serves.fits f
    stands (Ok Full) w p f = whole-lost g.protocol (rules g.gives) x.number z.seen p.turns p.serves.got p.serves.out p.serves.fits f
    stands (Err stop.HistoryFull) w p f = short-lost g.protocol (rules g.gives) x.number z.seen p.turns p.serves.got p.serves.out p.serves.fits f
    stands (Err (stop.Broken at)) w p f = lost-lost g.protocol (rules g.gives) x.number z.seen p.turns p.serves.got p.serves.out p.serves.fits f
    stands (Err stop.NoMemory) w p f = lost-lost g.protocol (rules g.gives) x.number z.seen p.turns p.serves.got p.serves.out p.serves.fits f
    stands (Err stop.WriteFault) w p f = cc

-- a leaving that failed is a loss
loss-is : (parting : List Entry → Bool) (why : Stop) (seat : Seated) → IsLoss parting why seat → connection_end (Err why) ≡ Lost
loss-is parting stop.HistoryFull seat l = absurd l
loss-is parting (stop.Broken at) seat l = refl
loss-is parting stop.NoMemory seat l = refl
loss-is parting stop.WriteFault seat l = absurd l

-- leaving failed behind whatever was played
pub leaving-lost : (parting : List Entry → Bool) (u : Bool) (g : Service) (x y z : Seated) (a b : Outlet) (left rest : Inlet) (r : Result InputEnd Stop) (why : Stop) → x.seen ≡ [] → IsSameSeat x y → is_unwritten r ≡ false → (p : Plays u (Opening ∷ []) g x y a b left rest r) → Sees g.gives y z × IsLoss parting why z → (w : WasServed u g x.number z.seen a b left rest (Err why)) × (w.bytes ≡ p.bytes)
leaving-lost parting u g x y z a b left rest r why none same written p s =
    lost-served u g x y z a b left rest r why (loss-is parting why z s.1) written p (lost-stayed g x.number z.seen p.serves.got (stayed g x y z p.serves.got none same p.serves.adds s.0))

-- the client left behind whatever was played
pub all-left : (r : Result InputEnd Stop) (u : Bool) (g : Service) (x y z : Seated) (a b : Outlet) (left rest : Inlet) → g.protocol.leaves ≡ Leave → x.seen ≡ [] → IsSameSeat x y → is_unwritten r ≡ false → (p : Plays u (Opening ∷ []) g x y a b left rest r) → HasGone g.gives y z → (w : WasServed u g x.number z.seen a b left rest r) × (w.bytes ≡ p.bytes)
all-left r u g x y z a b left rest leaves none same written p e = by r written p (gone g x y z p.serves.got leaves none same p.serves.adds e)
  where
    by : (r : Result InputEnd Stop) → is_unwritten r ≡ false → (p : Plays u (Opening ∷ []) g x y a b left rest r) → HasLeft g.protocol (rules g.gives) x.number z.seen p.serves.got → (w : WasServed u g x.number z.seen a b left rest r) × (w.bytes ≡ p.bytes)
    by (Ok ending) w p f = ended-left u g x y z a b left rest ending p f
    by (Err stop.HistoryFull) w p f =
        served u g x y a b left rest (Err stop.HistoryFull) (Err stop.HistoryFull) z p p.lines_are
        (refused-stands g.protocol (rules g.gives) x.number z.seen p.turns p.serves.got p.serves.out p.serves.fits f)
        (subst (λ got. EndIs g.protocol (WasDueStill g.gives x.number z.seen) (Opening ∷ []) p.turns got (Err stop.HistoryFull) left p.bytes) (sym f.answered)
        (ends-by g.protocol (IsDueStill x.number y.seen) (WasDueStill g.gives x.number z.seen) (Opening ∷ []) p.turns p.serves.got (Err stop.HistoryFull) left p.bytes (due-gone g x y z same e) p.end_is))
    by (Err (stop.Broken at)) w p f = lost-served u g x y z a b left rest (Err (stop.Broken at)) (stop.Broken at) refl w p (lost-left g x.number z.seen p.serves.got f)
    by (Err stop.NoMemory) w p f = lost-served u g x y z a b left rest (Err stop.NoMemory) stop.NoMemory refl w p (lost-left g x.number z.seen p.serves.got f)
    by (Err stop.WriteFault) w p f = cc

-- a write failed, and nothing more was played
pub unwritten-served : (r : Result InputEnd Stop) (u : Bool) (g : Service) (x y : Seated) (a b : Outlet) (left rest : Inlet) → is_unwritten r ≡ true → x.seen ≡ [] → IsSameSeat x y → (p : Plays u (Opening ∷ []) g x y a b left rest r) → (w : WasServed u g x.number y.seen a b left rest r) × (w.bytes ≡ p.bytes)
unwritten-served (Ok ending) u g x y a b left rest e none same p = cc
unwritten-served (Err stop.HistoryFull) u g x y a b left rest e none same p = cc
unwritten-served (Err (stop.Broken at)) u g x y a b left rest e none same p = cc
unwritten-served (Err stop.NoMemory) u g x y a b left rest e none same p = cc
unwritten-served (Err stop.WriteFault) u g x y a b left rest e none same p =
    served u g x y a b left rest (Err stop.WriteFault) (Err stop.WriteFault) y p p.lines_are
    (unsent-stands g.protocol (rules g.gives) x.number y.seen p.turns p.serves.got p.serves.out p.serves.fits (still g x y p.serves.got none p.serves.adds))
    (subst (λ got. EndIs g.protocol (WasDueStill g.gives x.number y.seen) (Opening ∷ []) p.turns got (Err stop.WriteFault) left p.bytes) (sym (still g x y p.serves.got none p.serves.adds).answered) p.end_is)
