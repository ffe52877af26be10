-- How the hearing of a link goes on, line by line, and drawing by drawing.
use Rattle.std.proofs.Common.{◌≡◌, ℕ, inl, Bool, true, false, List, [], ◌∷◌, ◌++◌, length, Ok, Err, refl, sym, ap, ◌∙◌, subst, arith, append-nil}
use Rattle.std.specs.List.{AllByRecursion}
use Rattle.std.specs.declared.option.Option.{Option}
use Rattle.std.specs.declared.result.Result.{Result}
use Rattle.std.specs.Io.KnownBytes.{Appends}
use Rattle.std.proofs.KnownBytes.{Appends-nil, Appends-trans}
use Rattle.kak_ports.specs.Ports.{Inlet, Outlet}
use Rattle.session_turns.specs.Lines.{with_newlines, HasNoNewline}
use Rattle.session_turns.specs.Histories.{Answer}
use Rattle.session_turns.specs.Turns.{Turn, Idle, Phase, Protocol, Opening, During, later, lines_among}
use Rattle.session_turns.specs.Growth.{How, Whole, Fits, IsWhole}
use Rattle.session_events.specs.declared.event.Event.{Event}
use Rattle.session_events.specs.declared.event.Entry.{Entry}
use Rattle.session_events.specs.Missing.{has_missed}
use Rattle.session_events.specs.Seats.{Seated, IsSameSeat}
use Rattle.client_links.specs.Wires.{Wire, IsSameHearing}
use Rattle.line_reading.specs.declared.limits.TheConstants.{MAX_PIECE}
use Rattle.line_reading.specs.declared.reader.NextLine.TheVariants as next
use Rattle.line_reading.specs.declared.reader.Came.{Came}
use Rattle.line_reading.specs.declared.reader.Came.TheVariants as came
use Rattle.line_reading.specs.Reading.{Reading}
use Rattle.line_reading.specs.Hearing.{inlet_of, HearsLine}
use Rattle.session_lines.specs.declared.playing.Stop.{Stop}
use Rattle.session_lines.specs.declared.playing.Stop.TheVariants as stop
use Rattle.session_lines.specs.declared.reading.InputEnd.{InputEnd}
use Rattle.session_lines.specs.declared.reading.InputEnd.TheVariants.{Left, Ended, ReadFault, Full}
use Rattle.session_lines.specs.Serving.{Service, Serves, how_of, line_phases}
use Rattle.session_lines.specs.Reading.{IsDueStill, EndIs}
use Rattle.session_lines.specs.Connections.{Plays}
use Rattle.session_lines.proofs.ServingLemmas.{serves-append}
use Rattle.session_lines.proofs.ReadingLemmas.{HasRead, LastPiece, with-phases, DueFor, stop-end, begin-reading, read-more, among-append, later-append, last-behind, lines-all, stopped-lines, line-went, line-left, line-stopped, last-went, last-left, last-stopped, input-ended, input-failed, input-full, line-lost}
use Rattle.session_lines.proofs.ConnectionLemmas.{opening-left, opening-stopped, opened-played}
use Rattle.link_lines.specs.Talking.{PlaysOver}
use Rattle.link_lines.proofs.TalkLemmas.{IsIdleAt, IsMissedAt, DrawsUnasked}

abbrev inlet-with : Option (List ℕ) → ℕ → Inlet
inlet-with left faults = record { left = left; most = MAX_PIECE; faults = faults }

-- what a link will say is the same where nothing was heard
pub same-inlet : (a b : Wire) → IsSameHearing a b → inlet_of b ≡ inlet_of a
same-inlet a b h = ap (λ q. inlet-with q b.read_faults) h.0.1 ∙ ap (λ q. inlet-with a.left q) h.1

-- what was heard so far, where the client stays
pub record HasHeard (g : Service) (old new : Seated) (before now : Wire) (taken : ℕ) (behind : List ℕ) : Type 0 where
  pub read : HasRead true g old new before.outlet now.outlet (inlet_of before) (inlet_of now) taken behind
  pub received : Appends before.received now.received read.bytes

-- nothing was heard yet
pub begin-hearing : (g : Service) (h : Seated) (a : Wire) (reading : Reading) → reading.taken ≡ 0 → reading.pending ≡ [] → HasHeard g h h a a reading.taken reading.pending
begin-hearing g h a reading t p =
    let s = begin-reading true g h a.outlet (inlet_of a) reading t p in
    record { read = s; received = subst (λ bs. Appends a.received a.received bs) (sym (no-bytes s.bytes (sym s.count ∙ t))) (Appends-nil a.received) }
  where
    no-bytes : (bytes : List ℕ) → length bytes ≡ 0 → bytes ≡ []
    no-bytes [] e = refl
    no-bytes (b ∷ bytes) e = absurd (omega (arith, e))

-- calls that leave the reader as it was
pub heard-still : (g : Service) (old new : Seated) (before now : Wire) (a b : Reading) → b ≡ a → HasHeard g old new before now a.taken a.pending → HasHeard g old new before now b.taken b.pending
heard-still g old new before now a b e s = subst (λ q. HasHeard g old new before now q.taken q.pending) (sym e) s

-- what was received by two calls, and nothing behind them
both-received : (before rest more last : Wire) (x y z : List ℕ) → IsSameHearing more last → Appends before.received rest.received x → Appends rest.received more.received y → z ≡ x ++ y → Appends before.received last.received z
both-received before rest more last x y z h r s e =
    subst (λ bs. Appends before.received last.received bs) (sym e)
    (subst (λ w. Appends before.received w (x ++ y)) (sym h.0.0) (Appends-trans before.received rest.received more.received x y r s))

heard-at : (g : Service) (old new : Seated) (before rest more last : Wire) (taken : ℕ) (behind x y : List ℕ) → IsSameHearing more last → Appends before.received rest.received x → Appends rest.received more.received y
    → (p : HasRead true g old new before.outlet last.outlet (inlet_of before) (inlet_of last) taken behind) × (p.bytes ≡ x ++ y) → HasHeard g old new before last taken behind
heard-at g old new before rest more last taken behind x y h r s p = record { read = p.0; received = both-received before rest more last x y p.0.bytes h r s p.1 }

-- what was read by a call is what was heard, also behind calls that hear nothing
heard-by : (g : Service) (old new : Seated) (before rest more last : Wire) (taken : ℕ) (behind x y : List ℕ) → IsSameHearing more last → Appends before.received rest.received x → Appends rest.received more.received y
    → (p : HasRead true g old new before.outlet last.outlet (inlet_of before) (inlet_of more) taken behind) × (p.bytes ≡ x ++ y) → HasHeard g old new before last taken behind
heard-by g old new before rest more last taken behind x y h r s p =
    heard-at g old new before rest more last taken behind x y h r s
    (subst (λ i. (p : HasRead true g old new before.outlet last.outlet (inlet_of before) i taken behind) × (p.bytes ≡ x ++ y)) (sym (same-inlet more last h)) p)

over-at : (first : List Phase) (g : Service) (old new : Seated) (before rest more last : Wire) (r : Result InputEnd Stop) (x y : List ℕ) → IsSameHearing more last → Appends before.received rest.received x → Appends rest.received more.received y
    → (p : Plays true first g old new before.outlet last.outlet (inlet_of before) (inlet_of last) r) × (p.bytes ≡ x ++ y) → PlaysOver first g old new before last r
over-at first g old new before rest more last r x y h s t p = record { plays = p.0; received = both-received before rest more last x y p.0.bytes h s t p.1 }

-- and so is what was played
pub over-by : (first : List Phase) (g : Service) (old new : Seated) (before rest more last : Wire) (out : Outlet) (r : Result InputEnd Stop) (x y : List ℕ) → last.outlet ≡ out → IsSameHearing more last → Appends before.received rest.received x → Appends rest.received more.received y
    → (p : Plays true first g old new before.outlet out (inlet_of before) (inlet_of more) r) × (p.bytes ≡ x ++ y) → PlaysOver first g old new before last r
over-by first g old new before rest more last out r x y e h s t p =
    over-at first g old new before rest more last r x y h s t
    (subst (λ i. (p : Plays true first g old new before.outlet last.outlet (inlet_of before) i r) × (p.bytes ≡ x ++ y)) (sym (same-inlet more last h))
    (subst (λ o. (p : Plays true first g old new before.outlet o (inlet_of before) (inlet_of more) r) × (p.bytes ≡ x ++ y)) (sym e) p))

-- an opening that stopped: nothing was heard
pub opening-over-stopped : (g : Service) (old new : Seated) (before last : Wire) (why : Stop) → IsSameHearing before last → Serves g old new before.outlet last.outlet (how_of (Err why)) (Opening ∷ []) → PlaysOver (Opening ∷ []) g old new before last (Err why)
opening-over-stopped g old new before last why h s =
    over-by (Opening ∷ []) g old new before before before last last.outlet (Err why) [] [] refl h (Appends-nil before.received) (Appends-nil before.received) (opening-stopped true g old new before.outlet last.outlet (inlet_of before) why s)

-- an opening in which the client was let go: nothing was heard
pub opening-over-left : (g : Service) (old new : Seated) (before last : Wire) (l : Bool) → l ≡ true → IsSameHearing before last → Serves g old new before.outlet last.outlet (how_of (Ok l)) (Opening ∷ []) → PlaysOver (Opening ∷ []) g old new before last (Ok Left)
opening-over-left g old new before last l f h s =
    over-by (Opening ∷ []) g old new before before before last last.outlet (Ok Left) [] [] refl h (Appends-nil before.received) (Appends-nil before.received) (opening-left true g old new before.outlet last.outlet (inlet_of before) l f s)

over-opened : (r : Result InputEnd Stop) (g : Service) (old new : Seated) (before last : Wire) (bytes : List ℕ) → Appends before.received last.received bytes → (p : Plays true (Opening ∷ []) g old new before.outlet last.outlet (inlet_of before) (inlet_of last) r) × (p.bytes ≡ bytes) → PlaysOver (Opening ∷ []) g old new before last r
over-opened r g old new before last bytes received p = record { plays = p.0; received = subst (λ bs. Appends before.received last.received bs) (sym p.1) received }

opened-at : (r : Result InputEnd Stop) (g : Service) (old mid new : Seated) (before opened last : Wire) (l : Bool) (bytes : List ℕ) → l ≡ false → IsSameSeat old mid → Appends before.received last.received bytes → Serves g old mid before.outlet opened.outlet (how_of (Ok l)) (Opening ∷ [])
    → (q : Plays true [] g mid new opened.outlet last.outlet (inlet_of before) (inlet_of last) r) × (q.bytes ≡ bytes) → PlaysOver (Opening ∷ []) g old new before last r
opened-at r g old mid new before opened last l bytes f same received s q =
    let p = opened-played r true g old mid new before.outlet opened.outlet last.outlet (inlet_of before) (inlet_of last) l f same s q.0 in
    over-opened r g old new before last bytes received (p.0, p.1 ∙ q.1)

-- a link that is played behind the opening
pub opened-over : (r : Result InputEnd Stop) (g : Service) (old mid new : Seated) (before opened last : Wire) (l : Bool) → l ≡ false → IsSameSeat old mid → IsSameHearing before opened → Serves g old mid before.outlet opened.outlet (how_of (Ok l)) (Opening ∷ []) → PlaysOver [] g mid new opened last r → PlaysOver (Opening ∷ []) g old new before last r
opened-over r g old mid new before opened last l f same h s p =
    opened-at r g old mid new before opened last l p.plays.bytes f same (subst (λ w. Appends w last.received p.plays.bytes) h.0.0 p.received) s
    (subst (λ i. (q : Plays true [] g mid new opened.outlet last.outlet i (inlet_of last) r) × (q.bytes ≡ p.plays.bytes)) (same-inlet before opened h) (p.plays, refl))

-- what a call told that hears
pub heard : {E : Type 0} (n m : Came) (was now : Reading) (before more : Wire) → n ≡ m → HearsLine {E = E} (Ok n) was now before more → HearsLine {E = E} (Ok m) was now before more
heard {E = E} n m was now before more e x = subst (λ q. HearsLine {E = E} (Ok q) was now before more) e x

-- the serving behind the hearing, as behind what was sent before it
serves-from : (g : Service) (x y : Seated) (a b c : Outlet) (how : How) (ts : List Phase) → b ≡ a → Serves g x y b c how ts → Serves g x y a c how ts
serves-from g x y a b c how ts e s = subst (λ o. Serves g x y o c how ts) e s

-- a line was played, and the client stays
pub line-heard : {E : Type 0} (g : Service) (old mid new : Seated) (before rest more last : Wire) (was now : Reading) (l : Bool) → l ≡ false → IsSameSeat old mid → more.outlet ≡ rest.outlet → IsSameHearing more last → HearsLine {E = E} (Ok came.Line) was now rest more
    → HasHeard g old mid before rest was.taken was.pending → Serves g mid new more.outlet last.outlet (how_of (Ok l)) (line_phases (now.line ∷ [])) → HasHeard g old new before last now.taken now.pending
line-heard g old mid new before rest more last was now l f same sent h x s t =
    heard-by g old new before rest more last now.taken now.pending s.read.bytes x.reads.bytes h s.received x.received
    (line-went true g old mid new before.outlet rest.outlet last.outlet (inlet_of before) (inlet_of rest) (inlet_of more) was now now.line l f same refl refl x.reads s.read
    (serves-from g mid new rest.outlet more.outlet last.outlet (how_of (Ok l)) (line_phases (now.line ∷ [])) sent t))

-- the client may leave by it
pub line-heard-left : {E : Type 0} (g : Service) (old mid new : Seated) (before rest more last : Wire) (was now : Reading) (l : Bool) → l ≡ true → IsSameSeat old mid → more.outlet ≡ rest.outlet → IsSameHearing more last → HearsLine {E = E} (Ok came.Line) was now rest more
    → HasHeard g old mid before rest was.taken was.pending → Serves g mid new more.outlet last.outlet (how_of (Ok l)) (line_phases (now.line ∷ [])) → PlaysOver [] g old new before last (Ok Left)
line-heard-left g old mid new before rest more last was now l f same sent h x s t =
    over-by [] g old new before rest more last last.outlet (Ok Left) s.read.bytes x.reads.bytes refl h s.received x.received
    (line-left true g old mid new before.outlet rest.outlet last.outlet (inlet_of before) (inlet_of rest) (inlet_of more) was now now.line l f same refl refl x.reads s.read
    (serves-from g mid new rest.outlet more.outlet last.outlet (how_of (Ok l)) (line_phases (now.line ∷ [])) sent t))

-- playing stopped in it
pub line-heard-stopped : {E : Type 0} (g : Service) (old mid new : Seated) (before rest more last : Wire) (was now : Reading) (why : Stop) → IsSameSeat old mid → more.outlet ≡ rest.outlet → IsSameHearing more last → HearsLine {E = E} (Ok came.Line) was now rest more
    → HasHeard g old mid before rest was.taken was.pending → Serves g mid new more.outlet last.outlet (how_of (Err why)) (line_phases (now.line ∷ [])) → PlaysOver [] g old new before last (Err why)
line-heard-stopped g old mid new before rest more last was now why same sent h x s t =
    over-by [] g old new before rest more last last.outlet (Err why) s.read.bytes x.reads.bytes refl h s.received x.received
    (line-stopped true g old mid new before.outlet rest.outlet last.outlet (inlet_of before) (inlet_of rest) (inlet_of more) was now now.line why same refl refl x.reads s.read
    (serves-from g mid new rest.outlet more.outlet last.outlet (how_of (Err why)) (line_phases (now.line ∷ [])) sent t))

-- the same of a last line, behind which the link ended
pub last-heard : {E : Type 0} (g : Service) (old mid new : Seated) (before rest more last : Wire) (was now : Reading) (l : Bool) → l ≡ false → IsSameSeat old mid → more.outlet ≡ rest.outlet → IsSameHearing more last → HearsLine {E = E} (Ok came.Last) was now rest more
    → HasHeard g old mid before rest was.taken was.pending → Serves g mid new more.outlet last.outlet (how_of (Ok l)) (line_phases (now.line ∷ [])) → PlaysOver [] g old new before last (Ok Ended)
last-heard g old mid new before rest more last was now l f same sent h x s t =
    over-by [] g old new before rest more last last.outlet (Ok Ended) s.read.bytes x.reads.bytes refl h s.received x.received
    (last-went true g old mid new before.outlet rest.outlet last.outlet (inlet_of before) (inlet_of rest) (inlet_of more) was now now.line l f same refl refl x.reads s.read
    (serves-from g mid new rest.outlet more.outlet last.outlet (how_of (Ok l)) (line_phases (now.line ∷ [])) sent t))

pub last-heard-left : {E : Type 0} (g : Service) (old mid new : Seated) (before rest more last : Wire) (was now : Reading) (l : Bool) → l ≡ true → IsSameSeat old mid → more.outlet ≡ rest.outlet → IsSameHearing more last → HearsLine {E = E} (Ok came.Last) was now rest more
    → HasHeard g old mid before rest was.taken was.pending → Serves g mid new more.outlet last.outlet (how_of (Ok l)) (line_phases (now.line ∷ [])) → PlaysOver [] g old new before last (Ok Left)
last-heard-left g old mid new before rest more last was now l f same sent h x s t =
    over-by [] g old new before rest more last last.outlet (Ok Left) s.read.bytes x.reads.bytes refl h s.received x.received
    (last-left true g old mid new before.outlet rest.outlet last.outlet (inlet_of before) (inlet_of rest) (inlet_of more) was now now.line l f same refl refl x.reads s.read
    (serves-from g mid new rest.outlet more.outlet last.outlet (how_of (Ok l)) (line_phases (now.line ∷ [])) sent t))

pub last-heard-stopped : {E : Type 0} (g : Service) (old mid new : Seated) (before rest more last : Wire) (was now : Reading) (why : Stop) → IsSameSeat old mid → more.outlet ≡ rest.outlet → IsSameHearing more last → HearsLine {E = E} (Ok came.Last) was now rest more
    → HasHeard g old mid before rest was.taken was.pending → Serves g mid new more.outlet last.outlet (how_of (Err why)) (line_phases (now.line ∷ [])) → PlaysOver [] g old new before last (Err why)
last-heard-stopped g old mid new before rest more last was now why same sent h x s t =
    over-by [] g old new before rest more last last.outlet (Err why) s.read.bytes x.reads.bytes refl h s.received x.received
    (last-stopped true g old mid new before.outlet rest.outlet last.outlet (inlet_of before) (inlet_of rest) (inlet_of more) was now now.line why same refl refl x.reads s.read
    (serves-from g mid new rest.outlet more.outlet last.outlet (how_of (Err why)) (line_phases (now.line ∷ [])) sent t))

still : (a : Wire) → IsSameHearing a a
still a = ((refl, refl), refl)

-- the link ended behind a newline, or before all bytes
pub link-ended : {E : Type 0} (g : Service) (old new : Seated) (before rest more : Wire) (was now : Reading) → more.outlet ≡ rest.outlet → HearsLine {E = E} (Ok came.Ended) was now rest more → HasHeard g old new before rest was.taken was.pending → PlaysOver [] g old new before more (Ok Ended)
link-ended g old new before rest more was now sent x s =
    over-by [] g old new before rest more more rest.outlet (Ok Ended) s.read.bytes x.reads.bytes sent (still more) s.received x.received
    (input-ended true g old new before.outlet rest.outlet (inlet_of before) (inlet_of rest) (inlet_of more) was now refl x.reads s.read)

-- receiving failed
pub link-failed : {E : Type 0} (g : Service) (old new : Seated) (before rest more : Wire) (was now : Reading) → more.outlet ≡ rest.outlet → HearsLine {E = E} (Ok came.ReadFault) was now rest more → HasHeard g old new before rest was.taken was.pending → PlaysOver [] g old new before more (Ok ReadFault)
link-failed g old new before rest more was now sent x s =
    over-by [] g old new before rest more more rest.outlet (Ok ReadFault) s.read.bytes x.reads.bytes sent (still more) s.received x.received
    (input-failed true g old new before.outlet rest.outlet (inlet_of before) (inlet_of rest) (inlet_of more) was now refl x.reads s.read)

-- all that may be taken was received
pub link-full : {E : Type 0} (g : Service) (old new : Seated) (before rest more : Wire) (was now : Reading) → more.outlet ≡ rest.outlet → HearsLine {E = E} (Ok came.Full) was now rest more → HasHeard g old new before rest was.taken was.pending → PlaysOver [] g old new before more (Ok Full)
link-full g old new before rest more was now sent x s =
    over-by [] g old new before rest more more rest.outlet (Ok Full) s.read.bytes x.reads.bytes sent (still more) s.received x.received
    (input-full true g old new before.outlet rest.outlet (inlet_of before) (inlet_of rest) (inlet_of more) was now refl x.reads s.read)

-- memory was wanting for a line
pub link-lost : {E : Type 0} (e : E) (g : Service) (old new : Seated) (before rest more : Wire) (was now : Reading) → IsSameSeat old new → more.outlet ≡ rest.outlet → HearsLine (Err e) was now rest more → HasHeard g old new before rest was.taken was.pending → PlaysOver [] g old new before more (Err stop.NoMemory)
link-lost e g old new before rest more was now same sent x s =
    over-by [] g old new before rest more more rest.outlet (Err stop.NoMemory) s.read.bytes x.reads.bytes sent (still more) s.received x.received
    (line-lost e true g old new before.outlet rest.outlet (inlet_of before) (inlet_of rest) (inlet_of more) was now same refl x.reads s.read)

-- the lines of turns behind which nobody asked for anything
lines-still : (ts us : List Turn) → lines_among us ≡ [] → lines_among (ts ++ us) ≡ lines_among ts
lines-still ts us none = among-append ts us ∙ ap (λ r. lines_among ts ++ r) none ∙ append-nil (lines_among ts)

-- drawings that nobody asked for, behind what was read
unasked-read : (g : Service) (old mid new : Seated) (a b c : Outlet) (left rest : Inlet) (taken : ℕ) (behind kept : List ℕ) (turns : List Turn) → lines_among turns ≡ [] → kept ≡ behind → IsSameSeat old mid → (s : HasRead true g old mid a b left rest taken behind) → Serves g mid new b c Whole (later turns)
    → (p : HasRead true g old new a c left rest taken kept) × (p.bytes ≡ s.bytes)
unasked-read g old mid new a b c left rest taken behind kept turns none k same s t =
    let lines : lines_among (s.turns ++ turns) ≡ lines_among s.turns = lines-still s.turns turns none in (
      record {
        bytes = s.bytes;
        turns = s.turns ++ turns;
        takes = s.takes;
        count = s.count;
        few = s.few;
        most = s.most;
        all = s.all ∙ ap (λ q. with_newlines (lines_among s.turns) ++ q) (sym k) ∙ ap (λ q. with_newlines q ++ kept) (sym lines);
        none = subst (λ q. AllByRecursion HasNoNewline q) (sym lines) s.none;
        asked = λ e. cc;
        serves = subst (λ ts. Serves g old new a c Whole ts) (sym (later-append s.turns turns)) (serves-append g old mid new a b c Whole (later s.turns) (later turns) same s.serves t);
        last = last-behind left s.bytes s.turns turns s.last;
      },
      refl,
    )

-- no more has come yet, and the client was drawn what it has missed
pub idle-heard : {E A : Type 0} (done : A) (g : Service) (old mid new : Seated) (before rest more last : Wire) (was now : Reading) → IsSameSeat old mid → more.outlet ≡ rest.outlet → IsSameHearing more last → HearsLine {E = E} (Ok came.Idle) was now rest more
    → HasHeard g old mid before rest was.taken was.pending → DrawsUnasked g mid new more.outlet last.outlet (Ok done) → HasHeard g old new before last now.taken now.pending
idle-heard {E = E} done g old mid new before rest more last was now same sent h x s d =
    heard-by g old new before rest more last now.taken now.pending s.read.bytes x.reads.bytes h s.received x.received
    (unasked-read g old mid new before.outlet rest.outlet last.outlet (inlet_of before) (inlet_of more) now.taken (was.pending ++ x.reads.bytes) now.pending d.turns d.none x.reads.gives.kept same
    (read-more {E = E} true g old mid before.outlet rest.outlet (inlet_of before) (inlet_of rest) (inlet_of more) (Ok next.ReadFault) was now x.reads refl s.read)
    (serves-from g mid new rest.outlet more.outlet last.outlet Whole (later d.turns) sent d.serves))

-- what was read where a drawing was refused, or sending it failed
idle-end : (A : Type 0) (protocol : Protocol Event) (due : Phase → Type 0) (why : Stop) (left : Inlet) (bytes : List ℕ) (all turns : List Turn) (a b : List (Answer Event)) (x y : List ℕ) → IsIdleAt {A = A} (Err why) turns → DueFor why (due (During Idle)) → IsWhole protocol (later all) a x → Fits protocol (how_of (Err why)) (later turns) b y → LastPiece left bytes all
    → EndIs protocol due [] (all ++ turns) (a ++ b) (Err why) left bytes
idle-end A protocol due (stop.Broken at) left bytes all turns a b x y one d w f l = tt
idle-end A protocol due stop.NoMemory left bytes all turns a b x y one d w f l = tt
idle-end A protocol due stop.HistoryFull left bytes all turns a b x y one d w f l =
    subst (λ ts. EndIs protocol due [] (all ++ ts) (a ++ b) (Err stop.HistoryFull) left bytes) (sym one)
    (stop-end protocol due stop.HistoryFull left bytes all Idle [] a b x y d w (subst (λ ts. Fits protocol (how_of (Err stop.HistoryFull)) (later ts) b y) one f) l)
idle-end A protocol due stop.WriteFault left bytes all turns a b x y one d w f l =
    subst (λ ts. EndIs protocol due [] (all ++ ts) (a ++ b) (Err stop.WriteFault) left bytes) (sym one)
    (stop-end protocol due stop.WriteFault left bytes all Idle [] a b x y d w (subst (λ ts. Fits protocol (how_of (Err stop.WriteFault)) (later ts) b y) one f) l)

due-missed : (A : Type 0) (why : Stop) (who : ℕ) (seen : List Entry) → IsMissedAt {A = A} (Err why) who seen → DueFor why (has_missed who seen ≡ true)
due-missed A stop.HistoryFull who seen m = m
due-missed A (stop.Broken at) who seen m = tt
due-missed A stop.NoMemory who seen m = tt
due-missed A stop.WriteFault who seen m = tt

-- drawings that stopped, behind what was read, of which no line is whole that wasn't played
unasked-stopped : (A : Type 0) (g : Service) (old mid new : Seated) (a b c : Outlet) (left rest : Inlet) (taken : ℕ) (behind : List ℕ) (turns : List Turn) (why : Stop) → lines_among turns ≡ [] → IsIdleAt {A = A} (Err why) turns → IsMissedAt {A = A} (Err why) mid.number new.seen → HasNoNewline behind → IsSameSeat old mid → (s : HasRead true g old mid a b left rest taken behind) → Serves g mid new b c (how_of (Err why)) (later turns)
    → (p : Plays true [] g old new a c left rest (Err why)) × (p.bytes ≡ s.bytes)
unasked-stopped A g old mid new a b c left rest taken behind turns why none one missed h same s t = (
  record {
    bytes = s.bytes;
    takes = s.takes;
    few = omega (arith, s.few, s.count);
    turns = s.turns ++ turns;
    lines_are = stopped-lines why _ s.bytes (lines_among (s.turns ++ turns)) (inl (lines-still s.turns turns none ∙ sym (lines-all s.bytes behind (lines_among s.turns) s.all s.none h)));
    asked = λ e. cc;
    serves = found.0;
    end_is = subst (λ got. EndIs g.protocol (IsDueStill old.number new.seen) [] (s.turns ++ turns) got (Err why) left s.bytes) (sym found.1)
        (idle-end A g.protocol (IsDueStill old.number new.seen) why left s.bytes s.turns turns s.serves.got t.got s.serves.out t.out one
        (subst (λ k. DueFor why (has_missed k new.seen ≡ true)) same.number (due-missed A why mid.number new.seen missed)) s.serves.fits t.fits s.last);
  },
  refl,
)
  where
    found : (p : Serves g old new a c (how_of (Err why)) (later (s.turns ++ turns))) × (p.got ≡ s.serves.got ++ t.got)
    found = with-phases g old new a c (how_of (Err why)) _ _ (sym (later-append s.turns turns)) (serves-append g old mid new a b c (how_of (Err why)) (later s.turns) (later turns) same s.serves t)

-- and drawing it stopped
pub idle-stopped : {E A : Type 0} (g : Service) (old mid new : Seated) (before rest more last : Wire) (was now : Reading) (why : Stop) → IsSameSeat old mid → more.outlet ≡ rest.outlet → IsSameHearing more last → HearsLine {E = E} (Ok came.Idle) was now rest more
    → HasHeard g old mid before rest was.taken was.pending → DrawsUnasked {A = A} g mid new more.outlet last.outlet (Err why) → PlaysOver [] g old new before last (Err why)
idle-stopped {E = E} {A = A} g old mid new before rest more last was now why same sent h x s d =
    over-by [] g old new before rest more last last.outlet (Err why) s.read.bytes x.reads.bytes refl h s.received x.received
    (unasked-stopped A g old mid new before.outlet rest.outlet last.outlet (inlet_of before) (inlet_of more) now.taken (was.pending ++ x.reads.bytes) d.turns why d.none d.one d.missed x.reads.gives.none same
    (read-more {E = E} true g old mid before.outlet rest.outlet (inlet_of before) (inlet_of rest) (inlet_of more) (Ok next.ReadFault) was now x.reads refl s.read)
    (serves-from g mid new rest.outlet more.outlet last.outlet (how_of (Err why)) (later d.turns) sent d.serves))
