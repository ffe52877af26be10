-- What a phase does to the history and to the bytes that were sent.
use Rattle.std.proofs.Common.{◌≡◌, ℕ, ◌<◌, Bool, true, false, List, [], ◌∷◌, ◌++◌, length, Ok, Err, refl, sym, ap, ◌∙◌, subst, append-nil}
use Rattle.std.specs.Io.KnownBytes.{Appends}
use Rattle.std.proofs.KnownBytes.{Appends-nil, Appends-trans}
use Rattle.kak_ports.specs.Ports.{Outlet, AppendsFront}
use Rattle.session_turns.specs.Histories.{Answer, events_of, bytes_of, is_leaving}
use Rattle.session_turns.proofs.HistoryLemmas.{adds-none, adds-append}
use Rattle.session_turns.proofs.TurnLemmas.{fits-append, over-more, short-more, unsent-more, lost-more, whole-none, phase_goes, phase_quits, phase_stops, phase_breaks, phase_fails}
use Rattle.session_turns.specs.Turns.{Phase, Protocol, plays, says, due, sent}
use Rattle.session_turns.specs.Growth.{Begins, How, Whole, Over, Short, Unsent, Lost, Fits}
use Rattle.session_events.specs.declared.event.Event.{Event}
use Rattle.session_events.specs.Meaning.{rules}
use Rattle.session_events.specs.Seats.{Seated, IsSameSeat}
use Rattle.session_lines.specs.declared.playing.Stop.{Stop}
use Rattle.session_lines.specs.declared.playing.Stop.TheVariants as stop
use Rattle.session_lines.specs.declared.playing.Reply.{Reply}
use Rattle.session_lines.specs.Sending.{FailsFor}
use Rattle.session_lines.specs.Serving.{telling_bytes, AreCut, IsAnswered, Service, Serves, how_of}
use Rattle.session_lines.specs.Stops.{StopsFor}
use Rattle.session_lines.proofs.TakingLemmas.{adds-as}

-- what a phase gives and says is what is to be told
sent-bytes : (g : Service) (old new : Seated) (es : List Event) (said : List ℕ) (reply : Reply) (t : IsAnswered g.gives old new es said reply) (says : List ℕ) → says ≡ said → bytes_of t.taken.got ++ says ≡ telling_bytes reply.telling
sent-bytes g old new es said reply t says s = ap (λ r. bytes_of t.taken.got ++ r) s ∙ ap (λ r. r ++ said) (sym t.taken.bytes) ∙ sym t.told

fits-turn : (protocol : Protocol Event) (phase : Phase) (got : List (Answer Event)) (l : Bool) → events_of got ≡ plays protocol phase → is_leaving got ≡ l → Fits protocol (how_of (Ok l)) (phase ∷ []) got (bytes_of got ++ says protocol phase)
fits-turn protocol phase got false e l = phase_goes protocol phase got e l
fits-turn protocol phase got true e l = phase_quits protocol phase got e l

-- a phase was played, and what is to be told was told
pub answered-told : (g : Service) (old new : Seated) (a b : Outlet) (phase : Phase) (es : List Event) (said : List ℕ) (reply : Reply) → IsAnswered g.gives old new es said reply → plays g.protocol phase ≡ es → says g.protocol phase ≡ said
    → Appends a.told b.told (telling_bytes reply.telling) → Serves g old new a b (how_of (Ok reply.leaving)) (phase ∷ [])
answered-told g old new a b phase es said reply t p s sends = record {
  got = t.taken.got;
  out = telling_bytes reply.telling;
  adds = t.taken.adds;
  sends = sends;
  fits = subst (λ o. Fits g.protocol (how_of (Ok reply.leaving)) (phase ∷ []) t.taken.got o) (sent-bytes g old new es said reply t (says g.protocol phase) s)
      (fits-turn g.protocol phase t.taken.got reply.leaving (t.taken.events_are ∙ sym p) t.taken.leaving_is);
}

-- a phase was played, and a front of what is to be told was told
answered-half : (g : Service) (old new : Seated) (a b : Outlet) (phase : Phase) (es : List Event) (said : List ℕ) (reply : Reply) → IsAnswered g.gives old new es said reply → plays g.protocol phase ≡ es → says g.protocol phase ≡ said
    → AppendsFront a.told b.told (telling_bytes reply.telling) → Serves g old new a b Unsent (phase ∷ [])
answered-half g old new a b phase es said reply t p s f = record {
  got = t.taken.got;
  out = f.0;
  adds = t.taken.adds;
  sends = f.3;
  fits = phase_fails g.protocol phase t.taken.got f.0 (t.taken.events_are ∙ sym p) (f.1, sent-bytes g old new es said reply t (says g.protocol phase) s ∙ f.2);
}

-- a phase was played, and nothing was told, since memory was wanting
answered-lost : (g : Service) (old new : Seated) (a b : Outlet) (phase : Phase) (es : List Event) (said : List ℕ) (reply : Reply) → IsAnswered g.gives old new es said reply → plays g.protocol phase ≡ es → b ≡ a → Serves g old new a b Lost (phase ∷ [])
answered-lost g old new a b phase es said reply t p same = record {
  got = t.taken.got;
  out = [];
  adds = t.taken.adds;
  sends = subst (λ o. Appends a.told o.told []) (sym same) (Appends-nil a.told);
  fits = phase_breaks g.protocol phase t.taken.got ([], p ∙ sym t.taken.events_are ∙ sym (append-nil (events_of t.taken.got)));
}

-- a phase was played, and telling failed
pub answered-untold : (g : Service) (old new : Seated) (a b : Outlet) (phase : Phase) (es : List Event) (said : List ℕ) (reply : Reply) (why : Stop) → IsAnswered g.gives old new es said reply → plays g.protocol phase ≡ es → says g.protocol phase ≡ said
    → FailsFor why a b (telling_bytes reply.telling) → Serves g old new a b (how_of (Err why)) (phase ∷ [])
answered-untold g old new a b phase es said reply stop.WriteFault t p s f = answered-half g old new a b phase es said reply t p s f.0
answered-untold g old new a b phase es said reply stop.NoMemory t p s f = answered-lost g old new a b phase es said reply t p f
answered-untold g old new a b phase es said reply stop.HistoryFull t p s f = absurd f
answered-untold g old new a b phase es said reply (stop.Broken at) t p s f = absurd f

-- of the events of a phase a beginning was taken, since something was lost
lost-cut : (g : Service) (old new : Seated) (a : Outlet) (phase : Phase) (es : List Event) (why : Stop) → AreCut g.gives old new es why → plays g.protocol phase ≡ es → Serves g old new a a Lost (phase ∷ [])
lost-cut g old new a phase es why t p = record {
  got = t.got;
  out = [];
  adds = t.adds;
  sends = Appends-nil a.told;
  fits = phase_breaks g.protocol phase t.got (subst (λ q. Begins q (events_of t.got)) (sym p) t.begins);
}

-- of the events of a phase a beginning was taken, and nothing was sent
pub serves-cut : (g : Service) (old new : Seated) (a : Outlet) (phase : Phase) (es : List Event) (why : Stop) → StopsFor why new → AreCut g.gives old new es why → plays g.protocol phase ≡ es → Serves g old new a a (how_of (Err why)) (phase ∷ [])
serves-cut g old new a phase es stop.HistoryFull s t p = record {
  got = t.got;
  out = [];
  adds = t.adds;
  sends = Appends-nil a.told;
  fits = phase_stops g.protocol phase t.got (subst (λ q. Begins q (events_of t.got)) (sym p) t.begins) (subst (λ q. length t.got < length q) (sym p) t.short);
}
serves-cut g old new a phase es (stop.Broken at) s t p = lost-cut g old new a phase es (stop.Broken at) t p
serves-cut g old new a phase es stop.NoMemory s t p = lost-cut g old new a phase es stop.NoMemory t p
serves-cut g old new a phase es stop.WriteFault s t p = absurd s

-- phases were played behind phases that were all played
abbrev pub serves-append : (g : Service) (x y z : Seated) (a b c : Outlet) (how : How) (ts us : List Phase) → IsSameSeat x y → Serves g x y a b Whole ts → Serves g y z b c how us → Serves g x z a c how (ts ++ us)
serves-append g x y z a b c how ts us same s u = record {
  got = s.got ++ u.got;
  out = s.out ++ u.out;
  adds = adds-append (rules g.gives) x.number x.seen y.seen z.seen s.got u.got s.adds (adds-as g.gives x y y.seen z.seen u.got same u.adds);
  sends = Appends-trans a.told b.told c.told s.out u.out s.sends u.sends;
  fits = fits-append g.protocol how ts us s.got u.got s.out u.out s.fits u.fits;
}

-- phases behind ones that were not all played
pub serves-over : (g : Service) (x y : Seated) (a b : Outlet) (ts more : List Phase) → Serves g x y a b Over ts → Serves g x y a b Over (ts ++ more)
serves-over g x y a b ts more s = record { got = s.got; out = s.out; adds = s.adds; sends = s.sends; fits = over-more g.protocol ts more s.got s.out s.fits }

abbrev serves-short : (g : Service) (x y : Seated) (a b : Outlet) (ts more : List Phase) → Serves g x y a b Short ts → Serves g x y a b Short (ts ++ more)
serves-short g x y a b ts more s = record { got = s.got; out = s.out; adds = s.adds; sends = s.sends; fits = short-more g.protocol ts more s.got s.out s.fits }

abbrev serves-lost-more : (g : Service) (x y : Seated) (a b : Outlet) (ts more : List Phase) → Serves g x y a b Lost ts → Serves g x y a b Lost (ts ++ more)
serves-lost-more g x y a b ts more s = record { got = s.got; out = s.out; adds = s.adds; sends = s.sends; fits = lost-more g.protocol ts more s.got s.out s.fits }

abbrev serves-unsent-more : (g : Service) (x y : Seated) (a b : Outlet) (ts more : List Phase) → Serves g x y a b Unsent ts → Serves g x y a b Unsent (ts ++ more)
serves-unsent-more g x y a b ts more s = record { got = s.got; out = s.out; adds = s.adds; sends = s.sends; fits = unsent-more g.protocol ts more s.got s.out s.fits }

abbrev pub serves-stopped : (g : Service) (x y : Seated) (a b : Outlet) (why : Stop) (ts more : List Phase) → Serves g x y a b (how_of (Err why)) ts → Serves g x y a b (how_of (Err why)) (ts ++ more)
serves-stopped g x y a b stop.HistoryFull ts more s = serves-short g x y a b ts more s
serves-stopped g x y a b (stop.Broken at) ts more s = serves-lost-more g x y a b ts more s
serves-stopped g x y a b stop.NoMemory ts more s = serves-lost-more g x y a b ts more s
serves-stopped g x y a b stop.WriteFault ts more s = serves-unsent-more g x y a b ts more s

-- with the same answers
pub stopped-got : (g : Service) (x y : Seated) (a b : Outlet) (why : Stop) (ts more : List Phase) (s : Serves g x y a b (how_of (Err why)) ts) → (serves-stopped g x y a b why ts more s).got ≡ s.got
stopped-got g x y a b stop.HistoryFull ts more s = refl
stopped-got g x y a b (stop.Broken at) ts more s = refl
stopped-got g x y a b stop.NoMemory ts more s = refl
stopped-got g x y a b stop.WriteFault ts more s = refl

-- no phase was played
pub serves-nothing : (g : Service) (h : Seated) (a : Outlet) → Serves g h h a a Whole []
serves-nothing g h a = record { got = []; out = []; adds = adds-none (rules g.gives) h.number h.seen; sends = Appends-nil a.told; fits = whole-none g.protocol }

-- of phases nothing was played, since something was lost
pub serves-lost : (g : Service) (h : Seated) (a : Outlet) (ts : List Phase) → Serves g h h a a Lost ts
serves-lost g h a ts = record {
  got = [];
  out = [];
  adds = adds-none (rules g.gives) h.number h.seen;
  sends = Appends-nil a.told;
  fits = record { events = λ more. (due g.protocol (ts ++ more) [], refl); bytes = λ more. (sent g.protocol (ts ++ more) [], refl) };
}
