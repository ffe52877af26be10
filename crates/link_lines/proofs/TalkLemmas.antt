-- What a look and a drawing do to the history and to the bytes that were sent.
use Rattle.std.proofs.Common.{◌≡◌, ℕ, true, false, List, [], ◌∷◌, inl, inr, Ok, Err, refl, sym, ap, subst}
use Rattle.std.specs.Prelude.{⊤}
use Rattle.std.specs.declared.result.Result.{Result}
use Rattle.std.specs.Io.KnownBytes.{Appends}
use Rattle.std.proofs.KnownBytes.{Appends-nil}
use Rattle.kak_ports.specs.Ports.{Outlet}
use Rattle.session_turns.specs.Turns.{Turn, Idle, During, later, lines_among, due, sent}
use Rattle.session_turns.specs.Growth.{How, Whole, Lost}
use Rattle.session_turns.proofs.TurnLemmas.{whole-none}
use Rattle.session_events.specs.declared.event.Event.TheVariants.{Refresh}
use Rattle.session_events.specs.declared.event.Entry.{Entry}
use Rattle.session_events.specs.Seats.{Seated, IsSameSeat, Sees}
use Rattle.session_events.specs.Missing.{has_missed}
use Rattle.session_lines.specs.declared.playing.Stop.{Stop}
use Rattle.session_lines.specs.declared.playing.Stop.TheVariants as stop
use Rattle.session_lines.specs.declared.playing.Reply.{Reply}
use Rattle.session_lines.specs.Sending.{Tells}
use Rattle.session_lines.specs.Serving.{Service, Serves, AreCut, IsAnswered, telling_bytes, how_of, line_phases}
use Rattle.session_lines.specs.Stops.{StopsFor}
use Rattle.session_lines.proofs.TakingLemmas.{sees-add}
use Rattle.session_lines.proofs.ServingLemmas.{serves-append, serves-cut, answered-told, answered-untold}
use Rattle.link_lines.specs.Talking.{IsDrawnUnasked, DrawsMissed}
use Rattle.link_lines.proofs.DrawingLemmas.{still-missed}

-- a line is served by the name under which it was read
pub as-line : (g : Service) (x y : Seated) (a b : Outlet) (how : How) (said line : List ℕ) → said ≡ line → Serves g x y a b how (line_phases (said ∷ [])) → Serves g x y a b how (line_phases (line ∷ []))
as-line g x y a b how said line e s = subst (λ q. Serves g x y a b how (line_phases (q ∷ []))) e s

-- a drawing stopped, or its sending did
as-stopped : (A : Type 0) (g : Service) (old new : Seated) (a b : Outlet) (why : Stop) → IsDrawnUnasked g old new a b (how_of (Err why)) → DrawsMissed {A = A} g old new a b (Err why)
as-stopped A g old new a b stop.HistoryFull d = d
as-stopped A g old new a b (stop.Broken at) d = inr d
as-stopped A g old new a b stop.NoMemory d = d
as-stopped A g old new a b stop.WriteFault d = d

-- the drawing was refused
pub drawing-cut : (A : Type 0) (g : Service) (old looked new : Seated) (a : Outlet) (why : Stop) → g.protocol.idles ≡ Refresh false → IsSameSeat old looked → Sees g.gives old looked → has_missed looked.number looked.seen ≡ true → StopsFor why new → AreCut g.gives looked new (Refresh false ∷ []) why
    → DrawsMissed {A = A} g old new a a (Err why)
drawing-cut A g old looked new a why idle same sees missed stops cut =
    as-stopped A g old new a a why (record { looked = looked; same = same; sees = sees; missed = missed; serves = serves-cut g looked new a (During Idle) (Refresh false ∷ []) why stops cut (ap (λ e. e ∷ []) idle) })

-- the client was drawn, and that was told or not
pub drawing-told : {A : Type 0} (r : Result A Stop) (g : Service) (old looked new : Seated) (a b : Outlet) (reply : Reply) → g.protocol.idles ≡ Refresh false → IsSameSeat old looked → Sees g.gives old looked → has_missed looked.number looked.seen ≡ true
    → IsAnswered g.gives looked new (Refresh false ∷ []) [] reply → reply.leaving ≡ false → Tells r a b (telling_bytes reply.telling) → DrawsMissed g old new a b r
drawing-told (Ok done) g old looked new a b reply idle same sees missed t stays told = inr (record {
  looked = looked;
  same = same;
  sees = sees;
  missed = missed;
  serves = subst (λ l. Serves g looked new a b (how_of (Ok l)) (During Idle ∷ [])) stays (answered-told g looked new a b (During Idle) (Refresh false ∷ []) [] reply t (ap (λ e. e ∷ []) idle) refl told.0);
})
drawing-told {A = A} (Err why) g old looked new a b reply idle same sees missed t stays told =
    as-stopped A g old new a b why (record { looked = looked; same = same; sees = sees; missed = missed; serves = answered-untold g looked new a b (During Idle) (Refresh false ∷ []) [] reply why t (ap (λ e. e ∷ []) idle) refl told })

-- how drawings got on that nobody asked for
abbrev pub how_drawn : {A : Type 0} → Result A Stop → How
how_drawn (Ok _) = Whole
how_drawn (Err why) = how_of (Err why)

-- where a drawing was refused, or sending it failed, it is the one turn
abbrev pub IsIdleAt : {A : Type 0} → Result A Stop → List Turn → Type 0
IsIdleAt (Err stop.HistoryFull) turns = turns ≡ Idle ∷ []
IsIdleAt (Err stop.WriteFault) turns = turns ≡ Idle ∷ []
IsIdleAt _ turns = ⊤

-- where it was refused, the client has missed something still
abbrev pub IsMissedAt : {A : Type 0} → Result A Stop → ℕ → List Entry → Type 0
IsMissedAt (Err stop.HistoryFull) who seen = has_missed who seen ≡ true
IsMissedAt _ who seen = ⊤

-- turns that nobody asked for
pub record DrawsUnasked {A : Type 0} (g : Service) (old new : Seated) (a b : Outlet) (r : Result A Stop) : Type 0 where
  pub turns : List Turn
  pub none : lines_among turns ≡ []
  pub one : IsIdleAt r turns
  pub missed : IsMissedAt r old.number new.seen
  pub serves : Serves g old new a b (how_drawn r) (later turns)

-- a look that changed nothing but what is seen serves no phase
sees-serves : (g : Service) (old new : Seated) (a b : Outlet) → Sees g.gives old new → b ≡ a → Serves g old new a b Whole []
sees-serves g old new a b s e = record {
  got = [];
  out = [];
  adds = sees-add g.gives old new s;
  sends = subst (λ o. Appends a.told o.told []) (sym e) (Appends-nil a.told);
  fits = whole-none g.protocol;
}

sees-lost : (g : Service) (old new : Seated) (a b : Outlet) → Sees g.gives old new → b ≡ a → Serves g old new a b Lost []
sees-lost g old new a b s e = record {
  got = [];
  out = [];
  adds = sees-add g.gives old new s;
  sends = subst (λ o. Appends a.told o.told []) (sym e) (Appends-nil a.told);
  fits = record { events = λ more. (due g.protocol more [], refl); bytes = λ more. (sent g.protocol more [], refl) };
}

drawn-serves : (g : Service) (old new : Seated) (a b : Outlet) (how : How) → IsDrawnUnasked g old new a b how → Serves g old new a b how (later (Idle ∷ []))
drawn-serves g old new a b how d = serves-append g old d.looked new a a b how [] (During Idle ∷ []) d.same (sees-serves g old d.looked a a d.sees refl) d.serves

pub unasked : {A : Type 0} (r : Result A Stop) (g : Service) (old new : Seated) (a b : Outlet) → DrawsMissed g old new a b r → DrawsUnasked g old new a b r
unasked (Ok done) g old new a b (inl m) = record { turns = []; none = refl; one = tt; missed = tt; serves = sees-serves g old new a b m.sees m.silent }
unasked (Ok done) g old new a b (inr d) = record { turns = Idle ∷ []; none = refl; one = tt; missed = tt; serves = drawn-serves g old new a b Whole d }
unasked (Err (stop.Broken at)) g old new a b (inl m) = record { turns = []; none = refl; one = tt; missed = tt; serves = sees-lost g old new a b m.sees m.silent }
unasked (Err (stop.Broken at)) g old new a b (inr d) = record { turns = Idle ∷ []; none = refl; one = tt; missed = tt; serves = drawn-serves g old new a b (how_of (Err (stop.Broken at))) d }
unasked (Err stop.HistoryFull) g old new a b d = record { turns = Idle ∷ []; none = refl; one = refl; missed = still-missed g old new a b d; serves = drawn-serves g old new a b (how_of (Err stop.HistoryFull)) d }
unasked (Err stop.NoMemory) g old new a b d = record { turns = Idle ∷ []; none = refl; one = tt; missed = tt; serves = drawn-serves g old new a b (how_of (Err stop.NoMemory)) d }
unasked (Err stop.WriteFault) g old new a b d = record { turns = Idle ∷ []; none = refl; one = refl; missed = tt; serves = drawn-serves g old new a b (how_of (Err stop.WriteFault)) d }
