-- What was served goes on to stand while others go on.
use Rattle.std.proofs.Common.{◌≡◌, ℕ, true, Bool, List, [], ◌∷◌, ◌++◌, refl, sym, ap, ◌∙◌, subst, append_assoc, append-nil}
use Rattle.std.specs.declared.result.Result.{Result}
use Rattle.std.specs.Io.KnownBytes.{Appends}
use Rattle.kak_ports.specs.Ports.{Inlet, Outlet}
use Rattle.session_turns.specs.Histories.{own, answers}
use Rattle.session_turns.specs.Turns.{Line, Idle, Phase, Opening, During}
use Rattle.session_turns.proofs.HistoryLemmas.{own-append, answers_behind-append, answers_behind-others}
use Rattle.session_turns.proofs.Ends.{stands-later}
use Rattle.session_events.specs.declared.event.Event.TheVariants.{Leave}
use Rattle.session_events.specs.declared.event.Entry.{Entry}
use Rattle.session_events.specs.Entries.{entry_with}
use Rattle.session_events.specs.Meaning.{Gives, rules}
use Rattle.client_links.specs.Wires.{Wire}
use Rattle.line_reading.specs.Hearing.{inlet_of}
use Rattle.session_lines.specs.declared.playing.Stop.{Stop}
use Rattle.session_lines.specs.declared.reading.InputEnd.{InputEnd}
use Rattle.session_lines.specs.Serving.{Service}
use Rattle.session_lines.specs.Reading.{WasDueStill, EndIs}
use Rattle.session_lines.specs.Connections.{connection_end, WasServed}
use Rattle.session_lines.proofs.ReadingLemmas.{ends-by}
use Rattle.link_lines.specs.declared.ended.Ended.{Ended}
use Rattle.link_lines.specs.declared.ended.Ended.TheVariants.{Left, Closed, LinkRead, LinkWrite, InputFull, HistoryFull, Full, Broken, NoMemory}
use Rattle.link_lines.specs.Endings.{result_of, HasParted, PartsHistory, WasServedOver}

-- entries of others give the client nothing and are none of its own
own-later : (g : Gives) (k : ℕ) (h more : List Entry) → own (rules g) k more ≡ [] → own (rules g) k (h ++ more) ≡ own (rules g) k h
own-later g k h more e = own-append (rules g) k h more ∙ ap (λ q. own (rules g) k h ++ q) e ∙ append-nil (own (rules g) k h)

answers-later : (g : Gives) (k : ℕ) (h more : List Entry) → own (rules g) k more ≡ [] → answers (rules g) k (h ++ more) ≡ answers (rules g) k h
answers-later g k h more e = answers_behind-append (rules g) k [] h more ∙ ap (λ q. answers (rules g) k h ++ q) (answers_behind-others (rules g) k h more e) ∙ append-nil (answers (rules g) k h)

-- what was due was so by a later history too
due-later : (g : Gives) (k : ℕ) (h more : List Entry) → own (rules g) k more ≡ [] → (phase : Phase) → WasDueStill g k h phase → WasDueStill g k (h ++ more) phase
due-later g k h more none Opening d = tt
due-later g k h more none (During (Line line)) d = tt
due-later g k h more none (During Idle) d = record {
  before = d.before;
  behind = d.behind ++ more;
  cut = ap (λ q. q ++ more) d.cut ∙ append_assoc d.before d.behind more;
  leaves = own-later g k d.behind more none ∙ d.leaves;
  missed = d.missed;
}

-- a connection that was served, by another history with the same own events and answers
abbrev served-by : (u : Bool) (g : Service) (k : ℕ) (h later : List Entry) (a b : Outlet) (left rest : Inlet) (r : Result InputEnd Stop) (w : WasServed u g k h a b left rest r) → own (rules g.gives) k later ≡ own (rules g.gives) k h → answers (rules g.gives) k later ≡ answers (rules g.gives) k h
    → ((phase : Phase) → WasDueStill g.gives k h phase → WasDueStill g.gives k later phase) → (v : WasServed u g k later a b left rest r) × (v.bytes ≡ w.bytes)
served-by u g k h later a b left rest r w o e due = (
  record {
    bytes = w.bytes;
    takes = w.takes;
    few = w.few;
    turns = w.turns;
    asked = w.asked;
    out = w.out;
    sends = w.sends;
    served = record { lines = w.served.lines; stands = stands-later g.protocol (rules g.gives) (connection_end r) k h later w.turns w.out o e w.served.stands };
    end_is = subst (λ got. EndIs g.protocol (WasDueStill g.gives k later) (Opening ∷ []) w.turns got r left w.bytes) (sym e)
        (ends-by g.protocol (WasDueStill g.gives k h) (WasDueStill g.gives k later) (Opening ∷ []) w.turns (answers (rules g.gives) k h) r left w.bytes due w.end_is);
  },
  refl,
)

-- where the headline speaks of the whole history
whole-later : (g : Service) (k : ℕ) (h more : List Entry) (before now : Wire) (e : Ended) (w : WasServedOver g k h before now e) → own (rules g.gives) k more ≡ [] → h ≡ w.front → PartsHistory g.gives e k (h ++ more) (h ++ more) → WasServedOver g k (h ++ more) before now e
whole-later g k h more before now e w none all parts =
    let v = served-by true g k w.front (h ++ more) before.outlet now.outlet (inlet_of before) (inlet_of now) (result_of e) w.served
    (own-later g.gives k h more none ∙ ap (own (rules g.gives) k) all) (answers-later g.gives k h more none ∙ ap (answers (rules g.gives) k) all)
    (λ phase d. due-later g.gives k h more none phase (subst (λ q. WasDueStill g.gives k q phase) (sym all) d)) in
    record { front = h ++ more; served = v.0; received = subst (λ bs. Appends before.received now.received bs) (sym v.1) w.received; parting = parts }

-- the leaving stands there still
parted-later : (g : Gives) (k : ℕ) (front h more : List Entry) → own (rules g) k more ≡ [] → HasParted g k front h → HasParted g k front (h ++ more)
parted-later g k front h more none p = record {
  between = p.between;
  answers = p.answers;
  behind = p.behind ++ more;
  foreign = p.foreign;
  last = own-later g k p.behind more none ∙ p.last;
  stands = ap (λ q. q ++ more) p.stands ∙ append_assoc (front ++ p.between) (entry_with k Leave p.answers ∷ p.behind) more;
}

pub over-later : (g : Service) (k : ℕ) (h more : List Entry) (before now : Wire) (e : Ended) → own (rules g.gives) k more ≡ [] → WasServedOver g k h before now e → WasServedOver g k (h ++ more) before now e
over-later g k h more before now Left none w = whole-later g k h more before now Left w none w.parting refl
over-later g k h more before now Closed none w = whole-later g k h more before now Closed w none w.parting refl
over-later g k h more before now LinkRead none w = whole-later g k h more before now LinkRead w none w.parting refl
over-later g k h more before now LinkWrite none w = record { front = w.front; served = w.served; received = w.received; parting = parted-later g.gives k w.front h more none w.parting }
over-later g k h more before now InputFull none w = whole-later g k h more before now InputFull w none w.parting refl
over-later g k h more before now HistoryFull none w = whole-later g k h more before now HistoryFull w none w.parting refl
over-later g k h more before now Full none w = whole-later g k h more before now Full w none w.parting refl
over-later g k h more before now (Broken at) none w = whole-later g k h more before now (Broken at) w none w.parting refl
over-later g k h more before now NoMemory none w = whole-later g k h more before now NoMemory w none w.parting refl
