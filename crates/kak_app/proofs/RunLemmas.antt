-- Runs that came to nothing, and runs that ended in one way or another.
use Rattle.std.proofs.Common.{◌≡◌, ℕ, inl, inr, zero, suc, Bool, true, false, List, [], ◌∷◌, ◌++◌, drop, Ok, Err, refl, sym, ap, ◌∙◌, subst, arith, Some, None}
use Rattle.std.specs.Prelude.{if◌then◌else◌, ◌==◌}
use Rattle.std.specs.declared.option.Option.{Option}
use Rattle.std.specs.declared.result.Result.{Result}
use Rattle.std.proofs.lemmas.Bool.{eqb-true}
use Rattle.std.proofs.KnownBytes.{Consumes-nil, Appends-nil}
use Rattle.session_turns.specs.Headline.{Due, Sent}
use Rattle.session_turns.specs.Histories.{own}
use Rattle.kak_ports.specs.Ports.{Inlet, Outlet}
use Rattle.key_names.specs.declared.key.Key.{Key}
use Rattle.json_ui.specs.Requests.{read_request}
use Rattle.session_events.specs.declared.event.Entry.{Entry}
use Rattle.session_events.specs.declared.event.Event.TheVariants.{Join}
use Rattle.session_events.specs.declared.event.Output.{Output}
use Rattle.session_events.specs.Entries.{AreOf, others_of}
use Rattle.session_events.specs.Legal.{AreLeavings, IsLegal}
use Rattle.session_events.specs.Meaning.{Gives, rules}
use Rattle.session_events.specs.Seats.{Seated, IsSameSeat, IsAlone, Steps, Sees}
use Rattle.session_events.proofs.LegalLemmas.{lone-length}
use Rattle.session_lines.specs.declared.playing.Stop.{Stop}
use Rattle.session_lines.specs.declared.playing.Stop.TheVariants as stop
use Rattle.session_lines.specs.declared.reading.InputEnd.{InputEnd}
use Rattle.session_lines.specs.declared.reading.InputEnd.TheVariants as ending
use Rattle.session_lines.specs.Session.{protocol}
use Rattle.session_lines.specs.Stops.{StaysWhole}
use Rattle.session_lines.specs.Reading.{EndFaultIs}
use Rattle.session_lines.specs.Serving.{service, HasOnlyCome}
use Rattle.session_lines.proofs.OpeningLemmas.{came-only}
use Rattle.session_lines.specs.Connections.{WasServed, EndCauses}
use Rattle.kak_engine.specs.Steps.{given_by, asked_in, answers_in, AllAsked}
use Rattle.kak_engine.specs.Honesty.{Outside, IsHonest}
use Rattle.kak_world.specs.Flat.{Flat, opening}
use Rattle.kak_engine.specs.Seating.{WasLost}
use Rattle.kak_engine.proofs.HonestLemmas.{honest-none}
use Rattle.kak_engine.proofs.RescueLemmas.{nothing-due}
use Rattle.session_events.specs.declared.limits.TheConstants.{MAX_ENTRIES}
use Rattle.kak_app.specs.Runs.{Around, WasHonestBefore, is_lost, OutsideIs, Ran, IsHistoryFull, ReadsAre, WritesAre}

-- without an entry a history is one that there can be
pub nothing-legal : (limit : ℕ) → IsLegal limit []
nothing-legal limit = record { lives = λ who. refl; within = none limit; few = omega arith }
  where
    none : (n : ℕ) → AreLeavings (drop n [])
    none zero = tt
    none (suc n) = tt

-- nothing happened, and nothing is due
pub lost-first : (o : Outside) → WasHonestBefore [] o o
lost-first o = record {
  mark = None;
  inside = opening;
  lost = record { behind = o; honest = honest-none o; rescued = record { now = o; stands = (refl, refl); result = Ok 0; rescues = nothing-due o } };
}

-- nothing was played
pub nothing-ran : (keys : List Key) (a : Around) → Ran keys (Err stop.NoMemory) a a
nothing-ran keys a = record {
  history = [];
  alone = tt;
  legal = nothing-legal MAX_ENTRIES;
  served = record {
    bytes = [];
    takes = Consumes-nil a.inlet.left;
    few = omega arith;
    turns = [];
    asked = λ e. refl;
    out = [];
    sends = Appends-nil a.outlet.told;
    served = record {
      lines = inl refl;
      stands = (record { front = []; begins = (Due (protocol read_request keys) (rules given_by) 0 [] [], refl); stands = inl refl }, (Sent (protocol read_request keys) (rules given_by) 0 [] [], refl));
    };
    end_is = tt;
  };
  asked = tt;
  honest = lost-first a.outside;
  full = tt;
  reads = inl refl;
  writes = refl;
}

-- a full history has its limit of entries, and the leaving
full-length : (r : Result InputEnd Stop) (z : Seated) (before now : Outlet) → z.limit ≡ MAX_ENTRIES → AreOf 0 z.seen → IsLegal z.limit z.seen → EndCauses r z before now → IsHistoryFull r z.seen
full-length (Ok e) z before now most o l c = tt
full-length (Err stop.HistoryFull) z before now most o l c = omega (arith, c.0, lone-length 0 z.limit z.seen o l, most)
full-length (Err (stop.Broken at)) z before now most o l c = tt
full-length (Err stop.NoMemory) z before now most o l c = tt
full-length (Err stop.WriteFault) z before now most o l c = tt

reads-are : (parting : List Entry → Bool) (r : Result InputEnd Stop) (z : Seated) (left rest : Inlet) → EndFaultIs parting r z left rest → ReadsAre r left rest
reads-are parting (Ok ending.Left) z left rest f = f
reads-are parting (Ok ending.Ended) z left rest f = f
reads-are parting (Ok ending.ReadFault) z left rest f = f
reads-are parting (Ok ending.Full) z left rest f = f
reads-are parting (Err stop.HistoryFull) z left rest f = f
reads-are parting (Err (stop.Broken at)) z left rest f = f
reads-are parting (Err stop.NoMemory) z left rest (inl same) = inl same
reads-are parting (Err stop.NoMemory) z left rest (inr more) = inr more.1
reads-are parting (Err stop.WriteFault) z left rest f = f

writes-are : (r : Result InputEnd Stop) (z : Seated) (before now : Outlet) → EndCauses r z before now → WritesAre r before now
writes-are (Ok e) z before now c = c
writes-are (Err stop.HistoryFull) z before now c = c.1
writes-are (Err (stop.Broken at)) z before now c = c.1
writes-are (Err stop.NoMemory) z before now c = c
writes-are (Err stop.WriteFault) z before now c = c

-- a client came with whom nothing had happened
pub came-first : (g : Gives) (x y : Seated) (output : Output) → x.seen ≡ [] → IsSameSeat x y → Steps g x y Join output → HasOnlyCome g y output.leaving
came-first g x y output none same s = came-only g x y output same (ap (own (rules g) x.number) none) s

-- or didn't come
pub nothing-served : (g : Gives) (keys : List Key) (x y : Seated) (left : Inlet) (before : Outlet) → x.seen ≡ [] → Sees g x y → WasServed false (service g read_request keys) x.number y.seen before before left left (Err stop.NoMemory)
nothing-served g keys x y left before none s = record {
  bytes = [];
  takes = Consumes-nil left.left;
  few = omega arith;
  turns = [];
  asked = λ e. refl;
  out = [];
  sends = Appends-nil before.told;
  served = record {
    lines = inl refl;
    stands = (record { front = []; begins = (Due (protocol read_request keys) (rules g) x.number y.seen [], refl); stands = inl nothing }, (Sent (protocol read_request keys) (rules g) x.number y.seen [], refl));
  };
  end_is = tt;
}
  where
    nothing : own (rules g) x.number y.seen ≡ []
    nothing = ap (own (rules g) x.number) (s.stands ∙ ap (λ h. h ++ s.between) none) ∙ s.foreign

-- where no entry is of another client, all are the client's own
own-alone : (who : ℕ) (h : List Entry) → others_of who h ≡ [] → AreOf who h
own-alone who [] none = tt
own-alone who (e ∷ h) none = by (e.who == who) refl (own-alone who h)
  where
    by : (t : Bool) → (e.who == who) ≡ t → (others_of who h ≡ [] → AreOf who h) → AreOf who (e ∷ h)
    by true is rest = (eqb-true e.who who is, rest (subst (λ t. (if t then others_of who h else e ∷ others_of who h) ≡ []) is none))
    by false is rest = let no : e ∷ others_of who h ≡ [] = subst (λ t. (if t then others_of who h else e ∷ others_of who h) ≡ []) is none in cc

-- where nobody else played, there is no entry of another
pub nobody-else : (x z : Seated) → IsAlone x → IsAlone z → IsSameSeat x z → x.seen ≡ [] → others_of z.number z.seen ≡ []
nobody-else x z a b same none = ap told (sym b ∙ same.others ∙ a ∙ ap (λ h. Some (others_of x.number h)) none)
  where
    told : Option (List Entry) → List Entry
    told (Some entries) = entries
    told None = []

-- an engine that wasn't lost isn't broken
pub whole-mark : {A : Type 0} (r : Result A Stop) (was mark : Option ℕ) → was ≡ None → StaysWhole r was mark → is_lost r ≡ false → mark ≡ None
whole-mark (Ok end) was mark none s e = s none
whole-mark (Err stop.HistoryFull) was mark none s e = s none
whole-mark (Err stop.WriteFault) was mark none s e = s none
whole-mark (Err (stop.Broken at)) was mark none s e = cc
whole-mark (Err stop.NoMemory) was mark none s e = cc

-- how the outside was left, by how playing ended
pub outside-is : {A : Type 0} (r : Result A Stop) (mark : Option ℕ) (inside : Flat) (h : List Entry) (first last : Outside)
    → (is_lost r ≡ true → WasLost h mark inside first last) → (is_lost r ≡ false → IsHonest (answers_in h) (asked_in h) first last) → OutsideIs r h first last
outside-is (Ok end) mark inside h first last lost whole = whole refl
outside-is (Err stop.HistoryFull) mark inside h first last lost whole = whole refl
outside-is (Err stop.WriteFault) mark inside h first last lost whole = whole refl
outside-is (Err (stop.Broken at)) mark inside h first last lost whole = record { mark = mark; inside = inside; lost = lost refl }
outside-is (Err stop.NoMemory) mark inside h first last lost whole = record { mark = mark; inside = inside; lost = lost refl }

-- client 0 was served
pub served-ran : (parting : List Entry → Bool) (keys : List Key) (r : Result InputEnd Stop) (x z : Seated) (a b : Around) → x.number ≡ 0 → x.limit ≡ MAX_ENTRIES → x.mark ≡ None → IsSameSeat x z → others_of z.number z.seen ≡ [] → IsLegal z.limit z.seen
    → WasServed false (service given_by read_request keys) x.number z.seen a.outlet b.outlet a.inlet b.inlet r → EndFaultIs parting r z a.inlet b.inlet → EndCauses r z a.outlet b.outlet → AllAsked z.seen → OutsideIs r z.seen a.outside b.outside → Ran keys r a b
served-ran parting keys r x z a b first most none same o l s f c asked honest = record {
  history = z.seen;
  alone = mine;
  legal = subst (λ n. IsLegal n z.seen) (same.limit ∙ most) l;
  served = subst (λ n. WasServed false (service given_by read_request keys) n z.seen a.outlet b.outlet a.inlet b.inlet r) first s;
  asked = asked;
  honest = honest;
  full = full-length r z a.outlet b.outlet (same.limit ∙ most) mine l c;
  reads = reads-are parting r z a.inlet b.inlet f;
  writes = writes-are r z a.outlet b.outlet c;
}
  where
    mine : AreOf 0 z.seen
    mine = subst (λ n. AreOf n z.seen) (same.number ∙ first) (own-alone z.number z.seen o)

-- a session that broke is as lost as one without memory
pub broken-ran : (keys : List Key) (at : ℕ) (a b : Around) → Ran keys (Err (stop.Broken at)) a b → Ran keys (Err stop.NoMemory) a b
broken-ran keys at a b r = record {
  history = r.history;
  alone = r.alone;
  legal = r.legal;
  served = record { bytes = r.served.bytes; takes = r.served.takes; few = r.served.few; turns = r.served.turns; asked = r.served.asked; out = r.served.out; sends = r.served.sends; served = r.served.served; end_is = tt };
  asked = r.asked;
  honest = r.honest;
  full = tt;
  reads = r.reads;
  writes = r.writes;
}
