-- How a generated session is played, move by move, and what its statuses say then.
use Rattle.std.proofs.Common.{◌≡◌, ℕ, zero, suc, ◌+◌, ◌-◌, ◌<◌, ◌≤◌, ◌⊎◌, inl, inr, Bool, true, false, List, [], ◌∷◌, ◌++◌, Ok, Err, Some, None, refl, sym, ap, ap₂, ◌∙◌, subst, arith, append_assoc, append-nil, add-one}
use Rattle.std.specs.Prelude.{◌==◌, ◌||◌, is_some, is_err, IfOk, OnOk, OnErr}
use Rattle.std.specs.declared.option.Option.{Option}
use Rattle.std.specs.declared.result.Result.{Result}
use Rattle.std.proofs.lemmas.Bool.{cases_lt}
use Rattle.std.proofs.lemmas.List.{map-append}
use Rattle.session_turns.specs.Growth.{Begins}
use Rattle.kak_ports.specs.Ports.{Outlet, Puts, PutIsCounted}
use Rattle.kak_ports.specs.declared.sink.Put.{Put}
use Rattle.kak_ports.specs.declared.sink.Put.TheVariants as put
use Rattle.program_words.specs.declared.generated.GenWords.{GenWords}
use Rattle.program_words.specs.GenWords.{gen_words}
use Rattle.session_draws.specs.declared.draws.Strike.{Strike}
use Rattle.session_draws.specs.Draws.{strike_from, state_behind}
use Rattle.session_draws.specs.Summary.{head_text}
use Rattle.session_events.specs.declared.event.Event.{Event}
use Rattle.session_events.specs.declared.event.Answered.{Answered}
use Rattle.session_events.specs.declared.event.Entry.{Entry}
use Rattle.session_events.specs.declared.kind.Kind.{Kind}
use Rattle.session_events.specs.declared.kind.Kind.TheVariants.{Coming, Doing, Drawing, Going}
use Rattle.session_events.specs.Entries.{entry_with, kind_of, is_going, is_leave}
use Rattle.session_events.specs.Legal.{Away, is_here, presence_from}
use Rattle.kak_engine.specs.Steps.{asked_in, answers_in, AllAsked}
use Rattle.kak_engine.specs.Honesty.{Outside, IsHonest}
use Rattle.kak_engine.specs.Held.{HeldEngine, new_engine}
use Rattle.kak_world.specs.Flat.{Flat}
use Rattle.kak_engine.specs.Seating.{WasHonest, WasLost}
use Rattle.kak_engine.proofs.LegalLemmas.{presence-more}
use Rattle.kak_engine.proofs.PresenceLemmas.{there_after, presence-after}
use Rattle.kak_engine.proofs.SeatingLemmas.{honest-first}
use Rattle.kak_app.specs.declared.program.Status.{Status}
use Rattle.kak_app.specs.declared.program.Status.TheVariants.{Done, Usage, ReadFault, WriteFault, NoMemory, HistoryFull, InputFull, BadClient}
use Rattle.kak_app.specs.Runs.{Around, WasHonestBefore, is_client_call}
use Rattle.kak_app.specs.Generated.{Move, made_by, move_of, moves_of, each_makes, comings, goings, struck_by, drawn_moves, generated, generated_whole, summary_of, GenPlayed, GenLost, GenAnswers, is_call}
use Rattle.kak_app.specs.Generating.{Adds, AddsSome, AddsDrawn, AllStay, AreHere, IsSummed, Writes}
use Rattle.kak_app.proofs.RunLemmas.{lost-first}

-- words that name a generated session are the program's, and others are where they are those for a client
pub named-taken : (session : GenWords) (words : List (List ℕ)) → Some session ≡ gen_words words → is_call words ≡ false → ⊥
named-taken session words e = subst (λ (o : Option GenWords). (is_some o || is_client_call words) ≡ false → ⊥) e (λ no. let never : true ≡ false = no in cc)

pub client-refused : (words : List (List ℕ)) (status : Status) → None ≡ gen_words words → (is_client_call words ≡ false → status ≡ Usage) → is_call words ≡ false → status ≡ Usage
client-refused words status e refused = subst (λ (o : Option GenWords). (is_some o || is_client_call words) ≡ false → status ≡ Usage) e refused

pub client-taken : (words : List (List ℕ)) (status : Status) → None ≡ gen_words words → (is_client_call words ≡ true → status ≡ Usage → ⊥) → is_call words ≡ true → status ≡ Usage → ⊥
client-taken words status e taken = subst (λ (o : Option GenWords). (is_some o || is_client_call words) ≡ true → status ≡ Usage → ⊥) e taken

-- moves behind moves
pub adds-none : (h : List Entry) → Adds [] h h
adds-none h = record { entries = []; keeps = sym (append-nil h); are = refl }

pub adds-then : (a b : List Move) (x y z : List Entry) → Adds a x y → Adds b y z → Adds (a ++ b) x z
adds-then a b x y z p q = record {
  entries = p.entries ++ q.entries;
  keeps = q.keeps ∙ ap (λ (h : List Entry). h ++ q.entries) p.keeps ∙ append_assoc x p.entries q.entries;
  are = map-append move_of p.entries q.entries ∙ ap₂ (λ (u : List Move) (v : List Move). u ++ v) p.are q.are;
}

-- some of the moves are some of more, and some behind others
some-more : (a b : List Move) (x y : List Entry) → AddsSome a x y → AddsSome (a ++ b) x y
some-more a b x y s = record {
  front = s.front;
  begins = (s.begins.0 ++ b, ap (λ (m : List Move). m ++ b) s.begins.1 ∙ append_assoc s.front s.begins.0 b);
  adds = s.adds;
}

some-behind : (a b : List Move) (x y z : List Entry) → Adds a x y → AddsSome b y z → AddsSome (a ++ b) x z
some-behind a b x y z p s = record {
  front = a ++ s.front;
  begins = (s.begins.0, ap (λ (m : List Move). a ++ m) s.begins.1 ∙ sym (append_assoc a s.front s.begins.0));
  adds = adds-then a s.front x y z p s.adds;
}

some-all : (a : List Move) (x y : List Entry) → Adds a x y → AddsSome a x y
some-all a x y p = record { front = a; begins = ([], sym (append-nil a)); adds = p }

-- one client more makes an event
each-on : (event : Event) (k d n : ℕ) → n ≡ k + d → Begins (each_makes event n) (each_makes event k)
each-on event k zero n e =
    let same : n ≡ k = omega (arith, e) in
    ([], ap (each_makes event) same ∙ sym (append-nil (each_makes event k)))
each-on event k (suc d) n e =
    let b = each-on event k d (k + d) refl in
    let next : n ≡ suc (k + d) = omega (arith, e) in
    (b.0 ++ made_by (k + d) event ∷ [], ap (each_makes event) next ∙ ap (λ (m : List Move). m ++ made_by (k + d) event ∷ []) b.1 ∙ append_assoc (each_makes event k) b.0 (made_by (k + d) event ∷ []))

pub each-lost : (event : Event) (k n : ℕ) (x y z : List Entry) → k ≤ n → Adds (each_makes event k) x y → z ≡ y → AddsSome (each_makes event n) x z
each-lost event k n x y z le p same = record {
  front = each_makes event k;
  begins = each-on event k (n - k) n (omega (arith, le));
  adds = subst (λ (h : List Entry). Adds (each_makes event k) x h) (sym same) p;
}

pub each-next : (event : Event) (n : ℕ) (x y z : List Entry) → Adds (each_makes event n) x y → Adds (made_by n event ∷ []) y z → Adds (each_makes event (n + 1)) x z
each-next event n x y z p q =
    subst (λ (m : List Move). Adds m x z) (ap (each_makes event) (sym (add-one n))) (adds-then (each_makes event n) (made_by n event ∷ []) x y z p q)

pub each-all : (event : Event) (k n : ℕ) (x y : List Entry) → k ≡ n → Adds (each_makes event k) x y → Adds (each_makes event n) x y
each-all event k n x y e p = subst (λ m. Adds (each_makes event m) x y) e p

-- who is here stays, unless it leaves
pub stays-here : (k who : ℕ) (event : Event) (answers : List Answered) (x y : List Entry) → y ≡ x ++ entry_with who event answers ∷ [] → is_leave event ≡ false → is_here (presence_from k Away x) ≡ true → is_here (presence_from k Away y) ≡ true
stays-here k who event answers x y keeps stays here =
    ap (λ h. is_here (presence_from k Away h)) keeps
    ∙ ap is_here (presence-more k who x event answers)
    ∙ presence-after (kind_of event) (who == k) (presence_from k Away x)
    ∙ by (kind_of event) (who == k) stays
  where
    by : (kind : Kind) (t : Bool) → is_going kind ≡ false → there_after kind t (is_here (presence_from k Away x)) ≡ true
    by Coming true s = refl
    by Coming false s = here
    by Doing t s = here
    by Drawing t s = here
    by Going t s = cc

pub here-next : (n : ℕ) (x y : List Entry) → AreHere n x → is_here (presence_from n Away y) ≡ true → AllStay x y → AreHere (n + 1) y
here-next n x y here came stay k less = by (cases_lt k n)
  where
    by : (k < n) ⊎ (n ≤ k) → is_here (presence_from k Away y) ≡ true
    by (inl below) = stay k (here k below)
    by (inr past) = let same : n ≡ k = omega (arith, less, past) in subst (λ m. is_here (presence_from m Away y) ≡ true) same came

-- one strike more
pub drawn-begun : (clients keys seed left state : ℕ) (x : List Entry) → left ≡ keys → state ≡ seed → AddsDrawn clients keys seed left state x x
drawn-begun clients keys seed left state x l s = record { front = []; rest = ap₂ (λ n q. drawn_moves clients n q) (sym l) (sym s); adds = adds-none x }

pub drawn-next : (clients keys seed left less state next : ℕ) (strike : Strike) (x y z : List Entry) → left ≡ suc less → next ≡ state_behind state → strike ≡ strike_from clients state
    → AddsDrawn clients keys seed left state x y → Adds (struck_by strike ∷ []) y z → AddsDrawn clients keys seed less next x z
drawn-next clients keys seed left less state next strike x y z one on is p q = record {
  front = p.front ++ struck_by strike ∷ [];
  rest = p.rest ∙ ap (λ (m : List Move). p.front ++ m) step ∙ sym (append_assoc p.front (struck_by strike ∷ []) (drawn_moves clients less next));
  adds = adds-then p.front (struck_by strike ∷ []) x y z p.adds q;
}
  where
    step : drawn_moves clients left state ≡ struck_by strike ∷ drawn_moves clients less next
    step = ap (λ n. drawn_moves clients n state) one ∙ ap₂ (λ (s : Strike) (r : ℕ). struck_by s ∷ drawn_moves clients less r) (sym is) (sym on)

pub drawn-lost : (clients keys seed left state : ℕ) (x y z : List Entry) → AddsDrawn clients keys seed left state x y → z ≡ y → AddsSome (drawn_moves clients keys seed) x z
drawn-lost clients keys seed left state x y z p same = record {
  front = p.front;
  begins = (drawn_moves clients left state, p.rest);
  adds = subst (λ (h : List Entry). Adds p.front x h) (sym same) p.adds;
}

pub drawn-all : (clients keys seed left state : ℕ) (x y : List Entry) → left ≡ 0 → AddsDrawn clients keys seed left state x y → Adds (drawn_moves clients keys seed) x y
drawn-all clients keys seed left state x y none p =
    subst (λ (m : List Move). Adds m x y) (sym (p.rest ∙ ap (λ n. p.front ++ drawn_moves clients n state) none ∙ append-nil p.front)) p.adds

-- the first lines of a summary
pub head-same : (a b d x y z : ℕ) → a ≡ x → b ≡ y → d ≡ z → head_text a b d ≡ head_text x y z
head-same a b d x y z p q r = rw (p, q, r) refl

-- a whole session, behind an empty history
opened : (session : GenWords) (first new : List Entry) → first ≡ [] → AddsSome (generated_whole session) first new → AddsSome (generated_whole session) [] new
opened session first new fresh s = subst (λ (h : List Entry). AddsSome (generated_whole session) h new) fresh s

came-struck : (session : GenWords) (first second third : List Entry) → Adds (comings session.clients) first second → Adds (drawn_moves session.clients session.keys session.seed) second third → Adds (generated session) first third
came-struck session first second third p q = adds-then (comings session.clients) (drawn_moves session.clients session.keys session.seed) first second third p q

pub lost-coming : (session : GenWords) (first second : List Entry) → first ≡ [] → AddsSome (comings session.clients) first second → AddsSome (generated_whole session) [] second
lost-coming session first second fresh s =
    opened session first second fresh (some-more (generated session) (goings session.clients) first second (some-more (comings session.clients) (drawn_moves session.clients session.keys session.seed) first second s))

pub lost-striking : (session : GenWords) (first second third : List Entry) → first ≡ [] → Adds (comings session.clients) first second → AddsSome (drawn_moves session.clients session.keys session.seed) second third → AddsSome (generated_whole session) [] third
lost-striking session first second third fresh p s =
    opened session first third fresh (some-more (generated session) (goings session.clients) first third (some-behind (comings session.clients) (drawn_moves session.clients session.keys session.seed) first second third p s))

pub lost-summing : (session : GenWords) (first second third : List Entry) → first ≡ [] → Adds (comings session.clients) first second → Adds (drawn_moves session.clients session.keys session.seed) second third → AddsSome (generated_whole session) [] third
lost-summing session first second third fresh p q =
    opened session first third fresh (some-more (generated session) (goings session.clients) first third (some-all (generated session) first third (came-struck session first second third p q)))

pub lost-going : (session : GenWords) (first second third last : List Entry) → first ≡ [] → Adds (comings session.clients) first second → Adds (drawn_moves session.clients session.keys session.seed) second third → AddsSome (goings session.clients) third last
    → AddsSome (generated_whole session) [] last
lost-going session first second third last fresh p q s =
    opened session first last fresh (some-behind (generated session) (goings session.clients) first third last (came-struck session first second third p q) s)

pub session-summed : (session : GenWords) (text : List ℕ) (first second third last : List Entry) → first ≡ [] → Adds (comings session.clients) first second → Adds (drawn_moves session.clients session.keys session.seed) second third
    → text ≡ summary_of session.clients third → Adds (goings session.clients) third last → IsSummed session text last
session-summed session text first second third last fresh p q t r =
    let played = came-struck session first second third p q in
    record {
      history = third;
      parting = r.entries;
      is = r.keeps;
      moves = ap moves_of (played.keeps ∙ ap (λ (h : List Entry). h ++ played.entries) fresh) ∙ played.are;
      leave = r.are;
      text_is = t;
    }

-- nothing was played
pub nothing-generated : (session : GenWords) (a : Around) → GenLost session a a
nothing-generated session a = record {
  history = [];
  moves = (generated_whole session, refl);
  asked = tt;
  honest = lost-first a.outside;
  unwritten = refl;
  unread = refl;
}

-- what the statuses say
put-played : (session : GenWords) (answer : Put) (text : List ℕ) (h : List Entry) (old new : Around) → IsSummed session text h → AllAsked h → IsHonest (answers_in h) (asked_in h) old.outside new.outside
    → Puts answer old.outlet new.outlet text → PutIsCounted answer old.outlet new.outlet → new.inlet ≡ old.inlet → GenPlayed session answer old new
put-played session answer text h old new s a w p n i = record {
  history = s.history;
  parting = s.parting;
  moves = s.moves;
  leave = s.leave;
  written = subst (λ (t : List ℕ). Puts answer old.outlet new.outlet t) s.text_is p;
  counted = n;
  asked = subst AllAsked s.is a;
  honest = subst (λ (e : List Entry). IsHonest (answers_in e) (asked_in e) old.outside new.outside) s.is w;
  unread = i;
}

written-answers : (session : GenWords) (text : List ℕ) (status : Status) (h : List Entry) (old new : Around) → IsSummed session text h → AllAsked h → IsHonest (answers_in h) (asked_in h) old.outside new.outside
    → Writes text status old.outlet new.outlet → new.inlet ≡ old.inlet → GenAnswers session status old new
written-answers session text Done h old new s a w p i = put-played session put.Done text h old new s a w p.0 p.1 i
written-answers session text WriteFault h old new s a w p i = put-played session put.Failed text h old new s a w p.0 p.1 i
written-answers session text Usage h old new s a w p i = absurd p
written-answers session text ReadFault h old new s a w p i = absurd p
written-answers session text NoMemory h old new s a w p i = absurd p
written-answers session text HistoryFull h old new s a w p i = absurd p
written-answers session text InputFull h old new s a w p i = absurd p
written-answers session text BadClient h old new s a w p i = absurd p

pub session-answers : {T E : Type 0} (bytes : T → List ℕ) (session : GenWords) (r : Result T E) (status : Status) (h : List Entry) (old new : Around) → IfOk r (λ text. IsSummed session (bytes text) h) → OnErr r (AddsSome (generated_whole session) [] h)
    → AllAsked h → OnErr r (WasHonestBefore h old.outside new.outside) → OnOk r (IsHonest (answers_in h) (asked_in h) old.outside new.outside) → IfOk r (λ text. Writes (bytes text) status old.outlet new.outlet) → OnErr r (status ≡ NoMemory) → OnErr r (new.outlet ≡ old.outlet) → new.inlet ≡ old.inlet → GenAnswers session status old new
session-answers bytes session (Ok text) status h old new s l a lost w p e u i = written-answers session (bytes text) status h old new s a w p i
session-answers bytes session (Err error) status h old new s l a lost w p e u i =
    let front : moves_of h ≡ l.front = ap moves_of l.adds.keeps ∙ l.adds.are in
    let wanting : GenLost session old new = record {
      history = h;
      moves = (l.begins.0, l.begins.1 ∙ ap (λ (m : List Move). m ++ l.begins.0) (sym front));
      asked = a;
      honest = lost;
      unwritten = u;
      unread = i;
    } in
    subst (λ (t : Status). GenAnswers session t old new) (sym e) wanting

-- a session that was written or lost isn't one of other words
used-none : (text : List ℕ) (status : Status) (b n : Outlet) → Writes text status b n → status ≡ Usage → ⊥
used-none text Done b n p e = cc
used-none text WriteFault b n p e = cc
used-none text Usage b n p e = absurd p
used-none text ReadFault b n p e = absurd p
used-none text NoMemory b n p e = absurd p
used-none text HistoryFull b n p e = absurd p
used-none text InputFull b n p e = absurd p
used-none text BadClient b n p e = absurd p

pub session-used : {T E : Type 0} (bytes : T → List ℕ) (r : Result T E) (status : Status) (b n : Outlet) → IfOk r (λ text. Writes (bytes text) status b n) → OnErr r (status ≡ NoMemory) → status ≡ Usage → ⊥
session-used bytes (Ok text) status b n p e u = used-none (bytes text) status b n p u
session-used bytes (Err error) status b n p e u = let no : NoMemory ≡ Usage = sym e ∙ u in cc

-- an engine that was just made
pub honest-new : (limit : ℕ) (first : Outside) (engine : HeldEngine) → engine ≡ new_engine first limit → WasHonest engine first
honest-new limit first engine new = subst (λ (e : HeldEngine). WasHonest e first) (sym new) (honest-first first limit)

-- how its outside was left, by whether memory was wanting
pub left-lost : {T E : Type 0} (r : Result T E) (mark : Option ℕ) (inside : Flat) (h : List Entry) (first last : Outside) → (is_err r ≡ true → WasLost h mark inside first last) → OnErr r (WasHonestBefore h first last)
left-lost (Ok x) mark inside h first last lost = tt
left-lost (Err e) mark inside h first last lost = record { mark = mark; inside = inside; lost = lost refl }

pub left-whole : {T E : Type 0} (r : Result T E) (M P : Type 0) → OnOk r M → (is_err r ≡ false → M → P) → OnOk r P
left-whole (Ok x) M P m whole = whole refl m
left-whole (Err e) M P m whole = tt

-- what holds at any rate holds where there is an error
pub on-err : {T E P : Type 0} (r : Result T E) → P → OnErr r P
on-err (Ok x) p = tt
on-err (Err e) p = p
