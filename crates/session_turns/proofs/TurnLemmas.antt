-- How phases grow: one after another, and one at a time.
use Rattle.std.proofs.Common.{◌≡◌, ℕ, Bool, true, false, ◌||◌, ◌<◌, ◌≤◌, List, [], ◌∷◌, ◌++◌, length, take, drop, refl, sym, ap, ◌∙◌, arith, length-append, append_assoc}
use Rattle.std.specs.List.{flat_map}
use Rattle.std.proofs.lemmas.Bool.{le-ltb, lt-ltb}
use Rattle.std.proofs.lemmas.List.{append-nil, take-append-le, drop-append-le, take_all}
use Rattle.session_turns.specs.Histories.{Answer, events_of, bytes_of, is_leaving}
use Rattle.session_turns.specs.Turns.{Phase, Protocol, plays, says, phase_size, played, due, all_sent, sent}
use Rattle.session_turns.specs.Growth.{Begins, GoesOn, IsWhole, IsOver, IsShort, IsUnsent, IsLost, How, Whole, Over, Short, Unsent, Lost, Fits}
use Rattle.session_turns.proofs.Lists.{events_of-append, is_leaving-append, length-events_of, stays_front, stays_rest, events_of-drop}

no_events : {E : Type 0} (a : List (Answer E)) → events_of a ≡ [] → a ≡ []
no_events [] e = refl
no_events (x ∷ a) e = cc

-- the answers of a phase in front are there
long : {E : Type 0} (p : Protocol E) (t : Phase) (ts : List Phase) (a : List (Answer E)) → events_of a ≡ flat_map (plays p) (t ∷ ts) → phase_size p t ≤ length a
long p t ts a e = omega (arith, sym (length-events_of a) ∙ ap length e ∙ length-append (plays p t) (flat_map (plays p) ts))

pub played-append : {E : Type 0} (p : Protocol E) (ts more : List Phase) (a b : List (Answer E)) → events_of a ≡ flat_map (plays p) ts → is_leaving a ≡ false → played p (ts ++ more) (a ++ b) ≡ ts ++ played p more b
played-append p [] more a b e s = rw (no_events a e) refl
played-append p (t ∷ ts) more a b e s =
    let l : phase_size p t ≤ length a = long p t ts a e in
    rw (take-append-le (phase_size p t) a b l, drop-append-le (phase_size p t) a b l, stays_front (phase_size p t) a s)
    (ap (λ r. t ∷ r) (played-append p ts more (drop (phase_size p t) a) b (events_of-drop (phase_size p t) a (plays p t) (flat_map (plays p) ts) refl e) (stays_rest (phase_size p t) a s)))

pub all_sent-append : {E : Type 0} (p : Protocol E) (ts us : List Phase) (a b : List (Answer E)) → events_of a ≡ flat_map (plays p) ts → all_sent p (ts ++ us) (a ++ b) ≡ all_sent p ts a ++ all_sent p us b
all_sent-append p [] us a b e = rw (no_events a e) refl
all_sent-append p (t ∷ ts) us a b e =
    let l : phase_size p t ≤ length a = long p t ts a e in
    let m : phase_size p t ≤ length (a ++ b) = omega (arith, length-append a b) in
    rw (take-append-le (phase_size p t) a b l, drop-append-le (phase_size p t) a b l, le-ltb (length (a ++ b)) (phase_size p t) m, le-ltb (length a) (phase_size p t) l)
    (ap (λ r. (bytes_of (take (phase_size p t) a) ++ says p t) ++ r) (all_sent-append p ts us (drop (phase_size p t) a) b (events_of-drop (phase_size p t) a (plays p t) (flat_map (plays p) ts) refl e))
    ∙ sym (append_assoc (bytes_of (take (phase_size p t) a) ++ says p t) (all_sent p ts (drop (phase_size p t) a)) (all_sent p us b)))

pub flat_map-append : {E : Type 0} (p : Protocol E) (ts us : List Phase) → flat_map (plays p) (ts ++ us) ≡ flat_map (plays p) ts ++ flat_map (plays p) us
flat_map-append p [] us = refl
flat_map-append p (t ∷ ts) us = ap (λ r. plays p t ++ r) (flat_map-append p ts us) ∙ sym (append_assoc (plays p t) (flat_map (plays p) ts) (flat_map (plays p) us))

-- what is due and what is sent, where the first phases are whole
pub due-append : {E : Type 0} (p : Protocol E) (ts more : List Phase) (a b : List (Answer E)) → events_of a ≡ flat_map (plays p) ts → is_leaving a ≡ false → due p (ts ++ more) (a ++ b) ≡ events_of a ++ due p more b
due-append p ts more a b e s = ap (flat_map (plays p)) (played-append p ts more a b e s) ∙ flat_map-append p ts (played p more b) ∙ ap (λ r. r ++ due p more b) (sym e)

pub sent-append : {E : Type 0} (p : Protocol E) (ts more : List Phase) (a b : List (Answer E)) → events_of a ≡ flat_map (plays p) ts → is_leaving a ≡ false → sent p (ts ++ more) (a ++ b) ≡ all_sent p ts a ++ sent p more b
sent-append p ts more a b e s = ap (λ r. all_sent p r (a ++ b)) (played-append p ts more a b e s) ∙ all_sent-append p ts (played p more b) a b e

regroup : {E : Type 0} (p : Protocol E) (ts us more : List Phase) (a b : List (Answer E)) → events_of a ≡ flat_map (plays p) ts → is_leaving a ≡ false → due p ((ts ++ us) ++ more) (a ++ b) ≡ events_of a ++ due p (us ++ more) b
regroup p ts us more a b e s = ap (λ r. due p r (a ++ b)) (append_assoc ts us more) ∙ due-append p ts (us ++ more) a b e s

regroup_sent : {E : Type 0} (p : Protocol E) (ts us more : List Phase) (a b : List (Answer E)) → events_of a ≡ flat_map (plays p) ts → is_leaving a ≡ false → sent p ((ts ++ us) ++ more) (a ++ b) ≡ all_sent p ts a ++ sent p (us ++ more) b
regroup_sent p ts us more a b e s = ap (λ r. sent p r (a ++ b)) (append_assoc ts us more) ∙ sent-append p ts (us ++ more) a b e s

begins_after : {A : Type 0} (front whole part : List A) → Begins whole part → Begins (front ++ whole) (front ++ part)
begins_after front whole part h = (h.0, ap (λ r. front ++ r) h.1 ∙ sym (append_assoc front part h.0))

begins_by : {A : Type 0} (w v f g : List A) → w ≡ v → f ≡ g → Begins v g → Begins w f
begins_by w v f g d e h = (h.0, d ∙ h.1 ∙ ap (λ r. r ++ h.0) (sym e))

or_false : (x y : Bool) → x ≡ false → y ≡ false → (x || y) ≡ false
or_false x y d e = rw (d, e) refl

or_true : (x y : Bool) → x ≡ false → y ≡ true → (x || y) ≡ true
or_true x y d e = rw (d, e) refl

goes_after : {A : Type 0} (front whole part : List A) → GoesOn whole part → GoesOn (front ++ whole) (front ++ part)
goes_after front whole part h = (h.0, h.1, ap (λ r. front ++ r) h.2 ∙ sym (append_assoc front part (h.0 ∷ h.1)))

goes_by : {A : Type 0} (w v f g : List A) → w ≡ v → f ≡ g → GoesOn v g → GoesOn w f
goes_by w v f g d e h = (h.0, h.1, d ∙ h.2 ∙ ap (λ r. r ++ h.0 ∷ h.1) (sym e))

-- whole phases behind whole ones
pub whole-append : {E : Type 0} (p : Protocol E) (ts us : List Phase) (a b : List (Answer E)) (x y : List ℕ) → IsWhole p ts a x → IsWhole p us b y → IsWhole p (ts ++ us) (a ++ b) (x ++ y)
whole-append p ts us a b x y w f = record {
  events = events_of-append a b ∙ ap (λ r. r ++ events_of b) w.events ∙ ap (λ r. flat_map (plays p) ts ++ r) f.events ∙ sym (flat_map-append p ts us);
  stays = is_leaving-append a b ∙ or_false (is_leaving a) (is_leaving b) w.stays f.stays;
  bytes = ap (λ r. r ++ y) w.bytes ∙ ap (λ r. all_sent p ts a ++ r) f.bytes ∙ sym (all_sent-append p ts us a b w.events);
}

-- phases that go on where all the phases before them were whole
pub fits-append : {E : Type 0} (p : Protocol E) (how : How) (ts us : List Phase) (a b : List (Answer E)) (x y : List ℕ) → IsWhole p ts a x → Fits p how us b y → Fits p how (ts ++ us) (a ++ b) (x ++ y)
fits-append p Whole ts us a b x y w f = whole-append p ts us a b x y w f
fits-append p Over ts us a b x y w f = record {
  leaves = is_leaving-append a b ∙ or_true (is_leaving a) (is_leaving b) w.stays f.leaves;
  events = λ more. regroup p ts us more a b w.events w.stays ∙ ap (λ r. events_of a ++ r) (f.events more) ∙ sym (events_of-append a b);
  bytes = λ more. regroup_sent p ts us more a b w.events w.stays ∙ ap (λ r. all_sent p ts a ++ r) (f.bytes more) ∙ ap (λ r. r ++ y) (sym w.bytes);
}
fits-append p Short ts us a b x y w f = record {
  events = λ more. goes_by _ _ _ _ (regroup p ts us more a b w.events w.stays) (events_of-append a b) (goes_after (events_of a) (due p (us ++ more) b) (events_of b) (f.events more));
  bytes = λ more. regroup_sent p ts us more a b w.events w.stays ∙ ap (λ r. all_sent p ts a ++ r) (f.bytes more) ∙ ap (λ r. r ++ y) (sym w.bytes);
}
fits-append p Unsent ts us a b x y w f = record {
  before = ts ++ f.before;
  at = f.at;
  behind = f.behind;
  split = ap (λ r. ts ++ r) f.split ∙ sym (append_assoc ts f.before (f.at ∷ f.behind));
  early = a ++ f.early;
  late = f.late;
  answers = ap (λ r. a ++ r) f.answers ∙ sym (append_assoc a f.early f.late);
  first = x ++ f.first;
  front = f.front;
  bytes = ap (λ r. x ++ r) f.bytes ∙ sym (append_assoc x f.first f.front);
  whole = whole-append p ts f.before a f.early x f.first w f.whole;
  events = f.events;
  begins = f.begins;
}
fits-append p Lost ts us a b x y w f = record {
  events = λ more. begins_by _ _ _ _ (regroup p ts us more a b w.events w.stays) (events_of-append a b) (begins_after (events_of a) (due p (us ++ more) b) (events_of b) (f.events more));
  bytes = λ more. begins_by _ _ _ _ (regroup_sent p ts us more a b w.events w.stays) (ap (λ r. r ++ y) w.bytes) (begins_after (all_sent p ts a) (sent p (us ++ more) b) y (f.bytes more));
}

-- phases behind one that wasn't answered whole, or that let the client go, are free
pub over-more : {E : Type 0} (p : Protocol E) (ts more : List Phase) (a : List (Answer E)) (x : List ℕ) → IsOver p ts a x → IsOver p (ts ++ more) a x
over-more p ts more a x f = record {
  leaves = f.leaves;
  events = λ rest. ap (λ r. due p r a) (append_assoc ts more rest) ∙ f.events (more ++ rest);
  bytes = λ rest. ap (λ r. sent p r a) (append_assoc ts more rest) ∙ f.bytes (more ++ rest);
}

pub short-more : {E : Type 0} (p : Protocol E) (ts more : List Phase) (a : List (Answer E)) (x : List ℕ) → IsShort p ts a x → IsShort p (ts ++ more) a x
short-more p ts more a x f = record {
  events = λ rest. goes_by _ _ _ _ (ap (λ r. due p r a) (append_assoc ts more rest)) refl (f.events (more ++ rest));
  bytes = λ rest. ap (λ r. sent p r a) (append_assoc ts more rest) ∙ f.bytes (more ++ rest);
}

-- and those behind one that was played but not sent
pub unsent-more : {E : Type 0} (p : Protocol E) (ts more : List Phase) (a : List (Answer E)) (x : List ℕ) → IsUnsent p ts a x → IsUnsent p (ts ++ more) a x
unsent-more p ts more a x f = record {
  before = f.before;
  at = f.at;
  behind = f.behind ++ more;
  split = ap (λ r. r ++ more) f.split ∙ append_assoc f.before (f.at ∷ f.behind) more;
  early = f.early;
  late = f.late;
  answers = f.answers;
  first = f.first;
  front = f.front;
  bytes = f.bytes;
  whole = f.whole;
  events = f.events;
  begins = f.begins;
}

pub lost-more : {E : Type 0} (p : Protocol E) (ts more : List Phase) (a : List (Answer E)) (x : List ℕ) → IsLost p ts a x → IsLost p (ts ++ more) a x
lost-more p ts more a x f = record {
  events = λ rest. begins_by _ _ _ _ (ap (λ r. due p r a) (append_assoc ts more rest)) refl (f.events (more ++ rest));
  bytes = λ rest. begins_by _ _ _ _ (ap (λ r. sent p r a) (append_assoc ts more rest)) refl (f.bytes (more ++ rest));
}

-- nothing played yet
pub whole-none : {E : Type 0} (p : Protocol E) → IsWhole p [] [] []
whole-none p = record { events = refl; stays = refl; bytes = refl }

size-got : {E : Type 0} (p : Protocol E) (t : Phase) (a : List (Answer E)) → events_of a ≡ plays p t → length a ≡ phase_size p t
size-got p t a e = sym (length-events_of a) ∙ ap length e

take-got : {E : Type 0} (p : Protocol E) (t : Phase) (a : List (Answer E)) → events_of a ≡ plays p t → take (phase_size p t) a ≡ a
take-got p t a e = take_all (phase_size p t) a (omega (arith, size-got p t a e))

pub one_sent : {E : Type 0} (p : Protocol E) (t : Phase) (a : List (Answer E)) → events_of a ≡ plays p t → all_sent p (t ∷ []) a ≡ bytes_of a ++ says p t
one_sent p t a e =
    let m : phase_size p t ≤ length a = omega (arith, size-got p t a e) in
    rw (le-ltb (length a) (phase_size p t) m, take-got p t a e) (append-nil _)

-- a phase that was answered whole, and the client stays
pub phase_goes : {E : Type 0} (p : Protocol E) (t : Phase) (a : List (Answer E)) → events_of a ≡ plays p t → is_leaving a ≡ false → IsWhole p (t ∷ []) a (bytes_of a ++ says p t)
phase_goes p t a e s = record { events = e ∙ sym (append-nil (plays p t)); stays = s; bytes = sym (one_sent p t a e) }

last_turn : {E : Type 0} (p : Protocol E) (t : Phase) (more : List Phase) (a : List (Answer E)) → events_of a ≡ plays p t → is_leaving a ≡ true → played p (t ∷ more) a ≡ t ∷ []
last_turn p t more a e s = rw (take-got p t a e, s) refl

-- a phase that was answered whole, and the client may leave
pub phase_quits : {E : Type 0} (p : Protocol E) (t : Phase) (a : List (Answer E)) → events_of a ≡ plays p t → is_leaving a ≡ true → IsOver p (t ∷ []) a (bytes_of a ++ says p t)
phase_quits p t a e s = record {
  leaves = s;
  events = λ more. ap (flat_map (plays p)) (last_turn p t more a e s) ∙ append-nil (plays p t) ∙ sym e;
  bytes = λ more. ap (λ r. all_sent p r a) (last_turn p t more a e s) ∙ one_sent p t a e;
}

begins-append : {A : Type 0} (w f more : List A) → Begins w f → Begins (w ++ more) f
begins-append w f more h = (h.0 ++ more, ap (λ r. r ++ more) h.1 ∙ append_assoc f h.0 more)

goes_short : {A : Type 0} (whole front : List A) → Begins whole front → length front < length whole → GoesOn whole front
goes_short whole front h l = by h.0 h.1
  where
    by : (rest : List _) → whole ≡ front ++ rest → GoesOn whole front
    by [] e = absurd (same (ap length (e ∙ append-nil front)))
      where
        same : length whole ≡ length front → ⊥
        same e = omega (arith, e, l)
    by (next ∷ rest) e = (next, rest, e)

goes-append : {A : Type 0} (w f more : List A) → GoesOn w f → GoesOn (w ++ more) f
goes-append w f more h = (h.0, h.1 ++ more, ap (λ r. r ++ more) h.2 ∙ append_assoc f (h.0 ∷ h.1) more)

-- a phase of which only a beginning was answered
pub phase_stops : {E : Type 0} (p : Protocol E) (t : Phase) (a : List (Answer E)) → Begins (plays p t) (events_of a) → length a < phase_size p t → IsShort p (t ∷ []) a []
phase_stops p t a h l = record {
  events = λ more. goes-append (plays p t) (events_of a) _ (goes_short (plays p t) (events_of a) h (omega (arith, l, length-events_of a)));
  bytes = λ more. rw (lt-ltb (length a) (phase_size p t) l) refl;
}

-- a phase of which only a beginning was answered, and of its bytes none was sent
pub phase_breaks : {E : Type 0} (p : Protocol E) (t : Phase) (a : List (Answer E)) → Begins (plays p t) (events_of a) → IsLost p (t ∷ []) a []
phase_breaks p t a h = record {
  events = λ more. begins-append (plays p t) (events_of a) _ h;
  bytes = λ more. (sent p (t ∷ more) a, refl);
}

-- a phase that was answered whole, and only a beginning of its bytes was sent
pub phase_fails : {E : Type 0} (p : Protocol E) (t : Phase) (a : List (Answer E)) (x : List ℕ) → events_of a ≡ plays p t → Begins (bytes_of a ++ says p t) x → IsUnsent p (t ∷ []) a x
phase_fails p t a x e h = record {
  before = [];
  at = t;
  behind = [];
  split = refl;
  early = [];
  late = a;
  answers = refl;
  first = [];
  front = x;
  bytes = refl;
  whole = whole-none p;
  events = e;
  begins = h;
}
