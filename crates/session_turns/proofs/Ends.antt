-- From how the phases got to what stands at a connection's end.
use Rattle.std.proofs.Common.{◌≡◌, ℕ, ◌⊎◌, inl, inr, List, [], ◌∷◌, ◌++◌, length, take, sym, ap, ◌∙◌, append_assoc, subst}
use Rattle.std.specs.List.{flat_map}
use Rattle.std.proofs.lemmas.List.{append-nil}
use Rattle.std.proofs.Math.Seq.{take-append_seam}
use Rattle.session_turns.specs.Histories.{Answer, Rules, events_of, bytes_of, is_leaving, own, answers}
use Rattle.session_turns.proofs.Lists.{events_of-append, length-events_of}
use Rattle.session_turns.specs.Turns.{Turn, Phase, Protocol, phases, plays, says, due, all_sent, sent, answers_to}
use Rattle.session_turns.specs.Growth.{Begins, GoesOn, IsWhole, IsOver, IsShort, IsUnsent, IsLost}
use Rattle.session_turns.specs.Headline.{End, Left, Closed, Cut, Refused, Unwritten, Lost, HasFrontAndLeave, HasUnsent, Stands}
use Rattle.session_turns.proofs.TurnLemmas.{due-append, sent-append, all_sent-append, flat_map-append, one_sent}

-- whole phases owe what they had, and are sent what they were
pub whole-due : {E : Type 0} (p : Protocol E) (ts : List Phase) (a : List (Answer E)) (x : List ℕ) → IsWhole p ts a x → due p ts a ≡ events_of a
whole-due p ts a x w = ap (λ r. due p r a) (sym (append-nil ts)) ∙ ap (due p (ts ++ [])) (sym (append-nil a)) ∙ due-append p ts [] a [] w.events w.stays ∙ append-nil (events_of a)

pub whole-sent : {E : Type 0} (p : Protocol E) (ts : List Phase) (a : List (Answer E)) (x : List ℕ) → IsWhole p ts a x → sent p ts a ≡ x
whole-sent p ts a x w = ap (λ r. sent p r a) (sym (append-nil ts)) ∙ ap (sent p (ts ++ [])) (sym (append-nil a)) ∙ sent-append p ts [] a [] w.events w.stays ∙ append-nil (all_sent p ts a) ∙ sym w.bytes

over-due : {E : Type 0} (p : Protocol E) (ts : List Phase) (a : List (Answer E)) (x : List ℕ) → IsOver p ts a x → due p ts a ≡ events_of a
over-due p ts a x w = ap (λ r. due p r a) (sym (append-nil ts)) ∙ w.events []

over-sent : {E : Type 0} (p : Protocol E) (ts : List Phase) (a : List (Answer E)) (x : List ℕ) → IsOver p ts a x → sent p ts a ≡ x
over-sent p ts a x w = ap (λ r. sent p r a) (sym (append-nil ts)) ∙ w.bytes []

short-due : {E : Type 0} (p : Protocol E) (ts : List Phase) (a : List (Answer E)) (x : List ℕ) → IsShort p ts a x → GoesOn (due p ts a) (events_of a)
short-due p ts a x w = let P : List Phase → Type 0 = λ r. GoesOn (due p r a) (events_of a) in subst P (append-nil ts) (w.events [])

short-sent : {E : Type 0} (p : Protocol E) (ts : List Phase) (a : List (Answer E)) (x : List ℕ) → IsShort p ts a x → sent p ts a ≡ x
short-sent p ts a x w = ap (λ r. sent p r a) (sym (append-nil ts)) ∙ w.bytes []

lost-due : {E : Type 0} (p : Protocol E) (ts : List Phase) (a : List (Answer E)) (x : List ℕ) → IsLost p ts a x → Begins (due p ts a) (events_of a)
lost-due p ts a x w = let P : List Phase → Type 0 = λ r. Begins (due p r a) (events_of a) in subst P (append-nil ts) (w.events [])

lost-sent : {E : Type 0} (p : Protocol E) (ts : List Phase) (a : List (Answer E)) (x : List ℕ) → IsLost p ts a x → Begins (sent p ts a) x
lost-sent p ts a x w = let P : List Phase → Type 0 = λ r. Begins (sent p r a) x in subst P (append-nil ts) (w.bytes [])

-- The facts of a history in which the client has these answers, and has left.
pub record HasLeft {N E : Type 0} (p : Protocol E) (r : Rules N E) (k : ℕ) (h : List N) (got : List (Answer E)) : Type 0 where
  pub answered : answers r k h ≡ got
  pub stood : own r k h ≡ events_of got ++ p.leaves ∷ []

-- The facts of a history in which the client has these answers, and hasn't left.
pub record HasStayed {N E : Type 0} (r : Rules N E) (k : ℕ) (h : List N) (got : List (Answer E)) : Type 0 where
  pub answered : answers r k h ≡ got
  pub stood : own r k h ≡ events_of got

pub left-stands : {N E : Type 0} (p : Protocol E) (r : Rules N E) (k : ℕ) (h : List N) (ts : List Turn) (got : List (Answer E)) (out : List ℕ) → IsOver p (phases ts) got out → HasLeft p r k h got → Stands p r Left k h ts out
left-stands p r k h ts got out w f = (
  rw f.answered (f.stood ∙ ap (λ q. q ++ p.leaves ∷ []) (sym (over-due p (phases ts) got out w))),
  rw f.answered (sym (over-sent p (phases ts) got out w)),
  rw f.answered w.leaves,
)

pub closed-stands : {N E : Type 0} (p : Protocol E) (r : Rules N E) (k : ℕ) (h : List N) (ts : List Turn) (got : List (Answer E)) (out : List ℕ) → IsWhole p (phases ts) got out → HasLeft p r k h got → Stands p r Closed k h ts out
closed-stands p r k h ts got out w f = (
  rw f.answered (f.stood ∙ ap (λ q. q ++ p.leaves ∷ []) (sym (whole-due p (phases ts) got out w))),
  rw f.answered (sym (whole-sent p (phases ts) got out w)),
  rw f.answered w.stays,
)

begins-append : {A : Type 0} (w f more : List A) → Begins w f → Begins (w ++ more) f
begins-append w f more h = (h.0 ++ more, ap (λ r. r ++ more) h.1 ∙ append_assoc f h.0 more)

pub refused-stands : {N E : Type 0} (p : Protocol E) (r : Rules N E) (k : ℕ) (h : List N) (ts : List Turn) (got : List (Answer E)) (out : List ℕ) → IsShort p (phases ts) got out → HasLeft p r k h got → Stands p r Refused k h ts out
refused-stands p r k h ts got out w f = (
  inl (record {
    front = events_of got;
    goes_on = rw f.answered (short-due p (phases ts) got out w);
    stands = f.stood;
  }),
  rw f.answered (sym (short-sent p (phases ts) got out w)),
)

-- the very first event was refused
pub never-stands : {N E : Type 0} (p : Protocol E) (r : Rules N E) (k : ℕ) (h : List N) (ts : List Turn) (out : List ℕ) → IsShort p (phases ts) [] out → HasStayed r k h [] → Stands p r Refused k h ts out
never-stands p r k h ts out w f = (inr f.stood, rw f.answered (sym (short-sent p (phases ts) [] out w)))

-- the answers to whole phases, whatever answers come behind
pub whole-answers : {E : Type 0} (p : Protocol E) (ts : List Phase) (a b : List (Answer E)) (x : List ℕ) → IsWhole p ts a x → answers_to p ts (a ++ b) ≡ a
whole-answers p ts a b x w = ap (λ n. take n (a ++ b)) (sym (sym (length-events_of a) ∙ ap length w.events)) ∙ take-append_seam a b

-- a write failed in a phase, behind which nothing was played
pub unsent-stands : {N E : Type 0} (p : Protocol E) (r : Rules N E) (k : ℕ) (h : List N) (ts : List Turn) (got : List (Answer E)) (out : List ℕ) → IsUnsent p (phases ts) got out → HasStayed r k h got → Stands p r Unwritten k h ts out
unsent-stands p r k h ts got out u f = record {
  before = u.before;
  at = u.at;
  behind = u.behind;
  split = u.split;
  stands = f.stood ∙ ap events_of u.answers ∙ events_of-append u.early u.late
      ∙ ap (λ q. q ++ events_of u.late) u.whole.events ∙ ap (λ q. flat_map (plays p) u.before ++ q) (u.events ∙ sym (append-nil (plays p u.at)))
      ∙ sym (flat_map-append p u.before (u.at ∷ []));
  stays = ap (λ q. is_leaving (answers_to p u.before q)) here ∙ ap is_leaving (whole-answers p u.before u.early u.late u.first u.whole) ∙ u.whole.stays;
  whole = (u.front, u.bytes ∙ ap (λ q. q ++ u.front) (sym sent_before));
  begins = (u.begins.0, sent_with ∙ ap (λ q. u.first ++ q) u.begins.1 ∙ sym (append_assoc u.first u.front u.begins.0) ∙ ap (λ q. q ++ u.begins.0) (sym u.bytes));
}
  where
    here : answers r k h ≡ u.early ++ u.late
    here = f.answered ∙ u.answers

    sent_before : all_sent p u.before (answers r k h) ≡ u.first
    sent_before = ap (all_sent p u.before) here ∙ ap (λ q. all_sent p q (u.early ++ u.late)) (sym (append-nil u.before))
        ∙ all_sent-append p u.before [] u.early u.late u.whole.events ∙ append-nil (all_sent p u.before u.early) ∙ sym u.whole.bytes

    sent_with : all_sent p (u.before ++ u.at ∷ []) (answers r k h) ≡ u.first ++ (bytes_of u.late ++ says p u.at)
    sent_with = ap (all_sent p (u.before ++ u.at ∷ [])) here ∙ all_sent-append p u.before (u.at ∷ []) u.early u.late u.whole.events
        ∙ ap (λ q. q ++ all_sent p (u.at ∷ []) u.late) (sym u.whole.bytes) ∙ ap (λ q. u.first ++ q) (one_sent p u.at u.late u.events)

-- whatever was lost, a beginning stands and a beginning was sent
pub record HasLost {N E : Type 0} (p : Protocol E) (r : Rules N E) (k : ℕ) (h : List N) (got : List (Answer E)) : Type 0 where
  pub answered : answers r k h ≡ got
  pub stood : (own r k h ≡ events_of got) ⊎ (own r k h ≡ events_of got ++ p.leaves ∷ [])

pub lost-stands : {N E : Type 0} (p : Protocol E) (r : Rules N E) (k : ℕ) (h : List N) (ts : List Turn) (got : List (Answer E)) (out : List ℕ) → Begins (due p (phases ts) got) (events_of got) → Begins (sent p (phases ts) got) out → HasLost p r k h got → Stands p r Lost k h ts out
lost-stands p r k h ts got out d s f = (
  record {
    front = events_of got;
    begins = rw f.answered (begins-append (due p (phases ts) got) (events_of got) (p.leaves ∷ []) d);
    stands = f.stood;
  },
  rw f.answered s,
)

goes-begins : {A : Type 0} (w f : List A) → GoesOn w f → Begins w f
goes-begins w f h = (h.0 ∷ h.1, h.2)

begins-same : {A : Type 0} (w f : List A) → w ≡ f → Begins w f
begins-same w f e = ([], e ∙ sym (append-nil f))

pub lost-lost : {N E : Type 0} (p : Protocol E) (r : Rules N E) (k : ℕ) (h : List N) (ts : List Turn) (got : List (Answer E)) (out : List ℕ) → IsLost p (phases ts) got out → HasLost p r k h got → Stands p r Lost k h ts out
lost-lost p r k h ts got out w f = lost-stands p r k h ts got out (lost-due p (phases ts) got out w) (lost-sent p (phases ts) got out w) f

pub short-lost : {N E : Type 0} (p : Protocol E) (r : Rules N E) (k : ℕ) (h : List N) (ts : List Turn) (got : List (Answer E)) (out : List ℕ) → IsShort p (phases ts) got out → HasLost p r k h got → Stands p r Lost k h ts out
short-lost p r k h ts got out w f = lost-stands p r k h ts got out (goes-begins (due p (phases ts) got) (events_of got) (short-due p (phases ts) got out w)) (begins-same _ _ (short-sent p (phases ts) got out w)) f

pub whole-lost : {N E : Type 0} (p : Protocol E) (r : Rules N E) (k : ℕ) (h : List N) (ts : List Turn) (got : List (Answer E)) (out : List ℕ) → IsWhole p (phases ts) got out → HasLost p r k h got → Stands p r Lost k h ts out
whole-lost p r k h ts got out w f = lost-stands p r k h ts got out (begins-same _ _ (whole-due p (phases ts) got out w)) (begins-same _ _ (whole-sent p (phases ts) got out w)) f

pub over-lost : {N E : Type 0} (p : Protocol E) (r : Rules N E) (k : ℕ) (h : List N) (ts : List Turn) (got : List (Answer E)) (out : List ℕ) → IsOver p (phases ts) got out → HasLost p r k h got → Stands p r Lost k h ts out
over-lost p r k h ts got out w f = lost-stands p r k h ts got out (begins-same _ _ (over-due p (phases ts) got out w)) (begins-same _ _ (over-sent p (phases ts) got out w)) f

-- what stands for a client stands in every later history with the same own events and answers
pub stands-later : {N E : Type 0} (p : Protocol E) (r : Rules N E) (end : End) (k : ℕ) (h later : List N) (ts : List Turn) (told : List ℕ) → own r k later ≡ own r k h → answers r k later ≡ answers r k h → Stands p r end k h ts told → Stands p r end k later ts told
stands-later p r Left k h later ts told o a s = rw (o, a) s
stands-later p r Closed k h later ts told o a s = rw (o, a) s
stands-later p r Cut k h later ts told o a s = rw (o, a) s
stands-later p r Refused k h later ts told o a s = (refused_later (s.0), rw a (s.1))
  where
    refused_later : HasFrontAndLeave p r k h ts ⊎ (own r k h ≡ []) → HasFrontAndLeave p r k later ts ⊎ (own r k later ≡ [])
    refused_later (inl f) = inl (record { front = f.front; goes_on = rw a f.goes_on; stands = o ∙ f.stands })
    refused_later (inr e) = inr (o ∙ e)
stands-later p r Unwritten k h later ts told o a s = record {
  before = s.before;
  at = s.at;
  behind = s.behind;
  split = s.split;
  stands = o ∙ s.stands;
  stays = rw a s.stays;
  whole = rw a s.whole;
  begins = rw a s.begins;
}
stands-later p r Lost k h later ts told o a s = (record { front = s.0.front; begins = rw a (s.0.begins); stands = rw o (s.0.stands) }, rw a (s.1))
