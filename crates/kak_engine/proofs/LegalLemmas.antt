-- One more event that wasn't refused leaves a history that there can be.
use Rattle.std.proofs.Common.{◌≡◌, ℕ, zero, suc, ◌≤◌, ◌<◌, Bool, true, false, ◌||◌, List, [], ◌∷◌, ◌++◌, length, drop, refl, sym, ap, ◌∙◌, subst, arith, length-append}
use Rattle.std.specs.Prelude.{if◌then◌else◌, ◌&&◌, not, ◌==◌, nat_le, Some, None}
use Rattle.std.specs.declared.option.Option.{Option}
use Rattle.std.proofs.lemmas.List.{drop-append-le}
use Rattle.std.proofs.lemmas.Bool.{eqb-true, eq-eqb, leb-true, leb-false}
use Rattle.kak_world.specs.declared.world.TheConstants.{MAX_CLIENTS}
use Rattle.kak_world.specs.Flat.{Flat, is_here as is_among, is_joined}
use Rattle.session_events.specs.declared.event.Event.{Event}
use Rattle.session_events.specs.declared.event.Answered.{Answered}
use Rattle.session_events.specs.declared.event.Entry.{Entry}
use Rattle.session_events.specs.declared.fault.StepFault.{StepFault}
use Rattle.session_events.specs.declared.kind.Kind.{Kind}
use Rattle.session_events.specs.declared.kind.Kind.TheVariants.{Coming, Doing, Drawing, Going}
use Rattle.session_events.specs.Entries.{kind_of, is_coming, is_going, is_join, is_leave, entry_with, has_joined}
use Rattle.session_events.specs.Legal.{Presence, Away, Here, Gone, is_here, presence_after, may_make, presence_from, may_make_all, IsLegal, KeepsLimit, AreLeavings}
use Rattle.session_events.proofs.LegalLemmas.{presence-append, may-append}
use Rattle.kak_engine.specs.Steps.{run, is_session_full}
use Rattle.kak_engine.specs.Held.{CanRun, refused_by}

-- the first of two choices gave nothing, and so did the second
chosen-none : (b : Bool) (x : StepFault) (rest : Option StepFault) → (if b then Some x else rest) ≡ None → b ≡ false
chosen-none true x rest e = cc
chosen-none false x rest e = refl

rest-none : (b : Bool) (x : StepFault) (rest : Option StepFault) → (if b then Some x else rest) ≡ None → rest ≡ None
rest-none true x rest e = cc
rest-none false x rest e = e

both-not : (a b : Bool) → (not a && not b) ≡ false → a ≡ false → b ≡ true
both-not true b e f = cc
both-not false true e f = refl
both-not false false e f = cc

second-false : (a b : Bool) → (a && b) ≡ false → a ≡ true → b ≡ false
second-false true b e f = e
second-false false b e f = cc

not-second : (a b : Bool) → (not a && b) ≡ false → a ≡ false → b ≡ false
not-second true b e f = cc
not-second false b e f = e

-- what an event that isn't refused tells of its client and of the room
pub record IsAllowed (history : List Entry) (limit who : ℕ) (event : Event) : Type 0 where
  pub joined : is_join event ≡ false → is_here (presence_from who Away history) ≡ true
  pub fresh : is_join event ≡ true → has_joined who history ≡ false
  pub room : is_leave event ≡ false → nat_le limit (length history) ≡ false
  pub seat : is_join event ≡ true → length (run history).clients < MAX_CLIENTS

pub allowed : (history : List Entry) (limit who : ℕ) (event : Event) → refused_by history limit who event ≡ None → IsAllowed history limit who event
allowed history limit who event e =
    let second = rest-none _ _ _ e in
    let third = rest-none _ _ _ second in
    record {
      joined = both-not (is_join event) (is_here (presence_from who Away history)) (chosen-none _ _ _ e);
      fresh = second-false (is_join event) (has_joined who history) (chosen-none _ _ _ second);
      room = not-second (is_leave event) (nat_le limit (length history)) (chosen-none _ _ _ third);
      seat = λ j. leb-false MAX_CLIENTS (length (run history).clients) (second-false (is_join event) (is_session_full (run history)) (chosen-none _ _ _ (rest-none _ _ _ third)) j);
    }

-- a client that never joined hasn't come
never-step : (k : ℕ) (e : Event) (h : List Entry) (t b : Bool) → is_join e ≡ b → (may_make_all k Away h ≡ true → has_joined k h ≡ false → presence_from k Away h ≡ Away)
    → (if t then is_join e && may_make_all k (presence_after (kind_of e) Away) h else may_make_all k Away h) ≡ true
    → ((t && is_join e) || has_joined k h) ≡ false
    → presence_from k (if t then presence_after (kind_of e) Away else Away) h ≡ Away
never-step k e h true true i next l j = let no : (true || has_joined k h) ≡ false = subst (λ q. (q || has_joined k h) ≡ false) i j in cc
never-step k e h true false i next l j = let no : (false && may_make_all k (presence_after (kind_of e) Away) h) ≡ true = subst (λ q. (q && may_make_all k (presence_after (kind_of e) Away) h) ≡ true) i l in cc
never-step k e h false b i next l j = next l j

pub never-came : (k : ℕ) (h : List Entry) → may_make_all k Away h ≡ true → has_joined k h ≡ false → presence_from k Away h ≡ Away
never-came k [] l j = refl
never-came k (e ∷ h) l j = never-step k e.event h (e.who == k) (is_join e.event) refl (λ m n. never-came k h m n) l j

-- a client that is here may go on, and one that never came may come
here-may : (p : Presence) (kind : Kind) → is_here p ≡ true → is_coming kind ≡ false → may_make p kind ≡ true
here-may Away kind h j = cc
here-may Here kind h j = rw j refl
here-may Gone kind h j = cc

one-may : (k who : ℕ) (p : Presence) (event : Event) (answers : List Answered) → (who ≡ k → may_make p (kind_of event) ≡ true) → may_make_all k p (entry_with who event answers ∷ []) ≡ true
one-may k who p event answers m = by (who == k) refl
  where
    by : (t : Bool) → (who == k) ≡ t → (if t then may_make p (kind_of event) && true else true) ≡ true
    by true e = rw (m (eqb-true who k e)) refl
    by false e = refl

-- the longer history is one that each client may have
pub lives-more : (h : List Entry) (limit who : ℕ) (event : Event) (answers : List Answered) → ((k : ℕ) → may_make_all k Away h ≡ true) → IsAllowed h limit who event
    → (k : ℕ) → may_make_all k Away (h ++ entry_with who event answers ∷ []) ≡ true
lives-more h limit who event answers l a k =
    may-append k Away h (entry_with who event answers ∷ []) (l k) (one-may k who (presence_from k Away h) event answers (λ e. by e (is_join event) refl))
  where
    by : who ≡ k → (t : Bool) → is_join event ≡ t → may_make (presence_from k Away h) (kind_of event) ≡ true
    by e true j = rw (never-came k h (l k) (subst (λ q. has_joined q h ≡ false) e (a.fresh j))) j
    by e false j = here-may (presence_from k Away h) (kind_of event) (subst (λ q. is_here (presence_from q Away h) ≡ true) e (a.joined j)) j

-- behind the limit there are leavings alone
leavings-append : (a b : List Entry) → AreLeavings a → AreLeavings b → AreLeavings (a ++ b)
leavings-append [] b l m = m
leavings-append (e ∷ a) b l m = (l.0, leavings-append a b l.1 m)

drop-all : {A : Type 0} (n : ℕ) (a : List A) → length a ≤ n → drop n a ≡ []
drop-all zero [] le = refl
drop-all zero (x ∷ a) le = absurd (none (length a) le)
  where
    none : (n : ℕ) → suc n ≤ 0 → ⊥
    none n le = omega (arith, le)
drop-all (suc n) [] le = refl
drop-all (suc n) (x ∷ a) le = drop-all n a (omega (arith, le))

pub within-more : (h : List Entry) (limit who : ℕ) (event : Event) (answers : List Answered) → KeepsLimit limit h → IsAllowed h limit who event → KeepsLimit limit (h ++ entry_with who event answers ∷ [])
within-more h limit who event answers w a = by (nat_le limit (length h)) (is_leave event) refl refl
  where
    by : (t l : Bool) → nat_le limit (length h) ≡ t → is_leave event ≡ l → KeepsLimit limit (h ++ entry_with who event answers ∷ [])
    by true true e f = subst AreLeavings (sym (drop-append-le limit h (entry_with who event answers ∷ []) (leb-true limit (length h) e))) (leavings-append (drop limit h) (entry_with who event answers ∷ []) w (f, tt))
    by true false e f = let no : true ≡ false = sym e ∙ a.room f in cc
    by false l e f = subst AreLeavings (sym (drop-all limit (h ++ entry_with who event answers ∷ []) (short (leb-false limit (length h) e)))) tt
      where
        short : length h < limit → length (h ++ entry_with who event answers ∷ []) ≤ limit
        short lt = omega (arith, lt, length-append h (entry_with who event answers ∷ []))

-- where a client is behind one entry more
pub presence-more : (k who : ℕ) (h : List Entry) (event : Event) (answers : List Answered) → presence_from k Away (h ++ entry_with who event answers ∷ []) ≡ (if who == k then presence_after (kind_of event) (presence_from k Away h) else presence_from k Away h)
presence-more k who h event answers = presence-append k Away h (entry_with who event answers ∷ [])

-- an event that isn't refused can be run
pub can-run : (history : List Entry) (limit who : ℕ) (event : Event) (flat : Flat) → flat ≡ run history → ((k : ℕ) → is_joined k flat ≡ is_here (presence_from k Away history)) → ((k : ℕ) → is_among k flat.clients ≡ is_here (presence_from k Away history)) → IsLegal limit history
    → refused_by history limit who event ≡ None → CanRun (kind_of event) who flat
can-run history limit who event flat same known here legal e = by (kind_of event) a.joined a.fresh a.seat
  where
    a : IsAllowed history limit who event
    a = allowed history limit who event e

    by : (kind : Kind) → (is_coming kind ≡ false → is_here (presence_from who Away history) ≡ true) → (is_coming kind ≡ true → has_joined who history ≡ false) → (is_coming kind ≡ true → length (run history).clients < MAX_CLIENTS) → CanRun kind who flat
    by Coming joined fresh seat = record {
      away = here who ∙ ap is_here (never-came who history (legal.lives who) (fresh refl));
      few = subst (λ f. length f.clients < MAX_CLIENTS) (sym same) (seat refl);
    }
    by Doing joined fresh seat = known who ∙ joined refl
    by Drawing joined fresh seat = known who ∙ joined refl
    by Going joined fresh seat = known who ∙ joined refl

-- a client that made an event, and didn't leave by it, is here
pub in-behind : (history new : List Entry) (limit who : ℕ) (event : Event) (answers : List Answered) → refused_by history limit who event ≡ None → new ≡ history ++ entry_with who event answers ∷ [] → is_leave event ≡ false → is_here (presence_from who Away new) ≡ true
in-behind history new limit who event answers e k stays =
    ap (λ h. is_here (presence_from who Away h)) k ∙ ap is_here (presence-more who who history event answers) ∙ own (who == who) (eq-eqb who who refl)
  where
    by : (kind : Kind) → is_going kind ≡ false → (is_coming kind ≡ false → is_here (presence_from who Away history) ≡ true) → is_here (presence_after kind (presence_from who Away history)) ≡ true
    by Coming stays joined = refl
    by Doing stays joined = joined refl
    by Drawing stays joined = joined refl
    by Going stays joined = cc

    own : (t : Bool) → t ≡ true → is_here (if t then presence_after (kind_of event) (presence_from who Away history) else presence_from who Away history) ≡ true
    own true f = by (kind_of event) stays (allowed history limit who event e).joined
    own false f = cc
