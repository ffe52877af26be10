-- The clients that are here, as an engine's world has them.
use Rattle.std.proofs.Common.{◌≡◌, ℕ, ◌+◌, ◌<◌, ◌≤◌, Bool, true, false, List, [], ◌∷◌, ◌++◌, length, refl, sym, ap, ◌∙◌, subst, arith}
use Rattle.std.specs.Prelude.{if◌then◌else◌, ◌&&◌, ◌==◌, Some, None}
use Rattle.std.specs.List.{list_any}
use Rattle.std.specs.declared.option.Option.{Option}
use Rattle.session_events.specs.declared.event.Event.{Event}
use Rattle.session_events.specs.declared.event.Answered.{Answered}
use Rattle.session_events.specs.declared.event.Entry.{Entry}
use Rattle.session_events.specs.Entries.{kind_of, is_join, entry_with}
use Rattle.session_events.specs.Missing.{has_news, has_missed}
use Rattle.kak_world.specs.declared.world.TheConstants.{MAX_CLIENTS}
use Rattle.kak_engine.specs.Honesty.{Outside}
use Rattle.kak_engine.specs.Held.{HeldEngine, new_engine, refused_at, refused_by}
use Rattle.kak_engine.specs.Seating.{WasHonest}
use Rattle.kak_engine.proofs.SeatingLemmas.{honest-first}
use Rattle.kak_engine.proofs.HereLemmas.{here-count}
use Rattle.kak_engine.proofs.LegalLemmas.{allowed}
use Rattle.session_events.specs.Counting.{here_after, here_among, joined_among, comings}
use Rattle.engine_desk.specs.Sharing.{IsBeside, new_shared, glimpse_of}
use Rattle.session_events.proofs.CountingLemmas.{here-more, here-few, comings-more, here-present}

-- an engine that refuses nothing has no reason in its history
refused-none : (mark : Option ℕ) (history : List Entry) (limit who : ℕ) (event : Event) → refused_at mark history limit who event ≡ None → refused_by history limit who event ≡ None
refused-none None history limit who event e = e
refused-none (Some at) history limit who event e = cc

-- who comes finds room
room-for : (history : List Entry) (mark : Option ℕ) (limit who : ℕ) (event : Event) → refused_at mark history limit who event ≡ None → is_join event ≡ true → length (here_among history) < MAX_CLIENTS
room-for history mark limit who event e j =
    less (here-count history) ((allowed history limit who event (refused-none mark history limit who event e)).seat j)
  where
    less : {a b : ℕ} → a ≡ b → b < MAX_CLIENTS → a < MAX_CLIENTS
    less e l = omega (arith, e, l)

module _ (x y : HeldEngine) (here : List ℕ) (room joins : ℕ) (mark : Option ℕ) (beside : IsBeside x here room joins mark) where
  -- there is room for the number of who comes
  pub room-beside : (who : ℕ) (event : Event) → refused_at x.mark x.history x.limit who event ≡ None → is_join event ≡ true → length here + 1 ≤ MAX_CLIENTS
  room-beside who event e j = less (ap length beside.here_is) (room-for x.history x.mark x.limit who event e j)
    where
      less : {a b : ℕ} → a ≡ b → a < MAX_CLIENTS → b + 1 ≤ MAX_CLIENTS
      less e l = omega (arith, e, l)

  -- what stands beside an engine behind an event that was taken
  pub beside-taken : (who : ℕ) (event : Event) (answers : List Answered) → refused_at x.mark x.history x.limit who event ≡ None → y.history ≡ x.history ++ entry_with who event answers ∷ [] → y.mark ≡ x.mark
      → (here' : List ℕ) (room' joins' : ℕ) → here' ≡ here_after who (kind_of event) here → room' ≡ room → joins' ≡ joins + (if is_join event then 1 else 0) → IsBeside y here' room' joins' mark
  beside-taken who event answers e stands same here' room' joins' h r j = record {
    here_is = ap here_among stands ∙ here-more x.history who event answers ∙ ap (here_after who (kind_of event)) beside.here_is ∙ sym h;
    joins_is = ap comings stands ∙ comings-more x.history who event answers ∙ ap (λ (n : ℕ). n + (if is_join event then 1 else 0)) beside.joins_is ∙ sym j;
    mark_is = same ∙ beside.mark_is;
    few = fewer (ap length h) (here-few who (kind_of event) here MAX_CLIENTS beside.few (room-beside who event e));
    fits = roomy r beside.fits;
  }
    where
      fewer : {a b : ℕ} → a ≡ b → b ≤ MAX_CLIENTS → a ≤ MAX_CLIENTS
      fewer e l = omega (arith, e, l)

      roomy : {a b : ℕ} → a ≡ b → MAX_CLIENTS ≤ b → MAX_CLIENTS ≤ a
      roomy e l = omega (arith, e, l)

  -- and behind one that was refused
  pub beside-refused : (mark' : Option ℕ) → y.history ≡ x.history → y.mark ≡ mark' → IsBeside y here room joins mark'
  beside-refused mark' same m = record {
    here_is = ap here_among same ∙ beside.here_is;
    joins_is = ap comings same ∙ beside.joins_is;
    mark_is = m;
    few = beside.few;
    fits = beside.fits;
  }

-- what an engine at a desk keeps, as it is made
pub new-keeps : (outside : Outside) (limit : ℕ) (x first : HeldEngine) (here : List ℕ) (room : ℕ) → x ≡ (new_shared outside limit).engine → first ≡ x → here ≡ [] → MAX_CLIENTS ≤ room → WasHonest x first.outside × IsBeside x here room 0 None
new-keeps outside limit x first here room new same empty fits = (
  subst (λ (h : HeldEngine). WasHonest h first.outside) (sym new) (subst (λ (o : Outside). WasHonest (new_engine outside limit) o) (sym (ap (λ (h : HeldEngine). h.outside) (same ∙ new))) (honest-first outside limit)),
  record {
    here_is = ap (λ (h : HeldEngine). here_among h.history) new ∙ sym empty;
    joins_is = ap (λ (h : HeldEngine). comings h.history) new;
    mark_is = ap (λ (h : HeldEngine). h.mark) new;
    few = none here empty;
    fits = fits;
  },
)
  where
    none : (here : List ℕ) → here ≡ [] → length here ≤ MAX_CLIENTS
    none [] e = omega arith
    none (x ∷ xs) e = cc

-- a glimpse of an engine by what stands beside it
pub glimpse-is : (x : HeldEngine) (here : List ℕ) (room joins : ℕ) (mark : Option ℕ) (who : ℕ) (stale : Bool) (joined : ℕ) → IsBeside x here room joins mark → stale ≡ (list_any (λ number. number == who) here && has_news who x.history) → joined ≡ length here
    → record { stale = stale; joined = joined; joins = joins; broken = mark } ≡ glimpse_of x.mark who x.history
glimpse-is x here room joins mark who stale joined beside s j =
    let stale-is : stale ≡ has_missed who x.history =
    s ∙ ap (λ (numbers : List ℕ). list_any (λ number. number == who) numbers && has_news who x.history) (sym beside.here_is) ∙ ap (λ (b : Bool). b && has_news who x.history) (here-present who x.history) in
    let joined-is : joined ≡ joined_among x.history = j ∙ ap length (sym beside.here_is) in
    let joins-are : joins ≡ comings x.history = sym beside.joins_is in
    let mark-is : mark ≡ x.mark = sym beside.mark_is in cc
