-- Who is here, and how many have come, behind one entry more.
use Rattle.std.proofs.Common.{◌≡◌, ℕ, ◌+◌, ◌≤◌, Bool, true, false, ◌||◌, List, [], ◌∷◌, ◌++◌, length, refl, sym, ap, ◌∙◌, arith, length-append}
use Rattle.std.specs.Prelude.{if◌then◌else◌, not, ◌==◌, filter}
use Rattle.std.specs.List.{list_any}
use Rattle.std.proofs.lemmas.Bool.{eqb-true}
use Rattle.std.proofs.lemmas.List.Folds.{list_any-append}
use Rattle.std.proofs.lemmas.List.Sums.{sum_by-append, count_by-le-length, length-filter}
use Rattle.session_events.specs.declared.event.Event.{Event}
use Rattle.session_events.specs.declared.event.Answered.{Answered}
use Rattle.session_events.specs.declared.event.Entry.{Entry}
use Rattle.session_events.specs.declared.kind.Kind.{Kind}
use Rattle.session_events.specs.declared.kind.Kind.TheVariants.{Coming, Doing, Drawing, Going}
use Rattle.session_events.specs.Entries.{kind_of, is_coming, is_join, entry_with}
use Rattle.session_events.specs.Legal.{Presence, Away, is_here, presence_after, presence_from}
use Rattle.session_events.specs.Counting.{here_after, here_from, here_among, comings, AreNeverMore}

here_from-append : (here : List ℕ) (a b : List Entry) → here_from here (a ++ b) ≡ here_from (here_from here a) b
here_from-append here [] b = refl
here_from-append here (e ∷ a) b = here_from-append (here_after e.who (kind_of e.event) here) a b

pub here-more : (history : List Entry) (who : ℕ) (event : Event) (answers : List Answered) → here_among (history ++ entry_with who event answers ∷ []) ≡ here_after who (kind_of event) (here_among history)
here-more history who event answers = here_from-append [] history (entry_with who event answers ∷ [])

pub comings-more : (history : List Entry) (who : ℕ) (event : Event) (answers : List Answered) → comings (history ++ entry_with who event answers ∷ []) ≡ comings history + (if is_join event then 1 else 0)
comings-more history who event answers = sum_by-append (λ (e : Entry). if is_join e.event then 1 else 0) history (entry_with who event answers ∷ []) ∙ nothing (comings history) (if is_join event then 1 else 0)
  where
    nothing : (a b : ℕ) → a + (0 + b) ≡ a + b
    nothing a b = omega arith

-- a filtered list is no longer
filtered-few : (p : ℕ → Bool) (xs : List ℕ) → length (filter p xs) ≤ length xs
filtered-few p xs = omega (arith, length-filter p xs, count_by-le-length p xs)

-- only a coming makes more clients be here
pub here-few : (who : ℕ) (kind : Kind) (here : List ℕ) (most : ℕ) → length here ≤ most → (is_coming kind ≡ true → length here + 1 ≤ most) → length (here_after who kind here) ≤ most
here-few who Coming here most few room = let more = room refl in omega (arith, more, length-append here (who ∷ []))
here-few who Doing here most few room = few
here-few who Drawing here most few room = few
here-few who Going here most few room = let less = filtered-few (λ number. not (number == who)) here in omega (arith, few, less)

-- never more were here than may be, and so it stays where one entry more leaves no more here
pub never-more : (most : ℕ) (here : List ℕ) (entries : List Entry) (e : Entry) → AreNeverMore most here entries → length (here_after e.who (kind_of e.event) (here_from here entries)) ≤ most → AreNeverMore most here (entries ++ e ∷ [])
never-more most here [] e few room = (few, room)
never-more most here (x ∷ entries) e few room = (few.0, never-more most (here_after x.who (kind_of x.event) here) entries e few.1 room)

-- no more were here behind a front
pub few-in-front : (most : ℕ) (here : List ℕ) (front rest : List Entry) → AreNeverMore most here (front ++ rest) → length (here_from here front) ≤ most
few-in-front most here [] [] few = few
few-in-front most here [] (x ∷ rest) few = few.0
few-in-front most here (x ∷ front) rest few = few-in-front most (here_after x.who (kind_of x.event) here) front rest few.1

-- nor behind all entries
pub few-behind : (most : ℕ) (here : List ℕ) (entries : List Entry) → AreNeverMore most here entries → length (here_from here entries) ≤ most
few-behind most here [] few = few
few-behind most here (x ∷ entries) few = few-behind most (here_after x.who (kind_of x.event) here) entries few.1

-- whether a number is among some
abbrev has : ℕ → List ℕ → Bool
has who numbers = list_any (λ number. number == who) numbers

-- who is taken out isn't among them, and every other number is as before
without-own : (who : ℕ) (here : List ℕ) → has who (filter (λ number. not (number == who)) here) ≡ false
without-own who [] = refl
without-own who (x ∷ here) = by (x == who) refl (without-own who here)
  where
    by : (t : Bool) → (x == who) ≡ t → has who (filter (λ number. not (number == who)) here) ≡ false → has who (if not t then x ∷ filter (λ number. not (number == who)) here else filter (λ number. not (number == who)) here) ≡ false
    by true e f = f
    by false e f = ap (λ (t : Bool). t || has who (filter (λ number. not (number == who)) here)) e ∙ f

without-other : (who other : ℕ) (here : List ℕ) → (other == who) ≡ false → has who (filter (λ number. not (number == other)) here) ≡ has who here
without-other who other [] d = refl
without-other who other (x ∷ here) d = by (x == other) refl (without-other who other here d)
  where
    by : (t : Bool) → (x == other) ≡ t → has who (filter (λ number. not (number == other)) here) ≡ has who here → has who (if not t then x ∷ filter (λ number. not (number == other)) here else filter (λ number. not (number == other)) here) ≡ ((x == who) || has who here)
    by true e f = f ∙ sym (ap (λ (t : Bool). t || has who here) (ap (λ (n : ℕ). n == who) (eqb-true x other e) ∙ d))
    by false e f = ap (λ (t : Bool). (x == who) || t) f

module _ (who : ℕ) where
  -- a number is among those that are here where its client is here
  here-step : (other : ℕ) (kind : Kind) (here : List ℕ) (p : Presence) → has who here ≡ is_here p → has who (here_after other kind here) ≡ is_here (if other == who then presence_after kind p else p)
  here-step other Coming here p h = list_any-append (λ number. number == who) here (other ∷ []) ∙ by (other == who) (has who here) h
    where
      by : (t q : Bool) → q ≡ is_here p → (q || (t || false)) ≡ is_here (if t then presence_after Coming p else p)
      by true true e = refl
      by true false e = refl
      by false true e = e
      by false false e = e
  here-step other Doing here p h = by (other == who)
    where
      by : (t : Bool) → has who here ≡ is_here (if t then p else p)
      by true = h
      by false = h
  here-step other Drawing here p h = by (other == who)
    where
      by : (t : Bool) → has who here ≡ is_here (if t then p else p)
      by true = h
      by false = h
  here-step other Going here p h = by (other == who) refl
    where
      by : (t : Bool) → (other == who) ≡ t → has who (filter (λ number. not (number == other)) here) ≡ is_here (if t then presence_after Going p else p)
      by true e = ap (λ (k : ℕ). has who (filter (λ number. not (number == k)) here)) (eqb-true other who e) ∙ without-own who here
      by false e = without-other who other here e ∙ h

  here-along : (here : List ℕ) (p : Presence) (entries : List Entry) → has who here ≡ is_here p → has who (here_from here entries) ≡ is_here (presence_from who p entries)
  here-along here p [] h = h
  here-along here p (e ∷ entries) h = here-along (here_after e.who (kind_of e.event) here) (if e.who == who then presence_after (kind_of e.event) p else p) entries (here-step e.who (kind_of e.event) here p h)

  pub here-present : (history : List Entry) → list_any (λ number. number == who) (here_among history) ≡ is_here (presence_from who Away history)
  here-present history = here-along [] Away history refl
