-- The numbers that have joined, behind one more event.
use Rattle.std.proofs.Common.{◌≡◌, ℕ, Bool, true, false, ◌==◌, ◌||◌, ◌&&◌, ◌<◌, cond, List, [], ◌∷◌, ◌++◌, refl, arith, sym, ap, ◌∙◌, None, Some}
use Rattle.std.specs.declared.option.Option.{Option}
use Rattle.std.specs.Ordering.{nat_cmp, is_eq}
use Rattle.std.specs.BTreeSet.{BTreeSet, contains, Updates, IsEmpty}
use Rattle.std.specs.List.{list_any}
use Rattle.std.specs.Prelude.{nat_lt}
use Rattle.std.proofs.lemmas.Bool.{eqb-true, ltb-true}
use Rattle.std.proofs.lemmas.List.Folds.{list_any-append}
use Rattle.session_events.specs.declared.event.Event.{Event}
use Rattle.session_events.specs.declared.event.Event.TheVariants.{Leave}
use Rattle.session_events.specs.declared.event.Entry.{Entry}
use Rattle.session_events.specs.Entries.{is_join, is_join_of, has_joined, entry_of}
use Rattle.kak_engine.specs.Joined.{NotesComing, KnowsJoined}

or-false : (a : Bool) → (a || false) ≡ a
or-false true = refl
or-false false = refl

or-turn : (a b : Bool) → (a || b) ≡ (b || a)
or-turn true true = refl
or-turn true false = refl
or-turn false true = refl
or-turn false false = refl

cond-or : (a b : Bool) → cond a true b ≡ (a || b)
cond-or true b = refl
cond-or false b = refl

and-true : (a : Bool) → (a && true) ≡ a
and-true true = refl
and-true false = refl

and-none : (a b : Bool) → ((a && false) || b) ≡ b
and-none true b = refl
and-none false b = refl

-- numbers compare as equal where they are the same
at-same : (a b : ℕ) → is_eq (nat_cmp a b) ≡ (a == b)
at-same a b = by (nat_lt a b) (a == b) refl refl
  where
    by : (t e : Bool) → nat_lt a b ≡ t → (a == b) ≡ e → is_eq (nat_cmp a b) ≡ (a == b)
    by true true f g = absurd (let less : a < b = ltb-true a b f in let same : a ≡ b = eqb-true a b g in omega (arith, less, same))
    by true false f g = rw (f, g) refl
    by false true f g = rw (f, g) refl
    by false false f g = rw (f, g) refl

-- a number that was put in
pub notes-one : (who : ℕ) (event : Event) (old new : BTreeSet ℕ) → is_join event ≡ true → Updates nat_cmp old new who true → NotesComing who event old new
notes-one who event old new comes u = λ q.
    u.0 q
    ∙ ap (λ t. cond t true (contains nat_cmp old q)) (at-same who q)
    ∙ cond-or (who == q) (contains nat_cmp old q)
    ∙ ap (λ t. t || contains nat_cmp old q) (sym (and-true (who == q)) ∙ ap (λ t. (who == q) && t) (sym comes))

-- and an event that is no coming
pub notes-none : (who : ℕ) (event : Event) (joined : BTreeSet ℕ) → is_join event ≡ false → NotesComing who event joined joined
notes-none who event joined other = λ q. sym (ap (λ t. ((who == q) && t) || contains nat_cmp joined q) other ∙ and-none (who == q) (contains nat_cmp joined q))

-- one more entry
joined-more : (q who : ℕ) (event : Event) (e : Entry) (history : List Entry) → is_join_of q e ≡ ((who == q) && is_join event) → has_joined q (history ++ e ∷ []) ≡ (((who == q) && is_join event) || has_joined q history)
joined-more q who event e history is =
    list_any-append (is_join_of q) history (e ∷ [])
    ∙ or-turn (has_joined q history) (is_join_of q e || false)
    ∙ ap (λ b. b || has_joined q history) (or-false (is_join_of q e) ∙ is)

-- behind an event whose entry was added
pub knows-more : (mark after : Option ℕ) (old new : BTreeSet ℕ) (history longer : List Entry) (who : ℕ) (event : Event) (e : Entry) → mark ≡ None → KnowsJoined mark old history → NotesComing who event old new
    → ((q : ℕ) → is_join_of q e ≡ ((who == q) && is_join event)) → longer ≡ history ++ e ∷ [] → KnowsJoined after new longer
knows-more mark after old new history longer who event e whole knows notes is k = λ m q.
    notes q ∙ ap (λ b. ((who == q) && is_join event) || b) (knows whole q) ∙ sym (joined-more q who event e history (is q)) ∙ ap (has_joined q) (sym k)

-- and behind a going
pub knows-left : (mark after : Option ℕ) (joined : BTreeSet ℕ) (history longer : List Entry) (who : ℕ) → mark ≡ None → KnowsJoined mark joined history → longer ≡ history ++ entry_of who Leave ∷ [] → KnowsJoined after joined longer
knows-left mark after joined history longer who whole knows k =
    knows-more mark after joined joined history longer who Leave (entry_of who Leave) whole knows (λ q. sym (and-none (who == q) (contains nat_cmp joined q))) (λ q. refl) k

-- nobody has joined at first
pub knows-first : (mark : Option ℕ) (joined : BTreeSet ℕ) (history : List Entry) → IsEmpty joined → history ≡ [] → KnowsJoined mark joined history
knows-first mark joined history none k = λ m q. ap (list_any (λ k. is_eq (nat_cmp q k))) none ∙ ap (has_joined q) (sym k)

-- an engine that is broken knows none
pub knows-broken : (at : ℕ) (joined : BTreeSet ℕ) (history : List Entry) → KnowsJoined (Some at) joined history
knows-broken at joined history = λ m. cc
