-- Lists of views, and what one seat's view says after a step.
use Rattle.std.proofs.Common.{◌≡◌, ◌≢◌, ℕ, zero, suc, ◌+◌, ◌<◌, ◌≤◌, true, false, List, [], ◌∷◌, ◌++◌, length, set, All, sym, refl, ap, ◌∙◌, subst, inl, inr, ⊎_elim, ◌⊎◌, arith, Option, Some, None, unwrap_or}
use Rattle.std.proofs.lemmas.Bool.{false≢true}
use Rattle.std.proofs.lemmas.List.Elements.{All-weaker}
use mathlib.Core.Logic.{dite}
use mathlib.Core.Option.{some, some-injective, some-ne-none}
use native.Mathlib.Decide.{ℕ_discrete}
use lib.ListN.{get_elem?}
use Rattle.atomic_table.proofs.Lists.{at_set, set_else}
use Rattle.session_turns.specs.Growth.{Begins}
use Rattle.session_desk.specs.declared.rule.Role.{Role}
use Rattle.session_desk.specs.declared.rule.Role.TheVariants.{Admits, Plays, Spent}
use Rattle.session_desk.specs.declared.rule.View.{View}
use Rattle.session_desk.specs.Histories.{entries_by, AddsOne, Met, MaySetMark, GivenBack, given_number, given_list, HasGiven}
use Rattle.session_desk.specs.Rule.{is_live, pass_weight, pass_count, Facts, Knows, SameOwn, Returned, Holding, SeatFits, IsHeldBy, MayBecome}
use Rattle.session_desk.proofs.HistoryLemmas.{starts_itself, starts_more, starts_through, starts_same, own_other, own_squeezed}

abbrev pick : {P : Type 0} → Dec P → ℕ → ℕ → ℕ
pick (yes _) a b = a
pick (no _) a b = b

-- the function with another value at i
pub put : (ℕ → ℕ) → ℕ → ℕ → ℕ → ℕ
put f i c j = pick (ℕ_discrete j i) c (f j)

pub put_here : (f : ℕ → ℕ) (i c j : ℕ) → j ≡ i → put f i c j ≡ c
unfolding put
put_here f i c j e = go (ℕ_discrete j i)
  where
    go : (d : Dec (j ≡ i)) → pick d c (f j) ≡ c
    go (yes _) = refl
    go (no n) = absurd (n e)

pub put_else : (f : ℕ → ℕ) (i c j : ℕ) → j ≢ i → put f i c j ≡ f j
unfolding put
put_else f i c j other = go (ℕ_discrete j i)
  where
    go : (d : Dec (j ≡ i)) → pick d c (f j) ≡ f j
    go (yes e) = absurd (other e)
    go (no _) = refl

pub put_same : (f : ℕ → ℕ) (i c j : ℕ) → f j ≡ c → put f i c j ≡ c
put_same f i c j e = dite (ℕ_discrete j i) (λ here. put_here f i c j here) (λ other. put_else f i c j other ∙ e)

module _ {A : Type 0} where
  pub within : (l : List A) (i : ℕ) (a : A) → get_elem? l i ≡ some a → i < length l
  within [] i a e = absurd (some-ne-none a (sym e))
  within (x ∷ xs) zero a e = omega arith
  within (x ∷ xs) (suc i) a e = let t = within xs i a e in omega arith

  pub at_end : (l : List A) (a b : A) (j : ℕ) → get_elem? (l ++ a ∷ []) j ≡ some b → (get_elem? l j ≡ some b) ⊎ ((j ≡ length l) × (a ≡ b))
  at_end [] a b zero e = inr (refl, some-injective a b e)
  at_end [] a b (suc j) e = absurd (some-ne-none b (sym e))
  at_end (x ∷ xs) a b zero e = inl e
  at_end (x ∷ xs) a b (suc j) e = ⊎_elim (λ t. inl t) (λ t. inr (let u : suc j ≡ suc (length xs) = ap suc t.0 in u, t.1)) (at_end xs a b j e)

  pub only_one : (l : List A) (a : A) → length l ≡ 1 → set l 0 a ≡ a ∷ []
  only_one [] a e = absurd (omega arith)
  only_one (x ∷ []) a e = refl
  only_one (x ∷ y ∷ ys) a e = absurd (omega arith)

-- the object in hand; u stands in where there is none
abbrev pub hand_or : {O : Type 0} → O → List (ℕ × Option O) → O
hand_or u [] = u
hand_or u (x ∷ xs) = unwrap_or x.1 u

module _ {E F : Type 0} where
  pub passes_set : (vs : List (View E F)) (i : ℕ) (v w : View E F) → get_elem? vs i ≡ some v → pass_count (set vs i w) + pass_weight v.role ≡ pass_count vs + pass_weight w.role
  passes_set [] i v w e = absurd (some-ne-none v (sym e))
  passes_set (x ∷ xs) zero v w e = let t : pass_weight x.role ≡ pass_weight v.role = ap (λ (z : View E F). pass_weight z.role) (some-injective x v e) in omega arith
  passes_set (x ∷ xs) (suc i) v w e = let t = passes_set xs i v w e in omega arith

  pub passes_end : (vs : List (View E F)) (w : View E F) → pass_count (vs ++ w ∷ []) ≡ pass_count vs + pass_weight w.role
  passes_end [] w = omega arith
  passes_end (x ∷ xs) w = let t = passes_end xs w in omega arith

  pub passes_at : (vs : List (View E F)) (i : ℕ) (v : View E F) → get_elem? vs i ≡ some v → pass_weight v.role ≤ pass_count vs
  passes_at [] i v e = absurd (some-ne-none v (sym e))
  passes_at (x ∷ xs) zero v e = let t : pass_weight x.role ≡ pass_weight v.role = ap (λ (z : View E F). pass_weight z.role) (some-injective x v e) in omega arith
  passes_at (x ∷ xs) (suc i) v e = let t = passes_at xs i v e in omega arith

  pub seats_stay : (K : ℕ → View E F → Type 0) (vs : List (View E F)) (me : ℕ) (w : View E F) → K me w → ((j : ℕ) (v : View E F) → j ≢ me → get_elem? vs j ≡ some v → K j v)
      → (j : ℕ) (v : View E F) → get_elem? (set vs me w) j ≡ some v → K j v
  seats_stay K vs me w mine others j v e = ⊎_elim (λ (t : (j ≡ me) × (w ≡ v)). subst (λ (x : ℕ × View E F). K x.0 x.1) (λ i. (sym t.0 i, t.1 i)) mine)
      (λ (t : (j ≢ me) × (get_elem? vs j ≡ some v)). others j v t.0 t.1) (at_set vs me j w v e)

  same_view : (vs : List (View E F)) (i j : ℕ) (v w : View E F) → i ≡ j → get_elem? vs i ≡ some v → get_elem? vs j ≡ some w → v ≡ w
  same_view vs i j v w e p q = some-injective v w (sym p ∙ (ap (get_elem? vs) e ∙ q))

  -- a seat without the turn isn't the holder
  pub not_holder : (vs : List (View E F)) (h i : ℕ) (v : View E F) → (held : IsHeldBy h vs) → get_elem? vs i ≡ some v → v.holds ≡ false → h ≢ i
  not_holder vs h i v held at idle e = false≢true (sym idle ∙ (ap (λ (z : View E F). z.holds) (sym (same_view vs h i held.view v e held.there at)) ∙ held.holds))

  pub held_stays : (vs : List (View E F)) (h i : ℕ) (v w : View E F) → IsHeldBy h vs → get_elem? vs i ≡ some v → v.holds ≡ false → IsHeldBy h (set vs i w)
  held_stays vs h i v w held at idle = record { view = held.view; there = set_else vs i h w (not_holder vs h i v held at idle) ∙ held.there; holds = held.holds }

-- with no pass out, the holder is the keeper
live_keeper : (made out : ℕ) (seat_of : ℕ → ℕ) (seat : ℕ) (role : Role) → is_live role ≡ true → pass_weight role ≡ 0 → Knows made out seat_of seat role → seat ≡ 0
live_keeper made out seat_of seat (Admits m k) live none knows = knows.2
live_keeper made out seat_of seat (Plays n) live none knows = absurd (omega arith)
live_keeper made out seat_of seat Spent live none knows = absurd (false≢true live)

pub met_later : (a m m' : Option ℕ) → Met a m → (m ≡ m') ⊎ (m ≡ None) → Met a m'
met_later a m m' met later = ⊎_elim (λ (none : a ≡ None). inl none)
    (λ (is : a ≡ m). ⊎_elim (λ (same : m ≡ m'). inr (is ∙ same)) (λ (none : m ≡ None). inl (is ∙ none)) later) met

-- the number of another seat's pass isn't that of the seat id
other_number : (made out : ℕ) (seat_of : ℕ → ℕ) (j : ℕ) (role : Role) (n id : ℕ) → seat_of n ≡ id → j ≢ id → Knows made out seat_of j role → (m : ℕ) → role ≡ Plays m → m ≢ n
other_number made out seat_of j (Plays k) n id mine apart knows m is e = let same : k ≡ m = cc in apart (sym knows.1 ∙ (ap seat_of (same ∙ e) ∙ mine))
other_number made out seat_of j (Admits a b) n id mine apart knows m is e = cc
other_number made out seat_of j Spent n id mine apart knows m is e = cc

module _ {E : Type 0} (maker : E → ℕ) where
  pub same_own_itself : (role : Role) (h s : List E) → h ≡ s → SameOwn maker role h s
  same_own_itself (Admits m k) h s e = tt
  same_own_itself (Plays n) h s e = ap (entries_by maker n) e
  same_own_itself Spent h s e = tt

  same_own_later : (role : Role) (h h' s : List E) → ((m : ℕ) → role ≡ Plays m → entries_by maker m h' ≡ entries_by maker m h) → SameOwn maker role h s → SameOwn maker role h' s
  same_own_later (Admits m k) h h' s later same = tt
  same_own_later (Plays n) h h' s later same = later n refl ∙ same
  same_own_later Spent h h' s later same = tt

  -- those given back stand in a longer list too
  pub returned_seen : (h : List E) (made : ℕ) (seat_of : ℕ → ℕ) (seen seen' : List E) → Begins seen' seen → (gs : List (GivenBack E))
      → All (Returned maker h made seat_of seen) gs → All (Returned maker h made seat_of seen') gs
  returned_seen h made seat_of seen seen' more gs all = All-weaker (Returned maker h made seat_of seen) (Returned maker h made seat_of seen')
      (λ g x. record { made_before = x.made_before; is_back = x.is_back; begins = starts_through seen' seen (given_list g) more x.begins; own_entries = x.own_entries }) gs all

  -- what a list that the keeper may see says of those given back
  pub has_given : (h l : List E) (made : ℕ) (seat_of : ℕ → ℕ) (seen : List E) → Begins h l → Begins l seen → (gs : List (GivenBack E))
      → All (Returned maker h made seat_of seen) gs → All (HasGiven maker l) gs
  has_given h l made seat_of seen inside more gs all = All-weaker (Returned maker h made seat_of seen) (HasGiven maker l)
      (λ g x. let begins = starts_through l seen (given_list g) more x.begins in
      record { begins = begins; own_entries = own_squeezed maker (given_number g) h l (given_list g) inside begins x.own_entries }) gs all

  -- the history after the turn of the pass n, which found h and the mark m
  pub record Grows (n : ℕ) (h h' : List E) (m m' : Option ℕ) : Type 0 where
    pub begins : Begins h' h
    pub others : (k : ℕ) → k ≢ n → entries_by maker k h' ≡ entries_by maker k h
    pub mark : (m ≡ m') ⊎ (m ≡ None)

  pub grows : (n : ℕ) (h h' : List E) (m m' : Option ℕ) → MayBecome maker n h m h' m' → Grows n h h' m m'
  grows n h h' m m' may = ⊎_elim
      (λ (t : AddsOne maker n h h' × (m ≡ None) × (m' ≡ None)). let one = t.0 in let e = one.entry in record {
        begins = starts_same h' (h ++ e ∷ []) h one.after_is (starts_more h (e ∷ []));
        others = λ k other. ap (entries_by maker k) one.after_is ∙ own_other maker k h e (λ is. other (sym is ∙ one.maker_is));
        mark = inr t.1;
      })
      (λ (t : (h' ≡ h) × MaySetMark h m m'). record {
        begins = starts_same h' h h t.0 (starts_itself h);
        others = λ k other. ap (entries_by maker k) t.0;
        mark = ⊎_elim (λ (same : m' ≡ m). inl (sym same)) (λ (set_now : (m ≡ None) × (m' ≡ Some (length h))). inr set_now.0) t.1;
      }) may

  pub returned_later : (n id : ℕ) (h h' : List E) (m m' : Option ℕ) (made : ℕ) (seat_of : ℕ → ℕ) (seen : List E) → Grows n h h' m m' → seat_of n ≡ id → 0 < id → (gs : List (GivenBack E))
      → All (Returned maker h made seat_of seen) gs → All (Returned maker h' made seat_of seen) gs
  returned_later n id h h' m m' made seat_of seen more mine apart gs all = All-weaker (Returned maker h made seat_of seen) (Returned maker h' made seat_of seen)
      (λ g x. record {
        made_before = x.made_before;
        is_back = x.is_back;
        begins = x.begins;
        own_entries = more.others (given_number g) (λ e. let t : 0 ≡ id = sym x.is_back ∙ (ap seat_of e ∙ mine) in omega arith) ∙ x.own_entries;
      }) gs all

module _ {E F : Type 0} (maker : E → ℕ) (frame : F) where
  pub keeper_alone : (d : Facts E) (vs : List (View E F)) (id : ℕ) (v : View E F) → pass_count vs ≡ 0 → get_elem? vs id ≡ some v → id ≡ 0 → v.holds ≡ false
      → ((j : ℕ) (x : View E F) → get_elem? vs j ≡ some x → SeatFits maker frame d j x) → IsHeldBy d.holder vs → ⊥
  keeper_alone d vs id v none at first idle each held = let fits = each d.holder held.view held.there in
      let weight = passes_at vs d.holder held.view held.there in let light : pass_weight held.view.role ≡ 0 = omega arith in
      let seat = live_keeper d.made d.out d.seat_of d.holder held.view.role (fits.live held.holds) light fits.knows in
      not_holder vs d.holder id v held at idle (seat ∙ sym first)

  -- a seat's view says the same where only the turn changes
  pub turn_changes : (d : Facts E) (turn holder j : ℕ) (v : View E F)
      → (v.holds ≡ true → Holding record { history = d.history; mark = d.mark; turn = turn; holder = holder; made = d.made; out = d.out; seat_of = d.seat_of } j v)
      → SeatFits maker frame d j v → SeatFits maker frame record { history = d.history; mark = d.mark; turn = turn; holder = holder; made = d.made; out = d.out; seat_of = d.seat_of } j v
  turn_changes d turn holder j v holding f = record {
    begins = f.begins;
    framed = f.framed;
    met = f.met;
    live = f.live;
    holding = holding;
    knows = f.knows;
    same_own = f.same_own;
    balance = f.balance;
    differ = f.differ;
    returned = f.returned;
    marks = f.marks;
    earlier = f.earlier;
  }

  -- another seat's view says the same after the turn of the pass n
  pub others_later : (d : Facts E) (h' : List E) (m' : Option ℕ) (n id j : ℕ) (v : View E F) → Grows maker n d.history h' d.mark m' → d.seat_of n ≡ id → 0 < id → j ≢ id → (v.holds ≡ true → ⊥)
      → SeatFits maker frame d j v → SeatFits maker frame record { history = h'; mark = m'; turn = d.turn; holder = d.holder; made = d.made; out = d.out; seat_of = d.seat_of } j v
  others_later d h' m' n id j v more mine high apart free f = record {
    begins = starts_through h' d.history v.seen more.begins f.begins;
    framed = f.framed;
    met = met_later v.mark d.mark m' f.met more.mark;
    live = f.live;
    holding = λ held. absurd (free held);
    knows = f.knows;
    same_own = same_own_later maker v.role d.history h' v.seen (λ m is. more.others m (other_number d.made d.out d.seat_of j v.role n id mine apart f.knows m is)) f.same_own;
    balance = f.balance;
    differ = f.differ;
    returned = returned_later maker n id d.history h' d.mark m' d.made d.seat_of v.seen more mine high v.given f.returned;
    marks = f.marks;
    earlier = f.earlier;
  }
