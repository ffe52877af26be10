-- A pass that is made, and one that is given back.
use Rattle.std.proofs.Common.{◌≡◌, ◌≢◌, ℕ, ◌+◌, ◌-◌, ◌<◌, false, List, [], ◌∷◌, ◌++◌, length, set, All, AllPairs, sym, refl, ap, ◌∙◌, subst, inl, ⊎_elim, arith, Option, length-set, length-append, None}
use Rattle.std.proofs.lemmas.Bool.{false≢true}
use Rattle.std.proofs.lemmas.List.Elements.{All-weaker, All-nil, All-push}
use Rattle.std.proofs.lemmas.List.Quantifiers.{all_pairs_push}
use mathlib.Core.Logic.{dite}
use mathlib.Core.Option.{some}
use mathlib.Core.Option as maybe
use native.Mathlib.Decide.{ℕ_discrete}
use lib.ListN.{get_elem?}
use Rattle.atomic_table.specs.Table.{State, Splits, Joins}
use Rattle.atomic_table.proofs.Lists.{set_here, set_else, at_longer}
use Rattle.session_desk.specs.declared.rule.Role.{Role}
use Rattle.session_desk.specs.declared.rule.Role.TheVariants.{Admits, Plays, Spent}
use Rattle.session_desk.specs.declared.rule.View.{View}
use Rattle.session_desk.specs.Histories.{longer, entries_by, first_mark, GivenBack, given_number, HasMet, HasOtherNumber}
use Rattle.session_desk.specs.Rule.{is_live, pass_weight, pass_count, Facts, Knows, SameOwn, Balance, Returned, SeatFits, IsRuleKept, spent_view, more_out, fewer_out, next_pass, given_by_role, admitting, admitted, taking_back}
use Rattle.session_desk.proofs.HistoryLemmas.{begins_longer, longer_begins_first, longer_begins_second, own_beyond, own_none, met_first, marks_later, first_is_kept, second_is_kept}
use Rattle.session_desk.proofs.SeatLemmas.{put, put_here, put_else, put_same, within, at_end, passes_set, passes_end, passes_at, seats_stay, held_stays, returned_seen}

-- the facts once one more pass is made, at the seat q
abbrev one_more : {E : Type 0} → Facts E → ℕ → Facts E
one_more d q = record { history = d.history; mark = d.mark; turn = d.turn; holder = d.holder; made = d.made + 1; out = d.out + 1; seat_of = put d.seat_of d.made q }

-- the facts once the pass n is back
abbrev one_back : {E : Type 0} → Facts E → ℕ → Facts E
one_back d n = record { history = d.history; mark = d.mark; turn = d.turn; holder = d.holder; made = d.made; out = d.out - 1; seat_of = put d.seat_of n 0 }

-- a seat other than the keeper's, once one more pass is made
knows_more : (made out : ℕ) (seat_of : ℕ → ℕ) (q j : ℕ) (role : Role) → j ≢ 0 → Knows made out seat_of j role → Knows (made + 1) (out + 1) (put seat_of made q) j role
knows_more made out seat_of q j (Admits m k) other knows = absurd (other knows.2)
knows_more made out seat_of q j (Plays n) other knows = let low = knows.0 in (omega arith, put_else seat_of made q n (λ e. omega arith) ∙ knows.1, knows.2)
knows_more made out seat_of q j Spent other knows = tt

-- a seat that is neither the keeper's nor that of the pass n, once this is back
knows_back : (made out : ℕ) (seat_of : ℕ → ℕ) (n q j : ℕ) (role : Role) → j ≢ 0 → j ≢ q → seat_of n ≡ q → Knows made out seat_of j role → Knows made (out - 1) (put seat_of n 0) j role
knows_back made out seat_of n q j (Admits m k) other apart is knows = absurd (other knows.2)
knows_back made out seat_of n q j (Plays k) other apart is knows = (knows.0, put_else seat_of n 0 k (λ e. apart (sym knows.1 ∙ (ap seat_of e ∙ is))) ∙ knows.1, knows.2)
knows_back made out seat_of n q j Spent other apart is knows = tt

module _ {E : Type 0} (maker : E → ℕ) where
  returned_more : (h : List E) (made : ℕ) (seat_of : ℕ → ℕ) (q : ℕ) (seen : List E) (gs : List (GivenBack E)) → All (Returned maker h made seat_of seen) gs → All (Returned maker h (made + 1) (put seat_of made q) seen) gs
  returned_more h made seat_of q seen gs all = All-weaker (Returned maker h made seat_of seen) (Returned maker h (made + 1) (put seat_of made q) seen)
      (λ g x. let low = x.made_before in record {
        made_before = omega arith;
        is_back = put_else seat_of made q (given_number g) (λ e. omega arith) ∙ x.is_back;
        begins = x.begins;
        own_entries = x.own_entries;
      }) gs all

  returned_back : (h : List E) (made : ℕ) (seat_of : ℕ → ℕ) (n : ℕ) (seen : List E) (gs : List (GivenBack E)) → All (Returned maker h made seat_of seen) gs → All (Returned maker h made (put seat_of n 0) seen) gs
  returned_back h made seat_of n seen gs all = All-weaker (Returned maker h made seat_of seen) (Returned maker h made (put seat_of n 0) seen)
      (λ g x. record { made_before = x.made_before; is_back = put_same seat_of n 0 (given_number g) x.is_back; begins = x.begins; own_entries = x.own_entries }) gs all

module _ {O E F : Type 0} (entries : O → List E) (maker : E → ℕ) (marked : O → Option ℕ) (frame_of : O → F) (frame : F) where
  abbrev Rule : State (Option O) (View E F) → Type 0
  Rule = IsRuleKept entries maker marked frame_of frame

  other_more : (d : Facts E) (q j : ℕ) (v : View E F) → j ≢ 0 → SeatFits maker frame d j v → SeatFits maker frame (one_more d q) j v
  other_more d q j v other f = record {
    begins = f.begins;
    framed = f.framed;
    met = f.met;
    live = f.live;
    holding = λ h. let t = f.holding h in record { turn = t.turn; holder = t.holder; history = t.history; mark = t.mark };
    knows = knows_more d.made d.out d.seat_of q j v.role other f.knows;
    same_own = f.same_own;
    balance = f.balance;
    differ = f.differ;
    returned = returned_more maker d.history d.made d.seat_of q v.seen v.given f.returned;
    marks = f.marks;
    earlier = f.earlier;
  }

  keeper_more : (d : Facts E) (q id : ℕ) (v : View E F) (m k : ℕ) → v.role ≡ Admits m k → SeatFits maker frame d id v → SeatFits maker frame (one_more d q) id (admitting v)
  keeper_more d q id v m k is f = let knows : Knows d.made d.out d.seat_of id (Admits m k) = subst (Knows d.made d.out d.seat_of id) is f.knows in
      let balance : k + length v.given ≡ m = subst (λ (x : Role). Balance x v.given) is f.balance in
      let now : more_out v.role ≡ Admits (m + 1) (k + 1) = ap more_out is in record {
        begins = f.begins;
        framed = λ _. f.framed (ap is_live is);
        met = f.met;
        live = λ h. absurd (false≢true h);
        holding = λ h. absurd (false≢true h);
        knows = subst (Knows (d.made + 1) (d.out + 1) (put d.seat_of d.made q) id) (sym now) (ap (λ (x : ℕ). x + 1) knows.0, ap (λ (x : ℕ). x + 1) knows.1, knows.2);
        same_own = subst (λ (x : Role). SameOwn maker x d.history v.seen) (sym now) tt;
        balance = subst (λ (x : Role). Balance x v.given) (sym now) (omega arith);
        differ = f.differ;
        returned = returned_more maker d.history d.made d.seat_of q v.seen v.given f.returned;
        marks = f.marks;
        earlier = f.earlier;
      }

  pass_made : (d : Facts E) (q id : ℕ) (v : View E F) (m k : ℕ) → 0 < q → All (λ e. maker e < d.made) d.history → v.role ≡ Admits m k → SeatFits maker frame d id v → SeatFits maker frame (one_more d q) q (admitted v)
  pass_made d q id v m k high numbers is f = let knows : Knows d.made d.out d.seat_of id (Admits m k) = subst (Knows d.made d.out d.seat_of id) is f.knows in
      let made = knows.0 in let now : next_pass v.role ≡ Plays m = ap next_pass is in let bare = own_beyond maker m d.made d.history numbers (omega arith) in record {
        begins = f.begins;
        framed = λ _. f.framed (ap is_live is);
        met = f.met;
        live = λ h. absurd (false≢true h);
        holding = λ h. absurd (false≢true h);
        knows = subst (Knows (d.made + 1) (d.out + 1) (put d.seat_of d.made q) q) (sym now) (omega arith, put_here d.seat_of d.made q m made, high);
        same_own = subst (λ (x : Role). SameOwn maker x d.history v.seen) (sym now) (bare ∙ sym (own_none maker m d.history v.seen f.begins bare));
        balance = subst (λ (x : Role). Balance {E = E} x []) (sym now) tt;
        differ = λ i j g _ l. absurd (omega arith);
        returned = All-nil (Returned maker d.history (d.made + 1) (put d.seat_of d.made q) v.seen);
        marks = All-nil (HasMet v.mark);
        earlier = (v.seen, refl);
      }

  -- a pass is made
  pub splits_kept : (id : ℕ) (v : View E F) (m k : ℕ) → v.role ≡ Admits m k → v.holds ≡ false → Splits Rule id v (admitting v) (admitted v)
  splits_kept id v m k is idle s r at = let d = r.facts in let mine = r.each_seat id v at in let q : ℕ = length s.views in let high = within s.views id v at in
      let knows : Knows d.made d.out d.seat_of id (Admits m k) = subst (Knows d.made d.out d.seat_of id) is mine.knows in
      let left : View E F = admitting v in let right : View E F = admitted v in let d' : Facts E = one_more d q in
      let count = passes_set s.views id v left at in let end = passes_end (set s.views id left) right in
      let w₁ : pass_weight v.role ≡ 0 = ap pass_weight is in let w₂ : pass_weight left.role ≡ 0 = ap (λ (x : Role). pass_weight (more_out x)) is in
      let w₃ : pass_weight right.role ≡ 1 = ap (λ (x : Role). pass_weight (next_pass x)) is in let was = r.counted in record {
        facts = d';
        words = r.words;
        one_slot = r.one_slot;
        free_or_held = r.free_or_held;
        at_home = λ z. let h = r.at_home z in record { object = h.object; home = h.home; entries_are = h.entries_are; mark_is = h.mark_is; frame_is = h.frame_is };
        held = λ z. let h = held_stays s.views d.holder id v left (r.held z) at idle in
            record { view = h.view; there = at_longer (set s.views id left) (right ∷ []) d.holder h.view h.there; holds = h.holds };
        numbers = All-weaker (λ e. maker e < d.made) (λ e. maker e < d.made + 1) (λ e low. omega arith) d.history r.numbers;
        counted = let t : pass_count (set s.views id left ++ right ∷ []) ≡ d.out + 1 = omega arith in t;
        each_seat = λ j x e. ⊎_elim
            (λ (t : get_elem? (set s.views id left) j ≡ some x). seats_stay (SeatFits maker frame d') s.views id left (keeper_more d q id v m k is mine)
            (λ i y other there. other_more d q i y (λ z. other (z ∙ sym knows.2)) (r.each_seat i y there)) j x t)
            (λ (t : (j ≡ length (set s.views id left)) × (right ≡ x)). subst (λ (p : ℕ × View E F). SeatFits maker frame d' p.0 p.1) (λ i. (sym (t.0 ∙ length-set s.views id left) i, t.1 i))
            (pass_made d q id v m k (omega arith) r.numbers is mine))
            (at_end (set s.views id left) right x j e);
      }

  other_back : (d : Facts E) (n q j : ℕ) (v : View E F) → j ≢ 0 → j ≢ q → d.seat_of n ≡ q → SeatFits maker frame d j v → SeatFits maker frame (one_back d n) j v
  other_back d n q j v other apart is f = record {
    begins = f.begins;
    framed = f.framed;
    met = f.met;
    live = f.live;
    holding = λ h. let t = f.holding h in record { turn = t.turn; holder = t.holder; history = t.history; mark = t.mark };
    knows = knows_back d.made d.out d.seat_of n q j v.role other apart is f.knows;
    same_own = f.same_own;
    balance = f.balance;
    differ = f.differ;
    returned = returned_back maker d.history d.made d.seat_of n v.seen v.given f.returned;
    marks = f.marks;
    earlier = f.earlier;
  }

  spent_fits : (d : Facts E) (j : ℕ) → SeatFits maker frame d j spent_view
  spent_fits d j = record {
    begins = (d.history, refl);
    framed = λ h. absurd (false≢true h);
    met = inl refl;
    live = λ h. absurd (false≢true h);
    holding = λ h. absurd (false≢true h);
    knows = tt;
    same_own = tt;
    balance = tt;
    differ = λ a b g _ l. absurd (omega arith);
    returned = All-nil (Returned maker d.history d.made d.seat_of []);
    marks = All-nil (HasMet None);
    earlier = ([], refl);
  }

  keeper_back : (d : Facts E) (id : ℕ) (v : View E F) (m k : ℕ) (q : ℕ) (w : View E F) (n : ℕ) → v.role ≡ Admits m k → w.role ≡ Plays n → 0 < d.out → SeatFits maker frame d id v → SeatFits maker frame d q w
      → SeatFits maker frame (one_back d n) id (taking_back v w)
  keeper_back d id v m k q w n is also some_out f o = let knows : Knows d.made d.out d.seat_of id (Admits m k) = subst (Knows d.made d.out d.seat_of id) is f.knows in
      let theirs : Knows d.made d.out d.seat_of q (Plays n) = subst (Knows d.made d.out d.seat_of q) also o.knows in let high = theirs.2 in let out_is = knows.1 in
      let balance : k + length v.given ≡ m = subst (λ (x : Role). Balance x v.given) is f.balance in
      let own_is : entries_by maker n d.history ≡ entries_by maker n w.seen = subst (λ (x : Role). SameOwn maker x d.history w.seen) also o.same_own in
      let now : fewer_out v.role ≡ Admits m (k - 1) = ap fewer_out is in let seen : List E = longer v.seen w.seen in let back : GivenBack E = (n, w.seen, w.mark) in
      let gives : given_by_role w.role w.seen w.mark ≡ back ∷ [] = ap (λ (x : Role). given_by_role x w.seen w.mark) also in let mark : Option ℕ = first_mark v.mark w.mark in
      let first = longer_begins_first d.history v.seen w.seen f.begins o.begins in
      let all = returned_seen maker d.history d.made (put d.seat_of n 0) v.seen seen first v.given (returned_back maker d.history d.made d.seat_of n v.seen v.given f.returned) in record {
        begins = begins_longer d.history v.seen w.seen f.begins o.begins;
        framed = λ _. f.framed (ap is_live is);
        met = met_first v.mark w.mark d.mark f.met o.met;
        live = λ h. absurd (false≢true h);
        holding = λ h. absurd (false≢true h);
        knows = subst (Knows d.made (d.out - 1) (put d.seat_of n 0) id) (sym now) (knows.0, ap (λ (x : ℕ). x - 1) out_is, knows.2);
        same_own = subst (λ (x : Role). SameOwn maker x d.history seen) (sym now) tt;
        balance = subst (λ (p : Role × List (GivenBack E)). Balance p.0 (v.given ++ p.1)) (λ i. (sym now i, sym gives i)) (let t : (k - 1) + length (v.given ++ back ∷ []) ≡ m = omega (arith, length-append v.given (back ∷ [])) in t);
        differ = subst (λ (gs : List (GivenBack E)). AllPairs HasOtherNumber (v.given ++ gs)) (sym gives) (all_pairs_push HasOtherNumber v.given back f.differ
            (λ i g l e. let x = f.returned i g l in let t : 0 ≡ q = sym x.is_back ∙ (ap d.seat_of e ∙ theirs.1) in omega arith));
        returned = subst (λ (gs : List (GivenBack E)). All (Returned maker d.history d.made (put d.seat_of n 0) seen) (v.given ++ gs)) (sym gives)
            (All-push (Returned maker d.history d.made (put d.seat_of n 0) seen) v.given back all
            record { made_before = theirs.0; is_back = put_here d.seat_of n 0 n refl; begins = longer_begins_second d.history v.seen w.seen f.begins o.begins; own_entries = own_is });
        marks = subst (λ (gs : List (GivenBack E)). All (HasMet mark) (v.given ++ gs)) (sym gives)
            (All-push (HasMet mark) v.given back (marks_later v.mark mark v.given (first_is_kept v.mark w.mark) f.marks) (second_is_kept v.mark w.mark d.mark f.met o.met));
        earlier = first;
      }

  -- a pass is given back
  pub joins_kept : (id : ℕ) (v : View E F) (m k : ℕ) → v.role ≡ Admits m k → v.holds ≡ false → (q : ℕ) (w : View E F) (n : ℕ) → w.role ≡ Plays n → w.holds ≡ false
      → Joins Rule id v q w (taking_back v w) spent_view
  joins_kept id v m k is idle q w n also rests s r at apart there = let d = r.facts in let mine = r.each_seat id v at in let both : View E F = taking_back v w in
      let at_q : get_elem? s.views q ≡ some w = sym (set_else s.views id q both apart) ∙ there in let theirs = r.each_seat q w at_q in
      let knows : Knows d.made d.out d.seat_of id (Admits m k) = subst (Knows d.made d.out d.seat_of id) is mine.knows in
      let known : Knows d.made d.out d.seat_of q (Plays n) = subst (Knows d.made d.out d.seat_of q) also theirs.knows in
      let d' : Facts E = one_back d n in let vs : List (View E F) = set s.views id both in
      let count = passes_set s.views id v both at in let counts = passes_set vs q w spent_view there in let weight = passes_at s.views q w at_q in
      let w₁ : pass_weight v.role ≡ 0 = ap pass_weight is in let w₂ : pass_weight both.role ≡ 0 = ap (λ (x : Role). pass_weight (fewer_out x)) is in
      let w₃ : pass_weight w.role ≡ 1 = ap pass_weight also in let was = r.counted in record {
        facts = d';
        words = r.words;
        one_slot = r.one_slot;
        free_or_held = r.free_or_held;
        at_home = λ z. let h = r.at_home z in record { object = h.object; home = h.home; entries_are = h.entries_are; mark_is = h.mark_is; frame_is = h.frame_is };
        held = λ z. held_stays vs d.holder q w spent_view (held_stays s.views d.holder id v both (r.held z) at idle) there rests;
        numbers = r.numbers;
        counted = let t : pass_count (set vs q spent_view) ≡ d.out - 1 = omega arith in t;
        each_seat = seats_stay (SeatFits maker frame d') vs q spent_view (spent_fits d' q)
            (λ j x other e. dite (ℕ_discrete j id)
            (λ (here : j ≡ id). subst (λ (p : ℕ × View E F). SeatFits maker frame d' p.0 p.1) (λ i. (sym here i, same_there s.views id j both x here (within s.views id v at) e i))
            (keeper_back d id v m k q w n is also (omega arith) mine theirs))
            (λ away. other_back d n q j x (λ z. away (z ∙ sym knows.2)) other known.1 (r.each_seat j x (sym (set_else s.views id j both away) ∙ e))));
      }
    where
      same_there : (l : List (View E F)) (i j : ℕ) (a b : View E F) → j ≡ i → i < length l → get_elem? (set l i a) j ≡ some b → a ≡ b
      same_there l i j a b e inside p = maybe.some-injective a b (sym (set_here l i a inside) ∙ (ap (get_elem? (set l i a)) (sym e) ∙ p))
