-- Beginnings of a history, and the entries of one maker in them.
use Rattle.std.proofs.Common.{⊎_elim, inl, inr, Some, None, ◌≡◌, ◌≢◌, ℕ, ◌<◌, ◌≤◌, ◌==◌, Bool, true, false, nat_lt, List, [], ◌∷◌, ◌++◌, length, All, sym, refl, ap, ◌∙◌, arith, max, ltb-true, ltb-false, Option, append-nil, append_assoc, length-append, eq-eqb, ne_eqb, cond}
use Rattle.std.proofs.lemmas.List.{append_cancel_left}
use Rattle.std.proofs.lemmas.List.Elements.{filter-append, All-head, All-tail, All-weaker}
use Rattle.session_turns.specs.Growth.{Begins}
use Rattle.session_desk.specs.Histories.{longer, entries_by, Met, first_mark, GivenBack, HasMet}

module _ {E : Type 0} where
  pub starts_itself : (l : List E) → Begins l l
  starts_itself l = ([], sym (append-nil l))

  pub starts_more : (l m : List E) → Begins (l ++ m) l
  starts_more l m = (m, refl)

  pub starts_through : (c b a : List E) → Begins c b → Begins b a → Begins c a
  starts_through c b a p q = (q.0 ++ p.0, p.1 ∙ (ap (λ z. z ++ p.0) q.1 ∙ append_assoc a q.0 p.0))

  pub starts_same : (c b a : List E) → c ≡ b → Begins b a → Begins c a
  starts_same c b a e p = (p.0, e ∙ p.1)

  front : (a b r s : List E) → a ++ r ≡ b ++ s → length a ≤ length b → Begins b a
  front [] b r s e h = (b, refl)
  front (x ∷ xs) [] r s e h = absurd (omega arith)
  front (x ∷ xs) (y ∷ ys) r s e h = let same : x ≡ y = cc in let tails : xs ++ r ≡ ys ++ s = cc in
      let p : Begins ys xs = front xs ys r s tails (omega arith) in (p.0, λ i. sym same i ∷ p.1 i)

  -- of two beginnings of one list the shorter begins the longer
  pub shorter_begins : (h a b : List E) → Begins h a → Begins h b → length a ≤ length b → Begins b a
  shorter_begins h a b p q l = front a b p.0 q.0 (sym p.1 ∙ q.1) l

  by_longer : (a b : List E) (P : List E → Type 0) → (length a < length b → P b) → (length b ≤ length a → P a) → P (longer a b)
  by_longer a b P f g = go (nat_lt (length a) (length b)) refl
    where
      go : (t : Bool) → nat_lt (length a) (length b) ≡ t → P (cond t b a)
      go true e = f (ltb-true (length a) (length b) e)
      go false e = g (ltb-false (length a) (length b) e)

  pub begins_longer : (h a b : List E) → Begins h a → Begins h b → Begins h (longer a b)
  begins_longer h a b p q = by_longer a b (λ z. Begins h z) (λ _. q) (λ _. p)

  -- the longer of two beginnings begins with each
  pub longer_begins_first : (h a b : List E) → Begins h a → Begins h b → Begins (longer a b) a
  longer_begins_first h a b p q = by_longer a b (λ z. Begins z a) (λ l. shorter_begins h a b p q (omega arith)) (λ _. starts_itself a)

  pub longer_begins_second : (h a b : List E) → Begins h a → Begins h b → Begins (longer a b) b
  longer_begins_second h a b p q = by_longer a b (λ z. Begins z b) (λ _. starts_itself b) (λ l. shorter_begins h b a q p l)

  pub length-longer : (a b : List E) → length (longer a b) ≡ max (length a) (length b)
  length-longer a b = by_longer a b (λ z. length z ≡ max (length a) (length b)) (λ l. omega arith) (λ l. omega arith)

  pub front_length : (h a : List E) → Begins h a → length a ≤ length h
  front_length h a p = omega (arith, ap length p.1, length-append a p.0)

  no_parts : (a b : List E) → a ++ b ≡ [] → (a ≡ []) × (b ≡ [])
  no_parts [] b e = (refl, e)
  no_parts (x ∷ xs) b e = absurd (let t : length (x ∷ (xs ++ b)) ≡ 0 = ap length e in omega arith)

module _ {E : Type 0} (maker : E → ℕ) where
  own_split : (n : ℕ) (h a : List E) (p : Begins h a) → entries_by maker n h ≡ entries_by maker n a ++ entries_by maker n p.0
  own_split n h a p = ap (entries_by maker n) p.1 ∙ filter-append (λ e. maker e == n) a p.0

  -- what came after a list that has all of a maker's entries has none of them
  pub none_between : (n : ℕ) (h a : List E) (p : Begins h a) → entries_by maker n h ≡ entries_by maker n a → entries_by maker n p.0 ≡ []
  none_between n h a p e = append_cancel_left (entries_by maker n a) (entries_by maker n p.0) [] (sym (own_split n h a p) ∙ (e ∙ sym (append-nil (entries_by maker n a))))

  -- a list between two with the same own entries has the same
  pub own_squeezed : (n : ℕ) (h l g : List E) → Begins h l → Begins l g → entries_by maker n h ≡ entries_by maker n g → entries_by maker n l ≡ entries_by maker n g
  own_squeezed n h l g p q e =
      let t : entries_by maker n g ++ (entries_by maker n q.0 ++ entries_by maker n p.0) ≡ entries_by maker n g ++ [] =
      sym (append_assoc (entries_by maker n g) (entries_by maker n q.0) (entries_by maker n p.0)) ∙ (ap (λ z. z ++ entries_by maker n p.0) (sym (own_split n l g q)) ∙ (sym (own_split n h l p) ∙ (e ∙ sym (append-nil (entries_by maker n g))))) in
      let none = (no_parts (entries_by maker n q.0) (entries_by maker n p.0) (append_cancel_left (entries_by maker n g) (entries_by maker n q.0 ++ entries_by maker n p.0) [] t)).0 in
      own_split n l g q ∙ (ap (λ z. entries_by maker n g ++ z) none ∙ append-nil (entries_by maker n g))

  own_of : (b : Bool) → E → List E
  own_of b e = cond b (e ∷ []) []

  pub own_one : (n : ℕ) (xs : List E) (e : E) → maker e ≡ n → entries_by maker n (xs ++ e ∷ []) ≡ entries_by maker n xs ++ e ∷ []
  unfolding own_of
  own_one n xs e is = filter-append (λ x. maker x == n) xs (e ∷ []) ∙ ap (λ (b : Bool). entries_by maker n xs ++ own_of b e) (eq-eqb (maker e) n is)

  pub own_other : (n : ℕ) (xs : List E) (e : E) → maker e ≢ n → entries_by maker n (xs ++ e ∷ []) ≡ entries_by maker n xs
  unfolding own_of
  own_other n xs e other = filter-append (λ x. maker x == n) xs (e ∷ []) ∙ (ap (λ (b : Bool). entries_by maker n xs ++ own_of b e) (ne_eqb (maker e) n other) ∙ append-nil (entries_by maker n xs))

  -- a number from the count on has no entry
  pub own_beyond : (n made : ℕ) (xs : List E) → All (λ e. maker e < made) xs → made ≤ n → entries_by maker n xs ≡ []
  own_beyond n made [] h l = refl
  own_beyond n made (x ∷ xs) h l =
      let low : maker x < made = All-head (λ e. maker e < made) x xs h in let rest = own_beyond n made xs (All-tail (λ e. maker e < made) x xs h) l in
      ap (λ (b : Bool). cond b (x ∷ entries_by maker n xs) (entries_by maker n xs)) (ne_eqb (maker x) n (λ e. omega arith)) ∙ rest

  pub own_none : (n : ℕ) (h a : List E) → Begins h a → entries_by maker n h ≡ [] → entries_by maker n a ≡ []
  own_none n h a p e = (no_parts (entries_by maker n a) (entries_by maker n p.0) (sym (own_split n h a p) ∙ e)).0

pub met_first : (a b m : Option ℕ) → Met a m → Met b m → Met (first_mark a b) m
met_first (Some k) b m p q = p
met_first None b m p q = q

pub met_through : (a b m : Option ℕ) → Met a b → Met b m → Met a m
met_through a b m p q = ⊎_elim (λ (none : a ≡ None). inl none) (λ (is : a ≡ b). ⊎_elim (λ (none : b ≡ None). inl (is ∙ none)) (λ (same : b ≡ m). inr (is ∙ same)) q) p

pub first_is_kept : (a b : Option ℕ) → Met a (first_mark a b)
first_is_kept (Some k) b = inr refl
first_is_kept None b = inl refl

pub second_is_kept : (a b m : Option ℕ) → Met a m → Met b m → Met b (first_mark a b)
second_is_kept (Some k) b m p q = ⊎_elim (λ (none : Some k ≡ None). cc) (λ (is : Some k ≡ m). ⊎_elim (λ (none : b ≡ None). inl none) (λ (same : b ≡ m). inr (same ∙ sym is)) q) p
second_is_kept None b m p q = inr refl

-- those given back had met a later mark too
pub marks_later : {E : Type 0} (m m' : Option ℕ) (gs : List (GivenBack E)) → Met m m' → All (HasMet m) gs → All (HasMet m') gs
marks_later m m' gs met all = All-weaker (HasMet m) (HasMet m') (λ g x. met_through g.2 m m' x met) gs all
