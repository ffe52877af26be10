-- A client's trail among all, and a register's mark, at their places.
use Rattle.std.proofs.Common.{◌≡◌, ℕ, suc, ◌<◌, ◌≤◌, List, [], ◌∷◌, ◌++◌, length, get_or, set, cond, refl, sym, ap, ◌∙◌, arith}
use Rattle.std.specs.Prelude.{Some, None, option_map, find}
use Rattle.std.proofs.lemmas.Bool.{eqb-true}
use Rattle.tables.specs.Tables.{place_where, put_where}
use Rattle.tables.proofs.TableLemmas.{by_test, place-passes, put-at, put-past, first-at, first-past}
use Rattle.list_archive.specs.Trails.{Trail, Mark, is_trail_of, no_trail, trail_of, with_trail, is_mark_of, mark_of, marked}

-- a trail that was read at its place

pub trail-read : {A : Type 0} (who : ℕ) (trails : List (Trail A)) (n : ℕ) (t : Trail A) → n ≡ place_where (is_trail_of who) trails → n < length trails → t ≡ get_or trails n t → t ≡ trail_of who trails
trail-read who trails n t e h r = first-at (is_trail_of who) (no_trail who) t trails trails n refl e h r

pub trail-none : {A : Type 0} (who : ℕ) (trails : List (Trail A)) (n : ℕ) → n ≡ place_where (is_trail_of who) trails → length trails ≤ n → trail_of who trails ≡ no_trail who
trail-none who trails n e h = sym (first-past (is_trail_of who) (no_trail who) trails trails n refl e h)

-- it is that client's
pub trail-own : {A : Type 0} (who : ℕ) (trails : List (Trail A)) (n : ℕ) (t : Trail A) → n ≡ place_where (is_trail_of who) trails → n < length trails → t ≡ get_or trails n t → t.who ≡ who
trail-own who trails n t e h r =
    eqb-true t.who who
    (ap (is_trail_of who) r ∙ ap (λ k. is_trail_of who (get_or trails k t)) e ∙ place-passes (is_trail_of who) t trails (omega (arith, e, h)))

-- one that was set at its place, or put at the end where there is none

pub trail-set : {A : Type 0} (who : ℕ) (trails : List (Trail A)) (n : ℕ) (t : Trail A) → n ≡ place_where (is_trail_of who) trails → n < length trails → t.who ≡ who → set trails n t ≡ with_trail t trails
trail-set who trails n t e h own = put-at (is_trail_of who) t trails trails n refl e h ∙ ap (λ k. put_where (is_trail_of k) t trails) (sym own)

pub trail-added : {A : Type 0} (who : ℕ) (trails : List (Trail A)) (n : ℕ) (t : Trail A) → n ≡ place_where (is_trail_of who) trails → length trails ≤ n → t.who ≡ who → trails ++ t ∷ [] ≡ with_trail t trails
trail-added who trails n t e h own = put-past (is_trail_of who) t trails trails n refl e h ∙ ap (λ k. put_where (is_trail_of k) t trails) (sym own)

-- a mark at its place

pub mark-set : {A : Type 0} (register : ℕ) (marks : List (Mark A)) (n : ℕ) (m : Mark A) (list : A) → n ≡ place_where (is_mark_of register) marks → n < length marks → m ≡ get_or marks n m
    → set marks n (record { register = m.register; list = list }) ≡ marked register list marks
mark-set {A = A} register marks n m list e h r =
    let own : m.register ≡ register =
    eqb-true m.register register
    (ap (is_mark_of register) r ∙ ap (λ k. is_mark_of register (get_or marks k m)) e ∙ place-passes (is_mark_of register) m marks (omega (arith, e, h))) in
    ap (λ k. set marks n (let x : Mark A = record { register = k; list = list } in x)) own
    ∙ put-at (is_mark_of register) (record { register = register; list = list }) marks marks n refl e h

pub mark-added : {A : Type 0} (register : ℕ) (marks : List (Mark A)) (n : ℕ) (list : A) → n ≡ place_where (is_mark_of register) marks → length marks ≤ n
    → marks ++ record { register = register; list = list } ∷ [] ≡ marked register list marks
mark-added register marks n list e h = put-past (is_mark_of register) (record { register = register; list = list }) marks marks n refl e h

pub mark-none : {A : Type 0} (register : ℕ) (marks : List (Mark A)) → length marks ≤ place_where (is_mark_of register) marks → mark_of register marks ≡ None
mark-none register [] h = refl
mark-none register (m ∷ ms) h =
    by_test (λ b. length (m ∷ ms) ≤ cond b 0 (suc (place_where (is_mark_of register) ms)) → option_map (λ x. x.list) (cond b (Some m) (find (is_mark_of register) ms)) ≡ None) (is_mark_of register m)
    (λ _ h. absurd (omega (arith, h)))
    (λ _ h. mark-none register ms (omega (arith, h)))
    h

pub mark-read : {A : Type 0} (register : ℕ) (marks : List (Mark A)) (n : ℕ) (m : Mark A) → n ≡ place_where (is_mark_of register) marks → n < length marks → m ≡ get_or marks n m → mark_of register marks ≡ Some m.list
mark-read {A = A} register marks n m e h r =
    by marks (omega (arith, e, h)) ∙ ap (λ (x : Mark A). Some x.list) (sym (r ∙ ap (λ k. get_or marks k m) e))
  where
    by : (ms : List (Mark A)) → place_where (is_mark_of register) ms < length ms → mark_of register ms ≡ Some (get_or ms (place_where (is_mark_of register) ms) m).list
    by [] h = absurd (omega (arith, h))
    by (x ∷ xs) h =
        by_test (λ b. cond b 0 (suc (place_where (is_mark_of register) xs)) < suc (length xs) → option_map (λ y. y.list) (cond b (Some x) (find (is_mark_of register) xs)) ≡ Some (get_or (x ∷ xs) (cond b 0 (suc (place_where (is_mark_of register) xs))) m).list) (is_mark_of register x)
        (λ _ _. refl)
        (λ _ h. by xs (omega (arith, h)))
        h
