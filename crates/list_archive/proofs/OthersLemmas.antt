-- What is kept for others stays as it is stored, and so do the marks of other registers.
use Rattle.std.proofs.Common.{◌≡◌, ℕ, true, false, not, ◌==◌, List, [], ◌∷◌, cond, refl, sym, ap, ◌∙◌}
use Rattle.std.specs.Prelude.{Some, find, option_map}
use Rattle.std.proofs.lemmas.Bool.{eqb-true, eqb-false, ne_eqb}
use Rattle.tables.proofs.TableLemmas.{by_test, first-put_other, find-put_other}
use Rattle.tables.proofs.RowLemmas.{first-left}
use Rattle.list_archive.specs.Trails.{Trail, Mark, is_trail_of, no_trail, trail_of, with_trail, left_off, is_mark_of, mark_of, marked, unmarked}

-- what is one's isn't another's
apart : (mine other n : ℕ) → (other == mine) ≡ false → (n == mine) ≡ true → (n == other) ≡ false
apart mine other n e is = ne_eqb n other (λ same. eqb-false other mine e (sym same ∙ eqb-true n mine is))

mine-apart : (mine other : ℕ) → (other == mine) ≡ false → (mine == other) ≡ false
mine-apart mine other e = ne_eqb mine other (λ same. eqb-false other mine e (sym same))

pub other-trail : {A : Type 0} (other : ℕ) (t : Trail A) (trails : List (Trail A)) → (other == t.who) ≡ false → trail_of other (with_trail t trails) ≡ trail_of other trails
other-trail other t trails e = first-put_other (is_trail_of t.who) (is_trail_of other) t (no_trail other) trails (λ x is. apart t.who other x.who e is) (mine-apart t.who other e)

pub trail-left : {A : Type 0} (who other : ℕ) (trails : List (Trail A)) → (other == who) ≡ false → trail_of other (left_off who trails) ≡ trail_of other trails
trail-left who other trails e = first-left (is_trail_of who) (is_trail_of other) (no_trail other) trails (λ x is. apart who other x.who e is)

pub other-mark : {A : Type 0} (register other : ℕ) (list : A) (marks : List (Mark A)) → (other == register) ≡ false → mark_of other (marked register list marks) ≡ mark_of other marks
other-mark register other list marks e =
    ap (option_map (λ m. m.list))
    (find-put_other (is_mark_of register) (is_mark_of other) (record { register = register; list = list }) marks (λ x is. apart register other x.register e is) (mine-apart register other e))

pub mark-left : {A : Type 0} (register other : ℕ) (marks : List (Mark A)) → (other == register) ≡ false → mark_of other (unmarked register marks) ≡ mark_of other marks
mark-left {A = A} register other marks e = ap (option_map (λ (m : Mark A). m.list)) (by marks)
  where
    by : (ms : List (Mark A)) → find (is_mark_of other) (unmarked register ms) ≡ find (is_mark_of other) ms
    by [] = refl
    by (m ∷ ms) =
        by_test (λ b. b ≡ is_mark_of register m → find (is_mark_of other) (cond (not b) (m ∷ unmarked register ms) (unmarked register ms)) ≡ cond (is_mark_of other m) (Some m) (find (is_mark_of other) ms)) (is_mark_of register m)
        (λ _ is. by ms ∙ ap (λ b. cond b (Some m) (find (is_mark_of other) ms)) (sym (apart register other m.register e (sym is))))
        (λ _ _. ap (cond (is_mark_of other m) (Some m)) (by ms))
        refl
