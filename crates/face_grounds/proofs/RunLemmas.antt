-- Runs that are added one behind the other, and runs that are gone over.
use Rattle.std.proofs.Common.{◌≡◌, ℕ, zero, suc, ◌+◌, ◌<◌, ◌≤◌, nat_lt, List, [], ◌∷◌, ◌++◌, length, drop, get_or, max, refl, sym, ap, ◌∙◌, arith, inl, inr, subst}
use Rattle.std.specs.Prelude.{cond}
use Rattle.std.proofs.Math.Seq.{drop-cons}
use Rattle.std.specs.declared.option.Option.{Option}
use Rattle.std.specs.List.{AllByRecursion}
use Rattle.std.proofs.lemmas.Bool.{cases_lt, lt-ltb, le-ltb}
use Rattle.kak_faces.specs.declared.face.Face.{Face}
use Rattle.kak_faces.specs.Standard.{default_face}
use Rattle.face_grounds.specs.declared.ground.Run.{Run}
use Rattle.face_grounds.specs.Grounds.{face_in}
use Rattle.face_grounds.specs.Laying.{seen_over, IsDrawn, IsAhead}

abbrev pub run : ℕ → Face → Run
run end face = record { end = end; face = face }

-- a run that is hit, and one that isn't
hit : (r : Run) (rs : List Run) (rest : Face) (n : ℕ) → n < r.end → face_in (r ∷ rs) rest n ≡ r.face
hit r rs rest n h = ap (λ b. cond b r.face (face_in rs rest n)) (lt-ltb n r.end h)

past : (r : Run) (rs : List Run) (rest : Face) (n : ℕ) → r.end ≤ n → face_in (r ∷ rs) rest n ≡ face_in rs rest n
past r rs rest n h = ap (λ b. cond b r.face (face_in rs rest n)) (le-ltb n r.end h)

-- runs with another behind them
append : (rs : List Run) (r : Run) (rest : Face) (n : ℕ) → face_in (rs ++ r ∷ []) rest n ≡ face_in rs (face_in (r ∷ []) rest n) n
append [] r rest n = refl
append (q ∷ rs) r rest n = ap (λ f. cond (nat_lt n q.end) q.face f) (append rs r rest n)

-- runs that end before a place say nothing of it
pub skipped : (rs : List Run) (rest : Face) (place n : ℕ) → AllByRecursion (λ r. r.end ≤ place) rs → place ≤ n → face_in rs rest n ≡ rest
skipped [] rest place n a h = refl
skipped (r ∷ rs) rest place n a h = past r rs rest n (omega (arith, a.0)) ∙ skipped rs rest place n a.1 h

further : (rs : List Run) (x y : ℕ) → AllByRecursion (λ r. r.end ≤ x) rs → x ≤ y → AllByRecursion (λ r. r.end ≤ y) rs
further [] x y a h = tt
further (r ∷ rs) x y a h = (omega (arith, a.0), further rs x y a.1 h)

with_last : (rs : List Run) (r : Run) (y : ℕ) → AllByRecursion (λ r. r.end ≤ y) rs → r.end ≤ y → AllByRecursion (λ r. r.end ≤ y) (rs ++ r ∷ [])
with_last [] r y a h = (h, tt)
with_last (q ∷ rs) r y a h = (a.0, with_last rs r y a.1 h)

-- a run is added
pub drawn-more : (seen : ℕ → Face) (rs : List Run) (x y : ℕ) (face : Face) → x ≤ y → IsDrawn seen x rs → ((n : ℕ) → x ≤ n → n < y → face ≡ seen n) → IsDrawn seen y (rs ++ run y face ∷ [])
drawn-more seen rs x y face h d f = record {
  ends = with_last rs (run y face) y (further rs x y d.ends h) (omega arith);
  faces = λ n rest l. append rs (run y face) rest n ∙ elim (cases_lt n x) [
    | inl lt ↦ d.faces n (face_in (run y face ∷ []) rest n) lt
    | inr ge ↦ skipped rs (face_in (run y face ∷ []) rest n) x n d.ends ge ∙ hit (run y face) [] rest n l ∙ f n ge l
  ];
}

-- nothing is added, since nothing lies between
pub drawn-same : (seen : ℕ → Face) (rs : List Run) (x y : ℕ) → x ≤ y → y ≤ x → IsDrawn seen x rs → IsDrawn seen y rs
drawn-same seen rs x y h k d = let e : x ≡ y = omega arith in subst (λ z. IsDrawn seen z rs) e d

-- the first of the runs ahead has a place
pub here : (rs : List Run) (rest : Face) (k n : ℕ) (d : Run) → k < length rs → n < (get_or rs k d).end → face_in (drop k rs) rest n ≡ (get_or rs k d).face
here rs rest k n d l h = ap (λ x. face_in x rest n) (drop-cons rs k d l) ∙ hit (get_or rs k d) (drop (suc k) rs) rest n h

-- it is gone over
pub ahead-next : (rs : List Run) (rest : Face) (k x y : ℕ) (d : Run) → k < length rs → y ≡ max (get_or rs k d).end x → IsAhead rs rest k x → IsAhead rs rest (k + 1) y
ahead-next rs rest k x y d l e a =
    λ n h. let one : k + 1 ≡ suc k = omega arith in
    ap (λ i. face_in (drop i rs) rest n) one
    ∙ sym (past (get_or rs k d) (drop (suc k) rs) rest n (omega (arith, e)))
    ∙ sym (ap (λ z. face_in z rest n) (drop-cons rs k d l))
    ∙ a n (omega (arith, e))

-- all are gone over
pub none-ahead : (rs : List Run) (rest : Face) (k n : ℕ) → length rs ≤ k → face_in (drop k rs) rest n ≡ rest
none-ahead [] rest zero n h = refl
none-ahead [] rest (suc k) n h = refl
none-ahead (r ∷ rs) rest zero n h = absurd (omega arith)
none-ahead (r ∷ rs) rest (suc k) n h = none-ahead rs rest k n (omega arith)

-- places that a run's face has, seen with a face over it
pub seen-here : (seen : ℕ → Face) (over : Option Face) (rs : List Run) (rest face : Face) (k x y : ℕ) → IsAhead rs rest k x → ((n : ℕ) → x ≤ n → n < y → seen_over over (face_in rs rest n) ≡ seen n)
    → ((n : ℕ) → x ≤ n → n < y → face_in (drop k rs) rest n ≡ face) → (n : ℕ) → x ≤ n → n < y → seen_over over face ≡ seen n
seen-here seen over rs rest face k x y a s f n h l = ap (seen_over over) (sym (f n h l) ∙ a n h) ∙ s n h l

-- some run
abbrev pub some_run : Run
some_run = run 0 default_face
