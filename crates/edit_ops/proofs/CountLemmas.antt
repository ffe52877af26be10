-- How many changes a replacement is, and where the last of them leaves its text.
use Rattle.std.proofs.Common.{◌≡◌, ◌≢◌, ℕ, zero, suc, ◌+◌, ◌-◌, ◌<◌, ◌≤◌, Bool, true, false, not, cond, eqb, ltb, ◌⊎◌, inl, inr, ◌&&◌, ◌||◌, List, [], ◌∷◌, ◌++◌, length, get_or, refl, sym, ap, ap₂, ◌∙◌, arith, length-append, length-take, lt-ltb, le-ltb, eq-eqb}
use Rattle.text_model.specs.Texts.{IsText, ends_in_newline, coord_at, last_place}
use Rattle.text_model.specs.Changes.{Change, Erasure, changed, all_changed, put_in, taken_end, erased, begins_line, erasure, insertion, insertion_of, front, exchange, replacement, ended}
use Rattle.text_model.proofs.CoordLemmas.{test_cases}
use Rattle.text_model.proofs.ChangeLemmas.{taken_end_cases, taken_end-within, taken_end-inside, replacement-plain, replacement-kept, ended-text, ended-other}
use Rattle.buffer_store.specs.Stored.{change_shifts}
use Rattle.edit_ops.specs.Passing.{one_if, no_shift}
use Rattle.edit_ops.specs.Leaving.{put_for}
use Rattle.edit_ops.proofs.ShapeLemmas.{is_kept, IsKept, kept-by}
use Rattle.edit_ops.proofs.EndedLemmas.{move-last}

pub ways : (a b : ℕ) → (a < b) ⊎ (b ≤ a)
ways a b = grind arith

count-erasure : (text : List ℕ) (p q : ℕ) → length (erasure text p q) ≡ one_if (ltb p (taken_end text p q))
count-erasure text p q =
    let P : Bool → Type 0 = λ v. length (cond v (Erasure p (taken_end text p q) ∷ []) []) ≡ one_if v in
    elim (ltb p (taken_end text p q)) as P [ true ↦ refl | false ↦ refl ]

count-insertion : (p : ℕ) (s : List ℕ) → length (insertion_of p s) ≡ one_if (ltb 0 (length s))
count-insertion p [] = refl
count-insertion p (c ∷ cs) = ap one_if (sym (lt-ltb 0 (length (c ∷ cs)) (omega arith)))

-- something is put in where there is something to put
pub put_in-some : (text : List ℕ) (p : ℕ) (s : List ℕ) → 0 < length s → 0 < length (put_in text p s)
put_in-some text p [] h = absurd (omega arith)
put_in-some text p (c ∷ cs) h =
    let P : Bool → Type 0 = λ v. 0 < length (cond v (ended (c ∷ cs)) (c ∷ cs)) in
    elim (eqb p (length text)) as P [ true ↦ some (test_cases (ends_in_newline (c ∷ cs))) | false ↦ omega arith ]
  where
    some : (ends_in_newline (c ∷ cs) ≡ true) ⊎ (ends_in_newline (c ∷ cs) ≡ false) → 0 < length (ended (c ∷ cs))
    some (inl e) = omega (arith, ap length (ended-text (c ∷ cs) e))
    some (inr e) = omega (arith, ap length (ended-other (c ∷ cs) e), length-append (c ∷ cs) (10 ∷ []))

put_in-test : (text : List ℕ) (p : ℕ) (s : List ℕ) → ltb 0 (length (put_in text p s)) ≡ ltb 0 (length s)
put_in-test text p [] = refl
put_in-test text p (c ∷ cs) = lt-ltb 0 (length (put_in text p (c ∷ cs))) (put_in-some text p (c ∷ cs) (omega arith)) ∙ sym (lt-ltb 0 (length (c ∷ cs)) (omega arith))

count-exchange : (text : List ℕ) (p q : ℕ) (s : List ℕ) → length (exchange text p q s) ≡ one_if (ltb p (taken_end text p q)) + one_if (ltb 0 (length s))
count-exchange text p q s =
    length-append (erasure text p q) (insertion (erased text p q) p s) ∙ ap₂ (λ m n. m + n) (count-erasure text p q) (count-insertion p (put_in (erased text p q) p s) ∙ ap one_if (put_in-test (erased text p q) p s))

-- the tests of a replacement: whether its ends are the same, whether it begins at the last place, and whether there a line begins
pub record AreTests (text : List ℕ) (p q : ℕ) (same at_last on_line : Bool) : Type 0 where
  pub is_text : IsText text
  pub ordered : p ≤ q
  pub inside : q ≤ length text
  pub same_is : same ≡ true → p ≡ q
  pub other_is : same ≡ false → p < q
  pub at_last_is : at_last ≡ true → p + 1 ≡ length text
  pub before_is : at_last ≡ false → p + 1 ≢ length text
  pub on_line_is : on_line ≡ begins_line text p

-- whether something is taken out
abbrev pub out_by : Bool → Bool → Bool → Bool → Bool
out_by same at_last on_line line = not same && (not at_last || (on_line && not line))

or_true : (v : Bool) → v || true ≡ true
or_true true = refl
or_true false = refl

and_true : (v : Bool) → v && true ≡ v
and_true true = refl
and_true false = refl

pub and_false : (v : Bool) → v && false ≡ false
and_false true = refl
and_false false = refl

out-plain : (text : List ℕ) (p q : ℕ) (s : List ℕ) (same at_last on_line : Bool) → AreTests text p q same at_last on_line → is_kept text p q s ≡ false
    → out_by same at_last on_line (ends_in_newline s) ≡ ltb p (taken_end text p q)
out-plain text p q s true at_last on_line t k =
    sym (le-ltb p (taken_end text p q) (omega (arith, (taken_end-within text p q t.is_text t.ordered t.inside).1, t.same_is refl)))
out-plain text p q s false false on_line t k =
    sym (lt-ltb p (taken_end text p q) (elim (taken_end_cases text p q) [ inl w ↦ omega (arith, w.0, t.other_is refl) | inr w ↦ less w.0 w.1 (t.before_is refl) ]))
  where
    less : taken_end text p q ≡ q - 1 → q ≡ length text → p + 1 ≢ length text → p < taken_end text p q
    less e l n = omega (arith, t.other_is refl)
out-plain text p q s false true on_line t k =
    let lt : p < q = t.other_is refl in
    let all : q ≡ length text = omega (arith, t.at_last_is refl, t.inside) in
    let no_line : ends_in_newline s ≡ false = sym (ap₂ (λ v w. v && (w && ends_in_newline s)) (lt-ltb p q lt) (eq-eqb q (length text) all)) ∙ k in
    ap₂ (λ v w. v && not w) t.on_line_is no_line ∙ and_true (begins_line text p) ∙ sym (found lt all (taken_end_cases text p q))
  where
    found : p < q → q ≡ length text → ((taken_end text p q ≡ q) × ((q ≡ length text) → begins_line text p ≡ true)) ⊎ ((taken_end text p q ≡ q - 1) × (q ≡ length text) × (begins_line text p ≡ false))
        → ltb p (taken_end text p q) ≡ begins_line text p
    found lt all (inl w) = lt-ltb p (taken_end text p q) (omega (arith, w.0)) ∙ sym (w.1 all)
    found lt all (inr w) = le-ltb p (taken_end text p q) (omega (arith, w.0, w.1, t.at_last_is refl)) ∙ sym w.2

out-kept : (text : List ℕ) (p q : ℕ) (s : List ℕ) (same at_last on_line : Bool) → AreTests text p q same at_last on_line → IsKept text p q s
    → out_by same at_last on_line (ends_in_newline s) ≡ ltb p (q - 1)
out-kept text p q s true at_last on_line t k = absurd (omega (arith, t.same_is refl, k.some))
out-kept text p q s false false on_line t k = let n : p + 1 ≢ length text = t.before_is refl in sym (lt-ltb p (q - 1) (omega (arith, k.some, k.at_end)))
out-kept text p q s false true on_line t k = ap (λ w. on_line && not w) k.line ∙ and_false on_line ∙ sym (le-ltb p (q - 1) (omega (arith, t.at_last_is refl, k.at_end)))

-- so many changes a replacement is
pub count-replacement : (text : List ℕ) (p q : ℕ) (s : List ℕ) (same at_last on_line kept : Bool) → AreTests text p q same at_last on_line → kept ≡ is_kept text p q s
    → length (replacement text p q s) ≡ one_if (out_by same at_last on_line (ends_in_newline s)) + one_if (ltb (one_if kept) (length s))
count-replacement text p q s same at_last on_line kept t e =
    elim (test_cases (is_kept text p q s)) [
      | inl b ↦
          (let is : IsKept text p q s = kept-by text p q s b in
          let end : taken_end text p (q - 1) ≡ q - 1 = taken_end-inside text p (q - 1) (omega (arith, is.some, is.at_end)) in
          let few : length (front s) ≡ length s - 1 = omega (arith, length-take (length s - 1) s) in
          ap length (replacement-kept text p q s is.some is.at_end is.line) ∙ count-exchange text p (q - 1) (front s)
          ∙ ap₂ (λ v w. one_if v + one_if w) (ap (ltb p) end ∙ sym (out-kept text p q s same at_last on_line t is)) (ap (ltb 0) few ∙ less (length s) ∙ ap (λ v. ltb (one_if v) (length s)) (sym (e ∙ b))))
      | inr b ↦
          (ap length (replacement-plain text p q s b) ∙ count-exchange text p q s
          ∙ ap₂ (λ v w. one_if v + one_if w) (sym (out-plain text p q s same at_last on_line t b)) (ap (λ v. ltb (one_if v) (length s)) (sym (e ∙ b))))
    ]
  where
    less : (n : ℕ) → ltb 0 (n - 1) ≡ ltb 1 n
    less n = elim (ways 1 n) [ inl lt ↦ lt-ltb 0 (n - 1) (omega arith) ∙ sym (lt-ltb 1 n lt) | inr le ↦ le-ltb 0 (n - 1) (omega arith) ∙ sym (le-ltb 1 n le) ]

-- the last shift of changes leaves the last place of their text
pub last-shift : (text : List ℕ) (cs : List Change) (i : ℕ) → i + 1 ≡ length cs → (get_or (change_shifts text cs) i no_shift).last ≡ coord_at (all_changed text cs) (last_place (all_changed text cs))
last-shift text [] i h = absurd (omega arith)
last-shift text (c ∷ []) zero h = ap (coord_at (changed text c)) (move-last text c)
last-shift text (c ∷ []) (suc i) h = absurd (omega arith)
last-shift text (c ∷ (d ∷ ds)) zero h = absurd (omega arith)
last-shift text (c ∷ (d ∷ ds)) (suc i) h = last-shift (changed text c) (d ∷ ds) i (omega arith)

-- and where it is an insertion, it ends behind what was put in
pub last-insertion : (text : List ℕ) (ds : List Change) (p : ℕ) (s : List ℕ) (i : ℕ) → 0 < length s → i ≡ length ds
    → (get_or (change_shifts text (ds ++ insertion_of p s)) i no_shift).end ≡ coord_at (all_changed text (ds ++ insertion_of p s)) (p + length s)
last-insertion text [] p [] i h e = absurd (omega arith)
last-insertion text [] p (c ∷ cs) zero h e = refl
last-insertion text [] p (c ∷ cs) (suc i) h e = absurd (omega arith)
last-insertion text (d ∷ ds) p s zero h e = absurd (omega arith)
last-insertion text (d ∷ ds) p s (suc i) h e = last-insertion (changed text d) ds p s i h (omega arith)

pub length-shifts : (text : List ℕ) (cs : List Change) → length (change_shifts text cs) ≡ length cs
length-shifts text [] = refl
length-shifts text (c ∷ cs) = ap (λ n. suc n) (length-shifts (changed text c) cs)

pub put_for-some : (text : List ℕ) (p q : ℕ) (s : List ℕ) → 0 < length s → 0 < length (put_for text p q s)
put_for-some text p q s h =
    let P : Bool → Type 0 = λ v. 0 < length (cond v s (put_in (erased text p q) p s)) in
    elim (is_kept text p q s) as P [ true ↦ h | false ↦ put_in-some (erased text p q) p s h ]
