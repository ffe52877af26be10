-- Lemmas on where places go.
use Rattle.std.proofs.Common.{◌≡◌, ℕ, ◌+◌, ◌-◌, ◌<◌, ◌≤◌, true, false, cond, leb, List, sym, ap, ◌∙◌, arith, lt-ltb, le-ltb, inl, inr, ◌⊎◌, length, take, drop, get_or, length-take-le, get_or-take, get_or-drop}
use Rattle.std.proofs.lemmas.List.{get_or_append_left, get_or-append_right}
use Rattle.text_model.specs.Changes.{Move, IsCut}
use Rattle.text_model.specs.Mapping.{past_insertion, past_erasure, moved, shifted}
use Rattle.text_model.proofs.CoordLemmas.{test_cases}
use Rattle.text_model.proofs.PlaceLemmas.{three_ways, leb_true, leb_false}

pub past_insertion-before : (p n o : ℕ) → o < p → past_insertion p n o ≡ o
past_insertion-before p n o h = ap (λ v. cond v o (o + n)) (lt-ltb o p h)

pub past_insertion-behind : (p n o : ℕ) → p ≤ o → past_insertion p n o ≡ o + n
past_insertion-behind p n o h = ap (λ v. cond v o (o + n)) (le-ltb o p h)

pub past_erasure-before : (p q o : ℕ) → o < p → past_erasure p q o ≡ o
past_erasure-before p q o h = ap (λ v. cond v o (cond (leb o q) p (o - (q - p)))) (lt-ltb o p h)

pub past_erasure-inside : (p q o : ℕ) → p ≤ o → o ≤ q → past_erasure p q o ≡ p
past_erasure-inside p q o h k =
    ap (λ v. cond v o (cond (leb o q) p (o - (q - p)))) (le-ltb o p h) ∙ ap (λ v. cond v p (o - (q - p))) (leb_true o q k)

pub past_erasure-behind : (p q o : ℕ) → p ≤ q → q < o → past_erasure p q o ≡ o - (q - p)
past_erasure-behind p q o h k =
    let l : p ≤ o = omega arith in
    ap (λ v. cond v o (cond (leb o q) p (o - (q - p)))) (le-ltb o p l) ∙ ap (λ v. cond v p (o - (q - p))) (leb_false o q k)

two_ways : (m n : ℕ) → (m < n) ⊎ (n ≤ m)
two_ways m n = grind arith

pub past_insertion_cases : (p n o : ℕ) → ((o < p) × (past_insertion p n o ≡ o)) ⊎ ((p ≤ o) × (past_insertion p n o ≡ o + n))
past_insertion_cases p n o =
    elim (two_ways o p) [
      | inl lt ↦ inl (lt, past_insertion-before p n o lt)
      | inr le ↦ inr (le, past_insertion-behind p n o le)
    ]

pub past_erasure_cases : (p q o : ℕ) → p ≤ q → ((o < p) × (past_erasure p q o ≡ o)) ⊎ (((p ≤ o) × (o ≤ q) × (past_erasure p q o ≡ p)) ⊎ ((q < o) × (past_erasure p q o ≡ o - (q - p))))
past_erasure_cases p q o h =
    elim (two_ways o p) [
      | inl lt ↦ inl (lt, past_erasure-before p q o lt)
      | inr le ↦ elim (two_ways q o) [
        | inl gt ↦ inr (inr (gt, past_erasure-behind p q o h gt))
        | inr in' ↦ inr (inl (le, in', past_erasure-inside p q o le in'))
      ]
    ]

pub past_insertion-mono : (p n a b : ℕ) → a ≤ b → past_insertion p n a ≤ past_insertion p n b
past_insertion-mono p n a b h =
    elim (past_insertion_cases p n a) [
      | inl u ↦ elim (past_insertion_cases p n b) [ inl v ↦ omega (arith, u.1, v.1) | inr v ↦ omega (arith, u.1, v.1) ]
      | inr u ↦ elim (past_insertion_cases p n b) [ inl v ↦ absurd (omega (arith, u.0, v.0)) | inr v ↦ omega (arith, u.1, v.1) ]
    ]

pub past_erasure-mono : (p q a b : ℕ) → p ≤ q → a ≤ b → past_erasure p q a ≤ past_erasure p q b
past_erasure-mono p q a b k h =
    elim (past_erasure_cases p q a k) [
      | inl u ↦ elim (past_erasure_cases p q b k) [
        | inl v ↦ omega (arith, u.1, v.1)
        | inr w ↦ elim w [ inl v ↦ omega (arith, u.0, u.1, v.2) | inr v ↦ omega (arith, u.0, u.1, v.0, v.1) ]
      ]
      | inr w ↦ elim w [
        | inl u ↦ elim (past_erasure_cases p q b k) [
          | inl v ↦ absurd (omega (arith, u.0, v.0))
          | inr x ↦ elim x [ inl v ↦ omega (arith, u.2, v.2) | inr v ↦ omega (arith, u.2, v.0, v.1) ]
        ]
        | inr u ↦ elim (past_erasure_cases p q b k) [
          | inl v ↦ absurd (omega (arith, u.0, v.0))
          | inr x ↦ elim x [ inl v ↦ absurd (omega (arith, u.0, v.1)) | inr v ↦ omega (arith, u.0, u.1, v.0, v.1) ]
        ]
      ]
    ]

pub moved-insertion : (m : Move) (o : ℕ) → m.insert ≡ true → moved m o ≡ past_insertion m.begin (m.end - m.begin) o
moved-insertion m o e = ap (λ v. cond v (past_insertion m.begin (m.end - m.begin) o) (past_erasure m.begin m.end o)) e

pub moved-erasure : (m : Move) (o : ℕ) → m.insert ≡ false → moved m o ≡ past_erasure m.begin m.end o
moved-erasure m o e = ap (λ v. cond v (past_insertion m.begin (m.end - m.begin) o) (past_erasure m.begin m.end o)) e

pub moved-mono : (m : Move) (a b : ℕ) → m.begin ≤ m.end → a ≤ b → moved m a ≤ moved m b
moved-mono m a b k h =
    elim (test_cases m.insert) [
      | inl e ↦ omega (arith, moved-insertion m a e, moved-insertion m b e, past_insertion-mono m.begin (m.end - m.begin) a b h)
      | inr e ↦ omega (arith, moved-erasure m a e, moved-erasure m b e, past_erasure-mono m.begin m.end a b k h)
    ]

pub shifted-mono : (m : Move) (a b : ℕ) → m.begin ≤ m.end → a ≤ b → shifted m a ≤ shifted m b
shifted-mono m a b k h = omega (arith, moved-mono m a b k h)

pub shifted-le : (m : Move) (o : ℕ) → shifted m o ≤ m.last
shifted-le m o = omega arith

-- a character that was there before an insertion stands at its moved place
pub kept_by_insertion : (old new : List ℕ) (b e o : ℕ) → IsCut new old b e → o < length old → get_or new (past_insertion b (e - b) o) 0 ≡ get_or old o 0
kept_by_insertion old new b e o h lt =
    let short : b ≤ length new = omega (arith, h.ordered, h.within) in
    let long : length (take b new) ≡ b = length-take-le b new short in
    elim (past_insertion_cases b (e - b) o) [
      | inl u ↦ (let before : o < length (take b new) = omega (arith, u.0) in
          ap (λ n. get_or new n 0) u.1 ∙ sym (get_or-take b new o 0 u.0) ∙ sym (get_or_append_left (take b new) (drop e new) 0 o before) ∙ ap (λ t. get_or t o 0) (sym h.short_is))
      | inr u ↦ (let sum : o + (e - b) ≡ e + (o - b) = omega (arith, u.0, h.ordered) in
          ap (λ n. get_or new n 0) (u.1 ∙ sum) ∙ sym (get_or-drop e new (o - b) 0) ∙ sym (get_or-append_right (take b new) (drop e new) b o 0 long u.0) ∙ ap (λ t. get_or t o 0) (sym h.short_is))
    ]

-- a character that an erasure leaves stands at its moved place
pub kept_by_erasure : (old new : List ℕ) (b e o : ℕ) → IsCut old new b e → (o < b) ⊎ (e ≤ o) → get_or new (past_erasure b e o) 0 ≡ get_or old o 0
kept_by_erasure old new b e o h (inl lt) =
    let short : b ≤ length old = omega (arith, h.ordered, h.within) in
    let long : length (take b old) ≡ b = length-take-le b old short in
    let before : o < length (take b old) = omega arith in
    ap (λ n. get_or new n 0) (past_erasure-before b e o lt) ∙ ap (λ t. get_or t o 0) h.short_is ∙ get_or_append_left (take b old) (drop e old) 0 o before ∙ get_or-take b old o 0 lt
kept_by_erasure old new b e o h (inr le) =
    let short : b ≤ length old = omega (arith, h.ordered, h.within) in
    let long : length (take b old) ≡ b = length-take-le b old short in
    let at : past_erasure b e o ≡ o - (e - b) = past_erasure-from_end b e o h.ordered le in
    let behind : b ≤ o - (e - b) = omega (arith, h.ordered) in
    let sum : e + (o - (e - b) - b) ≡ o = omega (arith, h.ordered) in
    ap (λ n. get_or new n 0) at ∙ ap (λ t. get_or t (o - (e - b)) 0) h.short_is ∙ get_or-append_right (take b old) (drop e old) b (o - (e - b)) 0 long behind ∙ get_or-drop e old (o - (e - b) - b) 0 ∙ ap (λ n. get_or old n 0) sum
  where
    past_erasure-from_end : (p q o : ℕ) → p ≤ q → q ≤ o → past_erasure p q o ≡ o - (q - p)
    past_erasure-from_end p q o h k =
        elim (three_ways q o) [
          | inl lt ↦ past_erasure-behind p q o h lt
          | inr w ↦ elim w [
            | inl same ↦ (let l : p ≤ o = omega arith in let m : o ≤ q = omega arith in past_erasure-inside p q o l m ∙ omega arith)
            | inr gt ↦ absurd (omega arith)
          ]
        ]
