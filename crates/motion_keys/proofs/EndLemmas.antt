-- In a text, from each begin of a motion by words there is an end: the last character is a newline, so runs end.
use Rattle.std.proofs.Common.{◌≡◌, ℕ, ◌+◌, ◌-◌, ◌<◌, ◌≤◌, Bool, true, false, not, cond, List, length, get_or, None, Some, refl, sym, ap, subst, ◌∙◌, arith, lt-ltb}
use Rattle.std.specs.Prelude.{IsSome, option_and_then, nat_lt}
use Rattle.std.specs.declared.option.Option.{Option}
use Rattle.std.proofs.Common.{inl, inr}
use Rattle.std.proofs.lemmas.Bool.{false≢true}
use Rattle.std.proofs.lemmas.Option.{none-some, same_Some}
use Rattle.text_model.specs.Texts.{IsText}
use Rattle.text_model.proofs.CoordLemmas.{test_cases}
use Rattle.kak_text.specs.declared.classes.Class.{Class}
use Rattle.kak_text.specs.declared.classes.Class.TheVariants.{Line, Blank, Word, Mark}
use Rattle.kak_text.specs.Classes.{is_same}
use Rattle.directions.specs.declared.direction.Direction.TheVariants.{Forward, Backward}
use Rattle.motion_keys.specs.declared.words.WordKind.{WordKind}
use Rattle.motion_keys.specs.declared.words.WordKind.TheVariants.{Small, Big}
use Rattle.motion_keys.specs.Motions.{offset_beside}
use Rattle.motion_keys.specs.Nearest.{least_from, greatest_to}
use Rattle.motion_keys.specs.Words.{class_for, class_at, is_other, with_its_class, begin_ahead, begin_back, behind_run, run_last, behind_word, last_before_next, last_of_word, behind_or_first, run_first, start_or_first, first_of_word}
use Rattle.motion_keys.proofs.NearestLemmas.{FirstFrom, IsLeastFrom, LastTo, IsGreatestTo, least_found, greatest_found}

-- ---- classes

newline_class : (kind : WordKind) → class_for kind 10 ≡ Line
newline_class Small = refl
newline_class Big = refl

same_self : (k : Class) → is_same k k ≡ true
same_self Line = refl
same_self Blank = refl
same_self Word = refl
same_self Mark = refl

same_turned : (j k : Class) → is_same j k ≡ is_same k j
same_turned Line Line = refl
same_turned Line Blank = refl
same_turned Line Word = refl
same_turned Line Mark = refl
same_turned Blank Line = refl
same_turned Blank Blank = refl
same_turned Blank Word = refl
same_turned Blank Mark = refl
same_turned Word Line = refl
same_turned Word Blank = refl
same_turned Word Word = refl
same_turned Word Mark = refl
same_turned Mark Line = refl
same_turned Mark Blank = refl
same_turned Mark Word = refl
same_turned Mark Mark = refl

not_false : (b : Bool) → not b ≡ true → b ≡ false
not_false true h = absurd (false≢true h)
not_false false h = refl

not_true : (b : Bool) → not b ≡ false → b ≡ true
not_true true h = refl
not_true false h = absurd (false≢true (sym h))

-- a class isn't another and the same
clash : (b : Bool) → b ≡ true → b ≡ false → ⊥
clash b h k = false≢true (sym k ∙ h)

-- ---- searches in a text

-- the last character is a newline
last_class : (kind : WordKind) (text : List ℕ) → IsText text → class_at kind text (length text - 1) ≡ Line
last_class kind text h = ap (class_for kind) h.ended ∙ newline_class kind

-- a search for a character of another class than one that isn't that of newlines finds something
pub finds : (kind : WordKind) (k : Class) (text : List ℕ) (o : ℕ) (found : Option ℕ) → IsText text → o < length text → is_same Line k ≡ false → IsLeastFrom (is_other kind k) text o found → (n : ℕ) × (found ≡ Some n)
finds kind k text o None h l e f =
    let fails : is_other kind k (get_or text (length text - 1) 0) ≡ false = f (length text - 1) (omega arith) (omega (arith, h.some)) in
    absurd (clash (is_same (class_at kind text (length text - 1)) k) (not_true _ fails) (ap (λ c. is_same c k) (last_class kind text h) ∙ e))
finds kind k text o (Some n) h l e f = (n, refl)

-- what is found is of another class
pub found_other : (kind : WordKind) (k : Class) (text : List ℕ) (o n : ℕ) → IsLeastFrom (is_other kind k) text o (Some n) → is_same (class_at kind text n) k ≡ false
found_other kind k text o n f = not_false _ f.passes

-- ---- offsets beside

before_some : (text : List ℕ) (n : ℕ) → 0 < n → offset_beside text n Backward ≡ Some (n - 1)
before_some text n h = let P : Bool → Option ℕ = λ v. cond v (Some (n - 1)) None in ap P (lt-ltb 0 n h)

after_some : (text : List ℕ) (n : ℕ) → n + 1 < length text → offset_beside text n Forward ≡ Some (n + 1)
after_some text n h = let P : Bool → Option ℕ = λ v. cond v (Some (n + 1)) None in ap P (lt-ltb (n + 1) (length text) h)

some_from : (r : Option ℕ) (n : ℕ) → r ≡ Some n → IsSome r
some_from r n e = let P : Option ℕ → Type 0 = λ v. IsSome v in subst P (sym e) refl

-- two offsets whose characters a test tells apart are two
apart : (kind : WordKind) (k : Class) (text : List ℕ) (m n : ℕ) → is_same (class_at kind text m) k ≡ true → is_same (class_at kind text n) k ≡ false → m ≡ n → ⊥
apart kind k text m n h g e = clash (is_same (class_at kind text m) k) h (ap (λ i. is_same (class_at kind text i) k) e ∙ g)

-- an offset of the text behind another was found
record FoundBehind (text : List ℕ) (o : ℕ) (found : Option ℕ) : Type 0 where
  at : ℕ
  is : found ≡ Some at
  later : o < at
  inside : at < length text

-- ---- forward

-- a run that isn't of newlines ends before the last character
run_ends : (kind : WordKind) (text : List ℕ) (o : ℕ) → IsText text → o < length text → is_same (class_at kind text o) Line ≡ false → FoundBehind text o (behind_run kind text o)
run_ends kind text o h l e =
    let k : Class = class_at kind text o in
    let f : IsLeastFrom (is_other kind k) text o (behind_run kind text o) = least_found (is_other kind k) text o in
    let s : (n : ℕ) × (behind_run kind text o ≡ Some n) = finds kind k text o (behind_run kind text o) h l (same_turned Line k ∙ e) f in
    let P : Option ℕ → Type 0 = IsLeastFrom (is_other kind k) text o in
    let g : FirstFrom (is_other kind k) text o s.0 = subst P s.1 f in
    let ne : o ≡ s.0 → ⊥ = apart kind k text o s.0 (same_self k) (not_false _ g.passes) in
    record { at = s.0; is = s.1; later = omega (arith, g.inside.0); inside = g.inside.1 }

word_ends_behind : (kind : WordKind) (text : List ℕ) (o : ℕ) → IsText text → o < length text → is_same (class_at kind text o) Line ≡ false → FoundBehind text o (behind_word kind text o)
word_ends_behind kind text o h l e =
    let P : Bool → Option ℕ = λ v. cond v (offset_beside text o Forward) (behind_run kind text o) in
    elim (test_cases (is_same (class_at kind text o) Blank)) [
      | inl t ↦ let ne : length text - 1 ≡ o → ⊥ = apart kind Line text (length text - 1) o (ap (λ c. is_same c Line) (last_class kind text h)) e in
          let room : o + 1 < length text = omega (arith, h.some) in
          record { at = o + 1; is = ap P t ∙ after_some text o room; later = omega arith; inside = room }
      | inr f ↦ let r : FoundBehind text o (behind_run kind text o) = run_ends kind text o h l e in
          record { at = r.at; is = ap P f ∙ r.is; later = r.later; inside = r.inside }
    ]

next_some : (kind : WordKind) (text : List ℕ) (o : ℕ) → IsText text → o < length text → is_same (class_at kind text o) Line ≡ false → IsSome (last_before_next kind text o)
next_some kind text o h l e =
    let d : FoundBehind text o (behind_word kind text o) = word_ends_behind kind text o h l e in
    let search : ℕ → Option ℕ = least_from (is_other kind Blank) text in
    let back : ℕ → Option ℕ = λ n. offset_beside text n Backward in
    let f : IsLeastFrom (is_other kind Blank) text d.at (search d.at) = least_found (is_other kind Blank) text d.at in
    let s : (n : ℕ) × (search d.at ≡ Some n) = finds kind Blank text d.at (search d.at) h d.inside refl f in
    let P : Option ℕ → Type 0 = IsLeastFrom (is_other kind Blank) text d.at in
    let g : FirstFrom (is_other kind Blank) text d.at s.0 = subst P s.1 f in
    some_from (last_before_next kind text o) (s.0 - 1)
    (ap (λ r. option_and_then back (option_and_then search r)) d.is ∙ ap (option_and_then back) s.1 ∙ before_some text s.0 (omega (arith, g.inside.0, d.later)))

run_last_some : (kind : WordKind) (text : List ℕ) (o : ℕ) → IsText text → o < length text → is_same (class_at kind text o) Line ≡ false → IsSome (run_last kind text o)
run_last_some kind text o h l e =
    let r : FoundBehind text o (behind_run kind text o) = run_ends kind text o h l e in
    let back : ℕ → Option ℕ = λ n. offset_beside text n Backward in
    some_from (run_last kind text o) (r.at - 1) (ap (option_and_then back) r.is ∙ before_some text r.at (omega (arith, r.later)))

end_some : (kind : WordKind) (text : List ℕ) (o : ℕ) → IsText text → o < length text → is_same (class_at kind text o) Line ≡ false → IsSome (last_of_word kind text o)
end_some kind text o h l e =
    let search : ℕ → Option ℕ = least_from (is_other kind Blank) text in
    let f : IsLeastFrom (is_other kind Blank) text o (search o) = least_found (is_other kind Blank) text o in
    let s : (n : ℕ) × (search o ≡ Some n) = finds kind Blank text o (search o) h l refl f in
    let P : Option ℕ → Type 0 = IsLeastFrom (is_other kind Blank) text o in
    let g : FirstFrom (is_other kind Blank) text o s.0 = subst P s.1 f in
    let tail : ℕ → Option ℕ = λ n. cond (is_same (class_at kind text n) Line) (offset_beside text n Backward) (run_last kind text n) in
    let Q : Option ℕ → Type 0 = λ r. IsSome (option_and_then tail r) in
    let R : Bool → Type 0 = λ v. IsSome (cond v (offset_beside text s.0 Backward) (run_last kind text s.0)) in
    subst Q (sym s.1)
    (elim (test_cases (is_same (class_at kind text s.0) Line)) [
      | inl t ↦ let ne : s.0 ≡ o → ⊥ = apart kind Line text s.0 o t e in
          subst R (sym t) (some_from (offset_beside text s.0 Backward) (s.0 - 1) (before_some text s.0 (omega (arith, g.inside.0))))
      | inr u ↦ subst R (sym u) (run_last_some kind text s.0 h g.inside.1 u)
    ])

-- a motion forward begins inside the text, and not at a newline
begun_ahead : (kind : WordKind) (text : List ℕ) (w : ℕ → ℕ) (found : Option ℕ) (b : ℕ) → option_and_then (λ n. least_from (is_other kind Line) text (w n)) found ≡ Some b → (b < length text) × (is_same (class_at kind text b) Line ≡ false)
begun_ahead kind text w None b e = absurd (none-some b e)
begun_ahead kind text w (Some n) b e =
    let P : Option ℕ → Type 0 = IsLeastFrom (is_other kind Line) text (w n) in
    let f : FirstFrom (is_other kind Line) text (w n) b = subst P e (least_found (is_other kind Line) text (w n)) in
    (f.inside.1, not_false _ f.passes)

pub next_has_end : (kind : WordKind) (text : List ℕ) (o b : ℕ) → IsText text → begin_ahead kind text o ≡ Some b → IsSome (last_before_next kind text b)
next_has_end kind text o b h e = let s = begun_ahead kind text (with_its_class kind text o) (offset_beside text o Forward) b e in next_some kind text b h s.0 s.1

pub end_has_end : (kind : WordKind) (text : List ℕ) (o b : ℕ) → IsText text → begin_ahead kind text o ≡ Some b → IsSome (last_of_word kind text b)
end_has_end kind text o b h e = let s = begun_ahead kind text (with_its_class kind text o) (offset_beside text o Forward) b e in end_some kind text b h s.0 s.1

-- ---- back

-- the offset behind one that was found up to another and isn't that one
behind_found : (text : List ℕ) (o n : ℕ) → n ≤ o → (n ≡ o → ⊥) → o < length text → IsSome (offset_beside text n Forward)
behind_found text o n h ne l = some_from (offset_beside text n Forward) (n + 1) (after_some text n (omega arith))

run_first_some : (kind : WordKind) (text : List ℕ) (o : ℕ) (found : Option ℕ) → o < length text → IsGreatestTo (is_other kind (class_at kind text o)) text o found → IsSome (behind_or_first text found)
run_first_some kind text o None l f = refl
run_first_some kind text o (Some n) l f =
    let k : Class = class_at kind text o in
    behind_found text o n (omega (arith, f.inside)) (λ e. apart kind k text o n (same_self k) (not_false _ f.passes) (sym e)) l

back_some : (kind : WordKind) (text : List ℕ) (o : ℕ) (found : Option ℕ) → o < length text → is_same (class_at kind text o) Line ≡ false → IsGreatestTo (is_other kind Blank) text o found → IsSome (start_or_first kind text found)
back_some kind text o None l e f = refl
back_some kind text o (Some n) l e f =
    let R : Bool → Type 0 = λ v. IsSome (cond v (offset_beside text n Forward) (run_first kind text n)) in
    elim (test_cases (is_same (class_at kind text n) Line)) [
      | inl t ↦ subst R (sym t) (behind_found text o n (omega (arith, f.inside)) (apart kind Line text n o t e) l)
      | inr u ↦ let inside : n < length text = omega (arith, f.inside) in
          subst R (sym u) (run_first_some kind text n (greatest_to (is_other kind (class_at kind text n)) text n) inside (greatest_found (is_other kind (class_at kind text n)) text n))
    ]

-- a motion back begins inside the text, and not at a newline
begun_back : (kind : WordKind) (text : List ℕ) (o : ℕ) (w : ℕ → ℕ) (found : Option ℕ) (b : ℕ) → o < length text → ((n : ℕ) → found ≡ Some n → w n ≤ o) → option_and_then (λ n. greatest_to (is_other kind Line) text (w n)) found ≡ Some b
    → (b < length text) × (is_same (class_at kind text b) Line ≡ false)
begun_back kind text o w None b l h e = absurd (none-some b e)
begun_back kind text o w (Some n) b l h e =
    let P : Option ℕ → Type 0 = IsGreatestTo (is_other kind Line) text (w n) in
    let f : LastTo (is_other kind Line) text (w n) b = subst P e (greatest_found (is_other kind Line) text (w n)) in
    (omega (arith, f.inside, h n refl), not_false _ f.passes)

-- the offset before another isn't behind it, and neither is the one of the two
before_le : (text : List ℕ) (o n : ℕ) → offset_beside text o Backward ≡ Some n → n ≤ o
before_le text o n e = elim (test_cases (nat_lt 0 o)) [
  | inl t ↦ let P : Bool → Option ℕ = λ v. cond v (Some (o - 1)) None in let s : o - 1 ≡ n = same_Some (o - 1) n (sym (ap P t) ∙ e) in omega arith
  | inr f ↦ let P : Bool → Option ℕ = λ v. cond v (Some (o - 1)) None in absurd (none-some n (sym (ap P f) ∙ e))
]

one_of_both : (b : Bool) (o n : ℕ) → n ≤ o → cond b o n ≤ o
one_of_both true o n h = omega arith
one_of_both false o n h = h

pub back_has_end : (kind : WordKind) (text : List ℕ) (o b : ℕ) → IsText text → o < length text → begin_back kind text o ≡ Some b → IsSome (first_of_word kind text b)
back_has_end kind text o b h l e =
    let s = begun_back kind text o (with_its_class kind text o) (offset_beside text o Backward) b l (λ n f. one_of_both (is_same (class_at kind text o) (class_at kind text n)) o n (before_le text o n f)) e in
    back_some kind text b (greatest_to (is_other kind Blank) text b) s.0 s.1 (greatest_found (is_other kind Blank) text b)
