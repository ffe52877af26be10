-- What a replacement makes of a text, and where its changes begin.
use Rattle.std.proofs.Common.{◌≡◌, ℕ, ◌+◌, ◌-◌, ◌<◌, ◌≤◌, Bool, true, false, cond, eqb, ltb, ◌⊎◌, inl, inr, ◌&&◌, List, [], ◌∷◌, ◌++◌, length, take, drop, refl, sym, ap, ap₂, subst, ◌∙◌, arith, append-nil, append_assoc, length-append, length-take, length-drop, length-take-le, ltb-true, eqb-true, drop_at}
use Rattle.std.specs.List.{AllByRecursion}
use Rattle.std.proofs.lemmas.List.{take_at, drop_all, drop-drop}
use Rattle.text_model.specs.Texts.{IsText, IsStored, ends_in_newline}
use Rattle.text_model.specs.Changes.{Change, Insertion, Erasure, changed, all_changed, put_in, inserted, taken_end, erased, erasure, insertion, insertion_of, front, exchange, replacement, IsChangeInside, move_of}
use Rattle.text_model.specs.Mapping.{shifted, past_insertion, past_erasure}
use Rattle.text_model.proofs.CoordLemmas.{test_cases}
use Rattle.text_model.proofs.ChangeLemmas.{taken_end_cases, taken_end-within, exchange-changes, replacement-plain, replacement-kept, replacement-to_end, put_in-inside, taken_end-inside, length-changed_insertion, length-changed_erasure}
use Rattle.text_model.proofs.MappingLemmas.{past_insertion-before, past_insertion-behind, past_erasure-before, past_erasure-inside}
use Rattle.list_model.proofs.ListLemmas.{all_weaker}
use Rattle.undo_model.specs.Steps.{AreSteps}
use Rattle.undo_model.specs.Edits.{Splice, AreInOrder, splice_changes, edit_changes}
use Rattle.undo_model.proofs.StepLemmas.{steps-stored}
use Rattle.edit_ops.specs.Leaving.{put_for, replaced}

-- a replacement of the range from p to before q has what counts as put in between what was before p and what was behind q, or
-- behind the last newline's place where that stays
pub record Shape (text : List ℕ) (p q : ℕ) (put new : List ℕ) : Type 0 where
  pub kept : ℕ
  pub from : p ≤ kept
  pub «to» : kept ≤ q
  pub whole : (kept ≡ q) ⊎ ((kept + 1 ≡ q) × (q ≡ length text))
  pub parts : new ≡ take p text ++ (put ++ drop kept text)

-- the test for the last newline that stays in the place of another
abbrev pub is_kept : List ℕ → ℕ → ℕ → List ℕ → Bool
is_kept text p q s = ltb p q && (eqb q (length text) && ends_in_newline s)

-- what that test finds
pub record IsKept (text : List ℕ) (p q : ℕ) (s : List ℕ) : Type 0 where
  pub some : p < q
  pub at_end : q ≡ length text
  pub line : ends_in_newline s ≡ true

pub kept-by : (text : List ℕ) (p q : ℕ) (s : List ℕ) → is_kept text p q s ≡ true → IsKept text p q s
kept-by text p q s h =
    elim (test_cases (ltb p q)) [
      | inl a ↦ elim (test_cases (eqb q (length text))) [
        | inl b ↦ record { some = ltb-true p q a; at_end = eqb-true q (length text) b; line = sym (ap₂ (λ v w. v && (w && ends_in_newline s)) a b) ∙ h }
        | inr b ↦ absurd (let n : false ≡ true = sym (ap₂ (λ v w. v && (w && ends_in_newline s)) a b) ∙ h in cc)
      ]
      | inr a ↦ absurd (let n : false ≡ true = sym (ap (λ v. v && (eqb q (length text) && ends_in_newline s)) a) ∙ h in cc)
    ]

pub put_for-kept : (text : List ℕ) (p q : ℕ) (s : List ℕ) → is_kept text p q s ≡ true → put_for text p q s ≡ s
put_for-kept text p q s h = ap (λ v. cond v s (put_in (erased text p q) p s)) h

pub put_for-plain : (text : List ℕ) (p q : ℕ) (s : List ℕ) → is_kept text p q s ≡ false → put_for text p q s ≡ put_in (erased text p q) p s
put_for-plain text p q s h = ap (λ v. cond v s (put_in (erased text p q) p s)) h

-- an insertion right behind what is before it
inserted-behind : (a b : List ℕ) (p : ℕ) (s : List ℕ) → length a ≡ p → inserted (a ++ b) p s ≡ a ++ (put_in (a ++ b) p s ++ b)
inserted-behind a b p s e = ap₂ (λ x y. x ++ (put_in (a ++ b) p s ++ y)) (take_at a b p e) (drop_at a b p e)

shape-plain : (text : List ℕ) (p q : ℕ) (s : List ℕ) → IsText text → p ≤ q → q ≤ length text → is_kept text p q s ≡ false → Shape text p q (put_for text p q s) (all_changed text (replacement text p q s))
shape-plain text p q s h k l b =
    let e : ℕ = taken_end text p q in
    let within : (p ≤ e) × (e ≤ q) = taken_end-within text p q h k l in
    record {
      kept = e;
      from = within.0;
      «to» = within.1;
      whole = elim (taken_end_cases text p q) [ inl w ↦ inl w.0 | inr w ↦ inr (omega (arith, w.0, w.1, h.some), w.1) ];
      parts = ap (all_changed text) (replacement-plain text p q s b) ∙ exchange-changes text p q s h k l
          ∙ inserted-behind (take p text) (drop e text) p s (length-take-le p text (omega arith))
          ∙ ap (λ t. take p text ++ (t ++ drop e text)) (sym (put_for-plain text p q s b));
    }

shape-kept : (text : List ℕ) (p q : ℕ) (s : List ℕ) → IsText text → p ≤ q → q ≤ length text → is_kept text p q s ≡ true → Shape text p q (put_for text p q s) (all_changed text (replacement text p q s))
shape-kept text p q s h k l b =
    let is : IsKept text p q s = kept-by text p q s b in
    record {
      kept = q;
      from = k;
      «to» = omega arith;
      whole = inl refl;
      parts = ap (λ n. all_changed text (replacement text p n s)) is.at_end ∙ replacement-to_end text p s h (omega (arith, is.some)) is.line
          ∙ ap (λ t. take p text ++ t) (sym (ap₂ (λ x y. x ++ y) (put_for-kept text p q s b) (drop_all q text (omega (arith, is.at_end))) ∙ append-nil s));
    }

pub shape : (text : List ℕ) (p q : ℕ) (s : List ℕ) → IsText text → p ≤ q → q ≤ length text → Shape text p q (put_for text p q s) (all_changed text (replacement text p q s))
shape text p q s h k l = elim (test_cases (is_kept text p q s)) [ inl b ↦ shape-kept text p q s h k l b | inr b ↦ shape-plain text p q s h k l b ]

-- how long the new text is
pub shape-length : (text : List ℕ) (p q : ℕ) (put new : List ℕ) → q ≤ length text → (s : Shape text p q put new) → length new + s.kept ≡ length text + (p + length put)
shape-length text p q put new l s =
    omega (arith, ap length s.parts, length-append (take p text) (put ++ drop s.kept text), length-append put (drop s.kept text), length-take-le p text (omega (arith, s.from, s.to)), length-drop s.kept text, s.from, s.to)

-- behind the range, the new text is the old one
pub shape-behind : (text : List ℕ) (p q t : ℕ) (put new : List ℕ) → q ≤ length text → Shape text p q put new → t + length text ≡ q + length new → drop q text ≡ drop t new
shape-behind text p q t put new l s e =
    elim s.whole [
      | inl w ↦
          (let at : t ≡ length put + p = omega (arith, shape-length text p q put new l s, w) in
          let front : drop p new ≡ put ++ drop s.kept text = ap (drop p) s.parts ∙ drop_at (take p text) (put ++ drop s.kept text) p (length-take-le p text (omega (arith, s.from, s.to))) in
          sym (ap (λ n. drop n new) (at ∙ omega arith) ∙ sym (drop-drop (length put) p new) ∙ ap (drop (length put)) front ∙ drop_at put (drop s.kept text) (length put) refl ∙ ap (λ n. drop n text) w))
      | inr w ↦ drop_all q text (omega (arith, w.1)) ∙ sym (drop_all t new (omega (arith, w.1)))
    ]

-- where a change begins, and the least place behind it where nothing that is behind it has gone
abbrev pub begin_of : Change → ℕ
begin_of (Insertion p s) = p
begin_of (Erasure p q) = p

abbrev pub top_of : Change → ℕ
top_of (Insertion p s) = p + length s
top_of (Erasure p q) = p

-- changes begin at an offset at the earliest
abbrev pub AllFrom : ℕ → List Change → Type 0
AllFrom o cs = AllByRecursion (λ c. o ≤ begin_of c) cs

-- each change begins behind the ones before it
abbrev pub Rises : List Change → Type 0
Rises [] = Unit {0}
Rises (c ∷ cs) = AllFrom (top_of c) cs × Rises cs

-- changes that rise, from an offset on
pub record RisesFrom (o : ℕ) (cs : List Change) : Type 0 where
  pub from : AllFrom o cs
  pub rise : Rises cs

pub from-later : (m n : ℕ) (cs : List Change) → m ≤ n → RisesFrom n cs → RisesFrom m cs
from-later m n cs h r = record { from = all_weaker (λ (c : Change). n ≤ begin_of c) (λ (c : Change). m ≤ begin_of c) (λ c k. omega arith) cs r.from; rise = r.rise }

rises-insertion : (p : ℕ) (s : List ℕ) (e : ℕ) (ds : List Change) → p + length s ≤ e → RisesFrom e ds → RisesFrom p (insertion_of p s ++ ds)
rises-insertion p [] e ds h r = from-later p e ds (omega arith) r
rises-insertion p (c ∷ cs) e ds h r = record { from = (omega arith, (from-later p e ds (omega arith) r).from); rise = ((from-later (p + length (c ∷ cs)) e ds h r).from, r.rise) }

rises-erasure : (text : List ℕ) (p q : ℕ) (ds : List Change) → RisesFrom p ds → RisesFrom p (erasure text p q ++ ds)
rises-erasure text p q ds r =
    let P : Bool → Type 0 = λ v. RisesFrom p (cond v (Erasure p (taken_end text p q) ∷ []) [] ++ ds) in
    elim (ltb p (taken_end text p q)) as P [ true ↦ record { from = (omega arith, r.from); rise = (r.from, r.rise) } | false ↦ r ]

pub rises-exchange : (text : List ℕ) (p q : ℕ) (s : List ℕ) (e : ℕ) (ds : List Change) → p + length (put_in (erased text p q) p s) ≤ e → RisesFrom e ds → RisesFrom p (exchange text p q s ++ ds)
rises-exchange text p q s e ds h r =
    subst (RisesFrom p) (sym (append_assoc (erasure text p q) (insertion (erased text p q) p s) ds)) (rises-erasure text p q (insertion (erased text p q) p s ++ ds) (rises-insertion p (put_in (erased text p q) p s) e ds h r))

pub rises-replacement : (text : List ℕ) (p q : ℕ) (s : List ℕ) (e : ℕ) (ds : List Change) → q ≤ length text → p + length (put_for text p q s) ≤ e → RisesFrom e ds → RisesFrom p (replacement text p q s ++ ds)
rises-replacement text p q s e ds l h r =
    elim (test_cases (is_kept text p q s)) [
      | inl b ↦
          (let is : IsKept text p q s = kept-by text p q s b in
          let inside : put_in (erased text p (q - 1)) p (front s) ≡ front s = put_in-inside (erased text p (q - 1)) p (front s) (room is) in
          let few : p + length (put_in (erased text p (q - 1)) p (front s)) ≤ e = omega (arith, ap length inside, length-take (length s - 1) s, ap length (put_for-kept text p q s b)) in
          subst (λ cs. RisesFrom p (cs ++ ds)) (sym (replacement-kept text p q s is.some is.at_end is.line)) (rises-exchange text p (q - 1) (front s) e ds few r))
      | inr b ↦
          (let few : p + length (put_in (erased text p q) p s) ≤ e = omega (arith, ap length (put_for-plain text p q s b)) in
          subst (λ cs. RisesFrom p (cs ++ ds)) (sym (replacement-plain text p q s b)) (rises-exchange text p q s e ds few r))
    ]
  where
    room : IsKept text p q s → p < length (erased text p (q - 1))
    room is =
        let end : taken_end text p (q - 1) ≡ q - 1 = taken_end-inside text p (q - 1) (omega (arith, is.some)) in
        omega (arith, length-append (take p text) (drop (taken_end text p (q - 1)) text), length-take-le p text (omega (arith, is.some)), length-drop (taken_end text p (q - 1)) text, is.some, is.at_end)

-- steps in two parts
pub steps-front : (text : List ℕ) (cs ds : List Change) → AreSteps text (cs ++ ds) → AreSteps text cs
steps-front text [] ds h = tt
steps-front text (c ∷ cs) ds h = (h.0, steps-front (changed text c) cs ds h.1)

pub steps-back : (text : List ℕ) (cs ds : List Change) → AreSteps text (cs ++ ds) → AreSteps (all_changed text cs) ds
steps-back text [] ds h = h
steps-back text (c ∷ cs) ds h = steps-back (changed text c) cs ds h.1

pub order-within : (from last : ℕ) (ss : List Splice) → AreInOrder from last ss → from ≤ last
order-within from last [] k = k
order-within from last (s ∷ ss) k = omega (arith, k.0, k.1, order-within s.to last ss k.2)

-- the changes of an edit rise, from where the part before them ended
pub edit-rises : (before : ℕ) (text : List ℕ) (from : ℕ) (ss : List Splice) → IsStored text → before ≤ from + length text → AreInOrder from before ss → AreSteps text (edit_changes before text ss)
    → RisesFrom (from + length text - before) (edit_changes before text ss)
edit-rises before text from [] h b k a = record { from = tt; rise = tt }
edit-rises before text from (s ∷ ss) h b k a =
    let p : ℕ = s.from + length text - before in
    let q : ℕ = s.to + length text - before in
    let cs : List Change = splice_changes before text s in
    let new : List ℕ = replaced before text s in
    let within : s.to ≤ before = order-within s.to before ss k.2 in
    let one : Shape text p q (put_for text p q s.put) new = shape text p q s.put h.is_text (omega (arith, k.1)) (omega arith) in
    let long : length new + one.kept ≡ length text + (p + length (put_for text p q s.put)) = shape-length text p q (put_for text p q s.put) new (omega arith) one in
    let rest : RisesFrom (s.to + length new - before) (edit_changes before new ss) =
    edit-rises before new s.to ss (steps-stored text cs h (steps-front text cs (edit_changes before new ss) a)) (omega (arith, long, one.from, one.to, k.0, k.1)) k.2 (steps-back text cs (edit_changes before new ss) a) in
    from-later (from + length text - before) p (cs ++ edit_changes before new ss) (omega (arith, k.0))
    (rises-replacement text p q s.put (s.to + length new - before) (edit_changes before new ss) (omega arith) (omega (arith, long, one.to, k.0, k.1)) rest)

-- a change leaves the places before it
pub shift-stays : (text : List ℕ) (c : Change) (o : ℕ) → IsChangeInside text c → o + 1 ≤ begin_of c → shifted (move_of text c) o ≡ o
shift-stays text (Insertion p s) o h k =
    let same : past_insertion p (p + length s - p) o ≡ o = past_insertion-before p (p + length s - p) o (omega arith) in
    omega (arith, same, length-changed_insertion text p s h)
shift-stays text (Erasure p q) o h k =
    let same : past_erasure p q o ≡ o = past_erasure-before p q o (omega arith) in
    omega (arith, same, length-changed_erasure text p q h.0 h.1, h.0, h.1)

-- a change takes its begin no further than behind what it puts in
pub shift-top : (text : List ℕ) (c : Change) → IsChangeInside text c → shifted (move_of text c) (begin_of c) ≤ top_of c
shift-top text (Insertion p s) h =
    let goes : past_insertion p (p + length s - p) p ≡ p + (p + length s - p) = past_insertion-behind p (p + length s - p) p (omega arith) in
    omega (arith, goes)
shift-top text (Erasure p q) h =
    let goes : past_erasure p q p ≡ p = past_erasure-inside p q p (omega arith) h.0 in
    omega (arith, goes)
