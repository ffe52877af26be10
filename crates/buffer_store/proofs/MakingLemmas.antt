-- Lemmas on kept changes: what they are by offsets, and that they can be made and taken back.
use Rattle.std.proofs.Common.{◌≡◌, ℕ, ◌+◌, ◌-◌, ◌<◌, ◌≤◌, Bool, true, false, not, ◌&&◌, List, [], ◌∷◌, ◌++◌, length, take, drop, get_or, refl, sym, ap, ap₂, subst, ◌∙◌, arith, inl, inr, ◌⊎◌, append-nil, length-append, length-take-le, take_at, get_or-take, get_or-append-add, eq-eqb, lt-ltb, take-append-drop, OnOk, OnErr, Ok, Err}
use Rattle.std.proofs.lemmas.List.{drop_all, drop_more, take_more}
use Rattle.std.specs.declared.result.Result.{Result}
use Rattle.text_model.specs.declared.coords.Coord.{Coord}
use Rattle.text_model.specs.declared.coords.Shift.{Shift}
use Rattle.text_model.specs.Coords.{origin, reached}
use Rattle.text_model.specs.Texts.{IsText, IsStored, IsPlaceOrEnd, offset, coord_at}
use Rattle.text_model.specs.Changes.{put_in, inserted, begins_line, taken_end, erased, Change, Insertion, Erasure, changed, inverse, all_changed, move_of, IsShift}
use Rattle.text_model.proofs.PlaceLemmas.{three_ways, offset-coord_at, IsPlaceOrEnd-coord_at}
use Rattle.text_model.proofs.ChangeLemmas.{text_ends, ended-text, put_in-inside, taken_end-inside, taken_end_cases, changed-inverse, all_changed-append, length-changed_insertion, length-changed_erasure}
use Rattle.line_buffer.proofs.InsertLemmas.{put_in-ended}
use Rattle.change_list.specs.declared.change.Change.{Change as Kept}
use Rattle.undo_model.specs.Steps.{IsStep, undoing}
use Rattle.undo_model.proofs.StepLemmas.{inverse-step}
use Rattle.buffer_store.specs.Stored.{turn, flat, flat_back, shift_of, change_shifts, KeptFits, AllFit, flats, made, backs, IsMade}

-- what ends a text is one
text_tail : (xs ys : List ℕ) → IsText (xs ++ ys) → 0 < length ys → IsText ys
text_tail xs ys h p =
    let long : length (xs ++ ys) ≡ length xs + length ys = length-append xs ys in
    let at : length xs + (length ys - 1) ≡ length (xs ++ ys) - 1 = omega arith in
    record { some = p; ended = sym (get_or-append-add xs ys (length ys - 1) 0) ∙ ap (λ n. get_or (xs ++ ys) n 0) at ∙ h.ended }

-- a step that puts characters in puts in just these
pub put_in-step : (text : List ℕ) (p : ℕ) (s : List ℕ) → IsStep text (Insertion p s) → put_in text p s ≡ s
put_in-step text p s h =
    elim (three_ways p (length text)) [
      | inl lt ↦ put_in-inside text p s lt
      | inr w ↦ elim w [
        | inl e ↦ put_in-ended text p s e h.some ∙ ended-text s (text_ends s (whole e))
        | inr gt ↦ absurd (omega (arith, h.inside))
      ]
    ]
  where
    whole : p ≡ length text → IsText s
    whole e =
        let none : drop p text ≡ [] = drop_all p text (omega arith) in
        let P : List ℕ → Type 0 = λ x. IsText (take p text ++ x) in
        text_tail (take p text) s (subst P (ap (λ x. s ++ x) none ∙ append-nil s) h.stored.is_text) h.some

pub inserted-step : (text : List ℕ) (p : ℕ) (s : List ℕ) → IsStep text (Insertion p s) → inserted text p s ≡ changed text (Insertion p s)
inserted-step text p s h = ap (λ x. take p text ++ (x ++ drop p text)) (put_in-step text p s h)

-- a step that takes a range out takes all of it
pub taken_end-step : (text : List ℕ) (p q : ℕ) → IsStep text (Erasure p q) → taken_end text p q ≡ q
taken_end-step text p q h =
    elim (three_ways q (length text)) [
      | inl lt ↦ taken_end-inside text p q lt
      | inr w ↦ elim w [
        | inl e ↦ elim (taken_end_cases text p q) [
          | inl v ↦ v.0
          | inr v ↦ absurd (let both : true ≡ false = sym (begins e) ∙ v.2 in cc)
        ]
        | inr gt ↦ absurd (omega (arith, h.inside.1))
      ]
    ]
  where
    begins : q ≡ length text → begins_line text p ≡ true
    begins e =
        let none : drop q text ≡ [] = drop_all q text (omega arith) in
        let front : IsText (take p text) = subst IsText (ap (λ x. take p text ++ x) none ∙ append-nil (take p text)) h.stored.is_text in
        let long : length (take p text) ≡ p = length-take-le p text (omega (arith, h.inside.0, h.inside.1)) in
        let some : 0 < p = omega (arith, front.some) in
        let last : get_or text (p - 1) 0 ≡ 10 = sym (get_or-take p text (p - 1) 0 (omega arith)) ∙ ap (λ n. get_or (take p text) (n - 1) 0) (sym long) ∙ front.ended in
        ap₂ (λ v w. v && w) (lt-ltb 0 p some) (eq-eqb (get_or text (p - 1) 0) 10 last)

pub erased-step : (text : List ℕ) (p q : ℕ) → IsStep text (Erasure p q) → erased text p q ≡ changed text (Erasure p q)
erased-step text p q h = ap (λ n. take p text ++ drop n text) (taken_end-step text p q h)

same_shift : (i j : Bool) (b d e f l m : Coord) → i ≡ j → b ≡ d → e ≡ f → l ≡ m → (let s : Shift = record { insert = i; begin = b; «end» = e; last = l } in s) ≡ record { insert = j; begin = d; «end» = f; last = m }
same_shift i j b d e f l m p q r s =
    ap₂ (λ x y. (let t : Shift = record { insert = x; begin = y; «end» = e; last = l } in t)) p q ∙ ap₂ (λ x y. (let t : Shift = record { insert = j; begin = d; «end» = x; last = y } in t)) r s

-- a shift of a change is the change's
pub shift-is : (text : List ℕ) (c : Change) (s : Shift) → IsShift text (changed text c) s (move_of text c) → s ≡ shift_of text c
shift-is text c s h = same_shift _ _ _ _ _ _ _ _ h.insert_is h.begin_is h.end_is h.last_is

-- where a change begins is the same coordinate of the texts before and behind it
begins-same : (text : List ℕ) (c : Change) (p : ℕ) (s : List ℕ) (insert : Bool) → c ≡ turn insert p s → IsStep text c → (coord_at text p ≡ coord_at (changed text c) p) × (p ≤ length text) × (p ≤ length (changed text c))
begins-same text c p s true e h =
    let P : Change → Type 0 = λ x. IsStep text x → (coord_at text p ≡ coord_at (changed text x) p) × (p ≤ length text) × (p ≤ length (changed text x)) in
    subst P (sym e) (λ k. (sym (ap (reached origin) (take_at (take p text) (s ++ drop p text) p (length-take-le p text k.inside))), k.inside, omega (arith, k.inside, length-changed_insertion text p s k.inside))) h
begins-same text c p s false e h =
    let P : Change → Type 0 = λ x. IsStep text x → (coord_at text p ≡ coord_at (changed text x) p) × (p ≤ length text) × (p ≤ length (changed text x)) in
    subst P (sym e) (λ k. (sym (ap (reached origin) (take_at (take p text) (drop (p + length s) text) p (length-take-le p text (omega (arith, k.inside.1))))), omega (arith, k.inside.1), omega (arith, k.inside.0, k.inside.1, length-changed_erasure text p (p + length s) k.inside.0 k.inside.1))) h

-- what a turn of a text needs, of its coordinates
pub record CanTurn (text : List ℕ) (insert : Bool) (begin last : Coord) (chars : List ℕ) : Type 0 where
  pub begin_in : IsPlaceOrEnd text begin
  pub last_in : (insert ≡ true) ⊎ (IsPlaceOrEnd text last × (offset text last ≡ offset text begin + length chars))
  pub step : IsStep text (turn insert (offset text begin) chars)

-- a coordinate of an offset, as a place of the text
place_of : (text : List ℕ) (at : Coord) (p : ℕ) → IsText text → p ≤ length text → at ≡ coord_at text p → IsPlaceOrEnd text at
place_of text at p h k e = subst (IsPlaceOrEnd text) (sym e) (IsPlaceOrEnd-coord_at text p h k)

offset_of_place : (text : List ℕ) (at : Coord) (p : ℕ) → p ≤ length text → at ≡ coord_at text p → offset text at ≡ p
offset_of_place text at p k e = ap (offset text) e ∙ offset-coord_at text p k

-- a change that fits can be made
turns : (text : List ℕ) (insert : Bool) (b e : Coord) (chars : List ℕ) → IsStored text → IsStep text (turn insert (offset text b) chars) → b ≡ (shift_of text (turn insert (offset text b) chars)).begin → e ≡ (shift_of text (turn insert (offset text b) chars)).end → CanTurn text insert b e chars
turns text true b e chars h step bis eis =
    let p : ℕ = offset text b in
    let same : (coord_at text p ≡ coord_at (changed text (Insertion p chars)) p) × (p ≤ length text) × (p ≤ length (changed text (Insertion p chars))) = begins-same text (Insertion p chars) p chars true refl step in
    record { begin_in = place_of text b p h.is_text step.inside (bis ∙ sym same.0); last_in = inl refl; step = step }
turns text false b e chars h step bis eis =
    let p : ℕ = offset text b in
    let q : ℕ = p + length chars in
    let short : p ≤ length text = omega (arith, step.inside.1) in
    record { begin_in = place_of text b p h.is_text short bis; last_in = inr (place_of text e q h.is_text step.inside.1 eis, offset_of_place text e q step.inside.1 eis); step = step }

pub fits-turns : (text : List ℕ) (k : Kept) → KeptFits text k → CanTurn text k.shift.insert k.shift.begin k.shift.end k.chars
fits-turns text k h = turns text k.shift.insert k.shift.begin k.shift.end k.chars h.stored h.step h.shift.begin_is h.shift.end_is

-- and what was made begins at the same offset, and can be taken back
pub record CanTurnBack (text : List ℕ) (p : ℕ) (insert : Bool) (begin last : Coord) (chars : List ℕ) : Type 0 where
  pub same : offset text begin ≡ p
  pub turns : CanTurn text (not insert) begin last chars

turns_back : (text : List ℕ) (insert : Bool) (b e : Coord) (chars : List ℕ) → IsStored text → IsStep text (turn insert (offset text b) chars) → b ≡ (shift_of text (turn insert (offset text b) chars)).begin → e ≡ (shift_of text (turn insert (offset text b) chars)).end → inverse text (turn insert (offset text b) chars) ≡ turn (not insert) (offset text b) chars → CanTurnBack (changed text (turn insert (offset text b) chars)) (offset text b) insert b e chars
turns_back text true b e chars h step bis eis back =
    let p : ℕ = offset text b in
    let new : List ℕ = changed text (Insertion p chars) in
    let same : (coord_at text p ≡ coord_at new p) × (p ≤ length text) × (p ≤ length new) = begins-same text (Insertion p chars) p chars true refl step in
    let at : offset new b ≡ p = offset_of_place new b p same.2 bis in
    let last : p + length chars ≤ length new = omega (arith, step.inside, length-changed_insertion text p chars step.inside) in
    let P : ℕ → Type 0 = λ n. IsStep new (turn false n chars) in
    record {
      same = at;
      turns = record {
        begin_in = place_of new b p step.stored.is_text same.2 bis;
        last_in = inr (place_of new e (p + length chars) step.stored.is_text last eis, offset_of_place new e (p + length chars) last eis ∙ ap (λ n. n + length chars) (sym at));
        step = subst P (sym at) (inverse-step text (Insertion p chars) h step);
      };
    }
turns_back text false b e chars h step bis eis back =
    let p : ℕ = offset text b in
    let new : List ℕ = changed text (Erasure p (p + length chars)) in
    let same : (coord_at text p ≡ coord_at new p) × (p ≤ length text) × (p ≤ length new) = begins-same text (Erasure p (p + length chars)) p chars false refl step in
    let at : offset new b ≡ p = offset_of_place new b p same.2 (bis ∙ same.0) in
    let P : ℕ → Type 0 = λ n. IsStep new (turn true n chars) in
    let Q : Change → Type 0 = λ x. IsStep new x in
    record {
      same = at;
      turns = record {
        begin_in = place_of new b p step.stored.is_text same.2 (bis ∙ same.0);
        last_in = inl refl;
        step = subst P (sym at) (subst Q back (inverse-step text (Erasure p (p + length chars)) h step));
      };
    }

pub fits-turns_back : (text : List ℕ) (k : Kept) → KeptFits text k → CanTurnBack (changed text (flat text k)) (offset text k.shift.begin) k.shift.insert k.shift.begin k.shift.end k.chars
fits-turns_back text k h = turns_back text k.shift.insert k.shift.begin k.shift.end k.chars h.stored h.step h.shift.begin_is h.shift.end_is h.chars

-- what takes a change back is its inverse
pub flat_back-is : (text : List ℕ) (k : Kept) → KeptFits text k → flat_back (changed text (flat text k)) k ≡ inverse text (flat text k)
flat_back-is text k h = ap (λ n. turn (not k.shift.insert) n k.chars) (fits-turns_back text k h).same ∙ sym h.chars

-- the last change of a text
pub made-turns_back : (text : List ℕ) (k : Kept) → IsMade text (k ∷ []) → CanTurn text (not k.shift.insert) k.shift.begin k.shift.end k.chars
made-turns_back text k h =
    let P : List ℕ → Type 0 = λ t. CanTurn t (not k.shift.insert) k.shift.begin k.shift.end k.chars in
    subst P (sym h.is_made) (fits-turns_back h.before k h.fit.0).turns

-- kept changes in two parts
pub made-append : (text : List ℕ) (xs ys : List Kept) → made text (xs ++ ys) ≡ made (made text xs) ys
made-append text [] ys = refl
made-append text (x ∷ xs) ys = made-append (changed text (flat text x)) xs ys

pub flats-append : (text : List ℕ) (xs ys : List Kept) → flats text (xs ++ ys) ≡ flats text xs ++ flats (made text xs) ys
flats-append text [] ys = refl
flats-append text (x ∷ xs) ys = ap (λ cs. flat text x ∷ cs) (flats-append (changed text (flat text x)) xs ys)

pub shifts_of-append : (text : List ℕ) (cs ds : List Change) → change_shifts text (cs ++ ds) ≡ change_shifts text cs ++ change_shifts (all_changed text cs) ds
shifts_of-append text [] ds = refl
shifts_of-append text (c ∷ cs) ds = ap (λ ss. shift_of text c ∷ ss) (shifts_of-append (changed text c) cs ds)

pub fit-behind : (text : List ℕ) (xs ys : List Kept) → AllFit text (xs ++ ys) → AllFit (made text xs) ys
fit-behind text [] ys h = h
fit-behind text (x ∷ xs) ys h = fit-behind (changed text (flat text x)) xs ys h.1

-- kept changes make what they are by offsets
pub made-flats : (text : List ℕ) (ks : List Kept) → made text ks ≡ all_changed text (flats text ks)
made-flats text [] = refl
made-flats text (k ∷ ks) = made-flats (changed text (flat text k)) ks

-- what takes kept changes back takes what they are by offsets back
pub backs-undoing : (text : List ℕ) (ks : List Kept) → AllFit text ks → (backs (made text ks) ks ≡ undoing text (flats text ks)) × (all_changed (made text ks) (backs (made text ks) ks) ≡ text)
backs-undoing text [] h = (refl, refl)
backs-undoing text (k ∷ ks) h =
    let new : List ℕ = changed text (flat text k) in
    let all : List ℕ = made new ks in
    let rest : (backs all ks ≡ undoing new (flats new ks)) × (all_changed all (backs all ks) ≡ new) = backs-undoing new ks h.1 in
    let one : flat_back (all_changed all (backs all ks)) k ≡ inverse text (flat text k) = ap (λ t. flat_back t k) rest.1 ∙ flat_back-is text k h.0 in (
      ap₂ (λ cs c. cs ++ c ∷ []) rest.0 one,
      all_changed-append all (backs all ks) (flat_back (all_changed all (backs all ks)) k ∷ []) ∙ ap₂ changed rest.1 one ∙ changed-inverse text (flat text k) h.0.step.inside,
    )

-- what holds anyhow holds at an error
pub on_any : {T E : Type 0} (r : Result T E) (P : Type 0) → P → OnErr r P
on_any (Ok x) P h = tt
on_any (Err e) P h = h

-- what holds where there is no error holds in a weaker form
pub weaker_on_ok : {T E : Type 0} (r : Result T E) (P Q : Type 0) → (P → Q) → OnOk r P → OnOk r Q
weaker_on_ok (Ok x) P Q f h = f h
weaker_on_ok (Err e) P Q f h = tt

-- and what holds at an error
pub weaker_on_err : {T E : Type 0} (r : Result T E) (P Q : Type 0) → (P → Q) → OnErr r P → OnErr r Q
weaker_on_err (Ok x) P Q f h = tt
weaker_on_err (Err e) P Q f h = f h

-- the n-th kept change fits the text behind those before it
pub fit-at : (text : List ℕ) (ks : List Kept) (n : ℕ) (k : Kept) → AllFit text ks → n < length ks → k ≡ get_or ks n k → KeptFits (made text (take n ks)) k
fit-at text ks n k h lt is =
    let P : List Kept → Type 0 = AllFit text in
    let Q : List Kept → Type 0 = AllFit (made text (take n ks)) in
    (subst Q (drop_more ks n k lt ∙ ap (λ x. x ∷ drop (n + 1) ks) (sym is)) (fit-behind text (take n ks) (drop n ks) (subst P (sym (take-append-drop n ks)) h))).0

-- one kept change more
pub made-more : (text : List ℕ) (ks : List Kept) (n : ℕ) (k : Kept) → n < length ks → k ≡ get_or ks n k → made text (take (n + 1) ks) ≡ changed (made text (take n ks)) (flat (made text (take n ks)) k)
made-more text ks n k lt is = ap (made text) (take_more ks n k lt ∙ ap (λ x. take n ks ++ x ∷ []) (sym is)) ∙ made-append text (take n ks) (k ∷ [])

pub shifts-more : (text : List ℕ) (ks : List Kept) (n : ℕ) (k : Kept) → n < length ks → k ≡ get_or ks n k → change_shifts text (flats text (take (n + 1) ks)) ≡ change_shifts text (flats text (take n ks)) ++ shift_of (made text (take n ks)) (flat (made text (take n ks)) k) ∷ []
shifts-more text ks n k lt is =
    ap (λ x. change_shifts text (flats text x)) (take_more ks n k lt ∙ ap (λ x. take n ks ++ x ∷ []) (sym is)) ∙ ap (change_shifts text) (flats-append text (take n ks) (k ∷ [])) ∙ shifts_of-append text (flats text (take n ks)) (flat (made text (take n ks)) k ∷ []) ∙ ap (λ t. change_shifts text (flats text (take n ks)) ++ shift_of t (flat (made text (take n ks)) k) ∷ []) (sym (made-flats text (take n ks)))

-- one kept change less
pub backs-more : (text : List ℕ) (ks : List Kept) (n m : ℕ) (k : Kept) → n + 1 ≡ m → n < length ks → k ≡ get_or ks n k → backs text (drop n ks) ≡ backs text (drop m ks) ++ flat_back (all_changed text (backs text (drop m ks))) k ∷ []
backs-more text ks n m k e lt is = ap (backs text) (drop_more ks n k lt ∙ ap₂ (λ x y. x ∷ drop y ks) (sym is) e)

pub text_back-more : (text : List ℕ) (ks : List Kept) (n m : ℕ) (k : Kept) → n + 1 ≡ m → n < length ks → k ≡ get_or ks n k → all_changed text (backs text (drop n ks)) ≡ changed (all_changed text (backs text (drop m ks))) (flat_back (all_changed text (backs text (drop m ks))) k)
text_back-more text ks n m k e lt is =
    ap (all_changed text) (backs-more text ks n m k e lt is) ∙ all_changed-append text (backs text (drop m ks)) (flat_back (all_changed text (backs text (drop m ks))) k ∷ [])

pub shifts_back-more : (text : List ℕ) (ks : List Kept) (n m : ℕ) (k : Kept) → n + 1 ≡ m → n < length ks → k ≡ get_or ks n k → change_shifts text (backs text (drop n ks)) ≡ change_shifts text (backs text (drop m ks)) ++ shift_of (all_changed text (backs text (drop m ks))) (flat_back (all_changed text (backs text (drop m ks))) k) ∷ []
shifts_back-more text ks n m k e lt is =
    ap (change_shifts text) (backs-more text ks n m k e lt is) ∙ shifts_of-append text (backs text (drop m ks)) (flat_back (all_changed text (backs text (drop m ks))) k ∷ [])

-- behind some kept changes taken back, those before them were made
pub is_made-back : (text : List ℕ) (ks : List Kept) (n m : ℕ) (k : Kept) → IsMade text ks → n + 1 ≡ m → n < length ks → k ≡ get_or ks n k → IsMade (all_changed text (backs text (drop m ks))) (k ∷ [])
is_made-back text ks n m k h e lt is =
    let first : List ℕ = made h.before (take m ks) in
    let P : List Kept → Type 0 = AllFit h.before in
    let fit : AllFit first (drop m ks) = fit-behind h.before (take m ks) (drop m ks) (subst P (sym (take-append-drop m ks)) h.fit) in
    let whole : text ≡ made first (drop m ks) = h.is_made ∙ ap (made h.before) (sym (take-append-drop m ks)) ∙ made-append h.before (take m ks) (drop m ks) in
    let back : all_changed text (backs text (drop m ks)) ≡ first = ap (λ t. all_changed t (backs t (drop m ks))) whole ∙ (backs-undoing first (drop m ks) fit).1 in
    record {
      before = made h.before (take n ks);
      fit = (fit-at h.before ks n k h.fit lt is, tt);
      is_made = back ∙ ap (λ x. made h.before (take x ks)) (sym e) ∙ made-more h.before ks n k lt is;
    }

-- a change that was taken back fits again
pub back-fits : (text : List ℕ) (k : Kept) → IsMade text (k ∷ []) → KeptFits (changed text (flat_back text k)) k
back-fits text k h =
    let P : List ℕ → Type 0 = λ t. KeptFits (changed t (flat_back t k)) k in
    let Q : List ℕ → Type 0 = λ t. KeptFits t k in
    let back : changed (changed h.before (flat h.before k)) (flat_back (changed h.before (flat h.before k)) k) ≡ h.before = ap (changed (changed h.before (flat h.before k))) (flat_back-is h.before k h.fit.0) ∙ changed-inverse h.before (flat h.before k) h.fit.0.step.inside in
    subst P (sym h.is_made) (subst Q (sym back) h.fit.0)
