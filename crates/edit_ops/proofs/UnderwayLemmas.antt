-- How a replacement is passed: what is known of the text of the moment before it, and behind it.
use Rattle.std.proofs.Common.{◌≡◌, ◌≢◌, ℕ, ◌+◌, ◌-◌, ◌<◌, ◌≤◌, Bool, true, false, not, cond, eqb, ltb, leb, inl, inr, ◌&&◌, List, [], ◌∷◌, ◌++◌, length, drop, get_or, refl, sym, ap, ap₂, subst, ◌∙◌, arith, length-append, length-drop, lt-ltb, le-ltb, eq-eqb, ne_eqb, drop_at}
use Rattle.std.specs.List.{AllByRecursion}
use Rattle.std.proofs.lemmas.List.{drop-drop, get_or-drop, get_or_append_left}
use Rattle.text_model.specs.declared.coords.Coord.{Coord}
use Rattle.text_model.specs.declared.coords.Shift.{Shift}
use Rattle.text_model.specs.Coords.{origin, is_at_most}
use Rattle.text_model.specs.Texts.{IsText, IsStored, IsPlace, IsPlaceOrEnd, ends_in_newline, offset, coord_at, last_place}
use Rattle.text_model.specs.Changes.{Change, all_changed, put_in, erased, begins_line, erasure, insertion_of}
use Rattle.text_model.proofs.CoordLemmas.{after-newline}
use Rattle.text_model.proofs.ChangeLemmas.{replacement-plain}
use Rattle.text_model.proofs.PlaceLemmas.{offset-coord_at, coord_at-offset_or_end, offset_determines, IsPlace-coord_at, IsPlaceOrEnd-coord_at, is_at_most-offset, leb_true, leb_false}
use Rattle.line_buffer.proofs.EraseLemmas.{begins_line-at}
use Rattle.line_buffer.proofs.InsertLemmas.{reached-push}
use Rattle.undo_model.specs.Steps.{AreSteps}
use Rattle.undo_model.specs.Edits.{AreInOrder, splice_changes, edit_changes}
use Rattle.undo_model.proofs.StepLemmas.{steps-stored}
use Rattle.selection_map.specs.Premises.{IsTied}
use Rattle.selection_map.proofs.TieLemmas.{rebased-at}
use Rattle.buffer_store.specs.declared.edits.Splice.{Splice}
use Rattle.buffer_store.specs.Buffers.{flat_splice, flat_splices, IsSpliceOf}
use Rattle.buffer_store.specs.Stored.{change_shifts}
use Rattle.buffer_store.proofs.MakingLemmas.{shifts_of-append}
use Rattle.edit_ops.specs.declared.passing.PassedShifts.{PassedShifts}
use Rattle.edit_ops.specs.Leaving.{put_for, replaced}
use Rattle.edit_ops.specs.Passing.{is_same, one_if, place, keeps_newline, puts_in, no_shift, last_shift_of, count_then, last_then, passed}
use Rattle.edit_ops.proofs.ShapeLemmas.{begin_of, is_kept, put_for-plain, Shape, shape, shape-length, shape-behind, steps-front, steps-back, RisesFrom, edit-rises, rises-replacement, order-within}
use Rattle.edit_ops.proofs.EndedLemmas.{same-true, same-refl, coords-stay}
use Rattle.edit_ops.proofs.CountLemmas.{AreTests, count-replacement, last-shift, last-insertion, length-shifts, put_in-some, ways, and_false}

-- the replacements that are left of an edit of a text, in the text of the moment, which is the same behind an offset of each
pub record IsUnderway (text : List ℕ) (last : Coord) (shifts : List Shift) (w : PassedShifts) (rest : List Splice) (now : List ℕ) (from : ℕ) : Type 0 where
  pub first : IsStored text
  pub stored : IsStored now
  pub behind : length text ≤ from + length now
  pub tied : IsTied text now from (from + length now - length text)
  pub old_is : w.old ≡ coord_at text from
  pub now_is : w.now ≡ coord_at now (from + length now - length text)
  pub last_is : w.last ≡ coord_at now (last_place now)
  pub end_is : last ≡ coord_at text (last_place text)
  pub ends : AllByRecursion (IsSpliceOf text) rest
  pub order : AreInOrder from (length text) (flat_splices text rest)
  pub steps : AreSteps now (edit_changes (length text) now (flat_splices text rest))
  pub next_in : w.next ≤ length shifts
  pub shifts_are : drop w.next shifts ≡ change_shifts now (edit_changes (length text) now (flat_splices text rest))

-- the range of the next replacement in the text of the moment, its changes, and the text behind it
abbrev pub begin_in : List ℕ → List ℕ → Splice → ℕ
begin_in text now s = offset text s.from + length now - length text

abbrev pub end_in : List ℕ → List ℕ → Splice → ℕ
end_in text now s = offset text s.to + length now - length text

abbrev pub changes_in : List ℕ → List ℕ → Splice → List Change
changes_in text now s = splice_changes (length text) now (flat_splice text s)

abbrev pub then_in : List ℕ → List ℕ → Splice → List ℕ
then_in text now s = replaced (length text) now (flat_splice text s)

abbrev pub rest_in : List ℕ → List ℕ → Splice → List Splice → List Change
rest_in text now s ss = edit_changes (length text) (then_in text now s) (flat_splices text ss)

-- what is known of the next replacement
pub record IsNext (text : List ℕ) (last : Coord) (shifts : List Shift) (w : PassedShifts) (s : Splice) (ss : List Splice) (now : List ℕ) : Type 0 where
  pub lower : length text ≤ offset text s.from + length now
  pub ordered : offset text s.from ≤ offset text s.to
  pub within : offset text s.to ≤ length text
  pub place_is : place w s ≡ coord_at now (begin_in text now s)
  pub shape : Shape now (begin_in text now s) (end_in text now s) (put_for now (begin_in text now s) (end_in text now s) s.text) (then_in text now s)
  pub same_is : is_same s.from s.to ≡ true → offset text s.from ≡ offset text s.to
  pub other_is : is_same s.from s.to ≡ false → offset text s.from < offset text s.to
  pub end_test : is_at_most s.to last ≡ leb (offset text s.to) (length text - 1)
  pub tests : AreTests now (begin_in text now s) (end_in text now s) (is_same s.from s.to) (is_same s.from last) (ltb 0 (place w s).line && eqb (place w s).column 0)
  pub front : AreSteps now (changes_in text now s)
  pub back : AreSteps (then_in text now s) (rest_in text now s ss)
  pub stored : IsStored (then_in text now s)
  pub rises : RisesFrom (begin_in text now s) (changes_in text now s ++ rest_in text now s ss)
  pub later : RisesFrom (offset text s.to + length (then_in text now s) - length text) (rest_in text now s ss)

same-of : (text : List ℕ) (a b : Coord) → IsText text → IsPlaceOrEnd text a → IsPlaceOrEnd text b → is_same a b ≡ false → offset text a ≢ offset text b
same-of text a b h k l e o = let n : true ≡ false = sym (same-refl a b (offset_determines text a b k l o)) ∙ e in cc

pub next : (text : List ℕ) (last : Coord) (shifts : List Shift) (w : PassedShifts) (s : Splice) (ss : List Splice) (now : List ℕ) (from : ℕ) → IsUnderway text last shifts w (s ∷ ss) now from → IsNext text last shifts w s ss now
next text last shifts w s ss now from u =
    let p : ℕ = begin_in text now s in
    let q : ℕ = end_in text now s in
    let within : offset text s.to ≤ length text = order-within (offset text s.to) (length text) (flat_splices text ss) u.order.2 in
    let lower : length text ≤ offset text s.from + length now = omega (arith, u.order.0, u.behind) in
    let place_is : place w s ≡ coord_at now p =
    rebased-at text now from (from + length now - length text) (offset text s.from) p s.from w.old w.now u.tied (sym (coord_at-offset_or_end text s.from u.first.is_text u.ends.0.from)) u.old_is u.now_is u.order.0 (omega (arith, u.order.0, u.behind)) in
    let front : AreSteps now (changes_in text now s) = steps-front now (changes_in text now s) (rest_in text now s ss) u.steps in
    let back : AreSteps (then_in text now s) (rest_in text now s ss) = steps-back now (changes_in text now s) (rest_in text now s ss) u.steps in
    let stored : IsStored (then_in text now s) = steps-stored now (changes_in text now s) u.stored front in
    let inside : q ≤ length now = omega (arith, within) in
    let one : Shape now p q (put_for now p q s.text) (then_in text now s) = shape now p q s.text u.stored.is_text (omega (arith, u.order.1)) inside in
    let long : length (then_in text now s) + one.kept ≡ length now + (p + length (put_for now p q s.text)) = shape-length now p q (put_for now p q s.text) (then_in text now s) inside one in
    let later : RisesFrom (offset text s.to + length (then_in text now s) - length text) (rest_in text now s ss) = edit-rises (length text) (then_in text now s) (offset text s.to) (flat_splices text ss) stored (omega (arith, long, one.from, one.to, u.order.0, u.order.1, u.behind)) u.order.2 back in
    let last_in : IsPlaceOrEnd text last = inl (subst (IsPlace text) (sym u.end_is) (IsPlace-coord_at text (last_place text) (omega (arith, u.first.is_text.some)))) in
    let last_at : offset text last ≡ length text - 1 = ap (offset text) u.end_is ∙ offset-coord_at text (last_place text) (omega arith) in
    record {
      lower = lower;
      ordered = u.order.1;
      within = within;
      place_is = place_is;
      shape = one;
      same_is = λ e. ap (offset text) (same-true s.from s.to e);
      other_is = λ e. (let o : offset text s.from ≢ offset text s.to = same-of text s.from s.to u.first.is_text u.ends.0.from u.ends.0.to e in omega (arith, u.order.1, o));
      end_test = is_at_most-offset text s.to last u.ends.0.to last_in ∙ ap (leb (offset text s.to)) last_at;
      tests = record {
        is_text = u.stored.is_text;
        ordered = omega (arith, u.order.1);
        inside = inside;
        same_is = λ e. (let o : offset text s.from ≡ offset text s.to = ap (offset text) (same-true s.from s.to e) in omega (arith, o));
        other_is = λ e. (let o : offset text s.from ≢ offset text s.to = same-of text s.from s.to u.first.is_text u.ends.0.from u.ends.0.to e in omega (arith, u.order.1, o, lower));
        at_last_is = λ e. (let o : offset text s.from ≡ offset text last = ap (offset text) (same-true s.from last e) in omega (arith, o, last_at, lower, u.first.is_text.some));
        before_is = λ e. (let o : offset text s.from ≢ offset text last = same-of text s.from last u.first.is_text u.ends.0.from last_in e in omega (arith, o, last_at, lower, u.first.is_text.some));
        on_line_is = sym (ap (begins_line now) (sym (ap (offset now) place_is ∙ offset-coord_at now p (omega (arith, u.order.1)))) ∙ begins_line-at now (place w s) u.stored.is_text (subst (IsPlaceOrEnd now) (sym place_is) (IsPlaceOrEnd-coord_at now p u.stored.is_text (omega (arith, u.order.1)))));
      };
      front = front;
      back = back;
      stored = stored;
      rises = rises-replacement now p q s.text (offset text s.to + length (then_in text now s) - length text) (rest_in text now s ss) inside (omega (arith, long, one.to, lower, u.order.1)) later;
      later = later;
    }

-- whether the last newline stays
pub keeps-is : (text : List ℕ) (last : Coord) (shifts : List Shift) (w : PassedShifts) (s : Splice) (ss : List Splice) (now : List ℕ) → 0 < length text → IsNext text last shifts w s ss now → keeps_newline last s ≡ is_kept now (begin_in text now s) (end_in text now s) s.text
keeps-is text last shifts w s ss now some n =
    ap₂ (λ v x. v && (x && ends_in_newline s.text)) (first (is_same s.from s.to) n.same_is n.other_is) (ap not n.end_test ∙ second)
  where
    first : (b : Bool) → (b ≡ true → offset text s.from ≡ offset text s.to) → (b ≡ false → offset text s.from < offset text s.to) → not b ≡ ltb (begin_in text now s) (end_in text now s)
    first true h k = sym (le-ltb (begin_in text now s) (end_in text now s) (omega (arith, h refl)))
    first false h k = sym (lt-ltb (begin_in text now s) (end_in text now s) (omega (arith, k refl, n.lower)))

    second : not (leb (offset text s.to) (length text - 1)) ≡ eqb (end_in text now s) (length now)
    second = elim (ways (offset text s.to) (length text)) [
      | inl lt ↦ ap not (leb_true (offset text s.to) (length text - 1) (omega arith)) ∙ sym (ne_eqb (end_in text now s) (length now) (λ e. omega (arith, n.lower, n.ordered)))
      | inr le ↦ ap not (leb_false (offset text s.to) (length text - 1) (omega (arith, n.within, some))) ∙ sym (eq-eqb (end_in text now s) (length now) (omega (arith, n.within)))
    ]

-- the shifts of the next replacement come first
pub record AreNext (text : List ℕ) (last : Coord) (shifts : List Shift) (w : PassedShifts) (s : Splice) (ss : List Splice) (now : List ℕ) : Type 0 where
  pub count : count_then last w s (place w s) ≡ w.next + length (changes_in text now s)
  pub parts : drop w.next shifts ≡ change_shifts now (changes_in text now s) ++ change_shifts (then_in text now s) (rest_in text now s ss)
  pub room : w.next + length (changes_in text now s) ≤ length shifts
  pub rest : drop (count_then last w s (place w s)) shifts ≡ change_shifts (then_in text now s) (rest_in text now s ss)

pub next-shifts : (text : List ℕ) (last : Coord) (shifts : List Shift) (w : PassedShifts) (s : Splice) (ss : List Splice) (now : List ℕ) (from : ℕ) → IsUnderway text last shifts w (s ∷ ss) now from → IsNext text last shifts w s ss now → AreNext text last shifts w s ss now
next-shifts text last shifts w s ss now from u n =
    let cs : List Change = changes_in text now s in
    let count : count_then last w s (place w s) ≡ w.next + length cs =
    ap (λ k. w.next + k) (sym (count-replacement now (begin_in text now s) (end_in text now s) s.text (is_same s.from s.to) (is_same s.from last) (ltb 0 (place w s).line && eqb (place w s).column 0) (keeps_newline last s) n.tests (keeps-is text last shifts w s ss now u.first.is_text.some n))) in
    let parts : drop w.next shifts ≡ change_shifts now cs ++ change_shifts (then_in text now s) (rest_in text now s ss) = u.shifts_are ∙ shifts_of-append now cs (rest_in text now s ss) in
    record {
      count = count;
      parts = parts;
      room = omega (arith, u.next_in, length-drop w.next shifts, ap length parts, length-append (change_shifts now cs) (change_shifts (then_in text now s) (rest_in text now s ss)), length-shifts now cs);
      rest = ap (λ k. drop k shifts) count ∙ sym (drop-drop (length cs) w.next shifts) ∙ ap (drop (length cs)) parts ∙ drop_at (change_shifts now cs) (change_shifts (then_in text now s) (rest_in text now s ss)) (length cs) (length-shifts now cs);
    }

-- the last of them
pub last_of-is : (text : List ℕ) (last : Coord) (shifts : List Shift) (w : PassedShifts) (s : Splice) (ss : List Splice) (now : List ℕ) (i : ℕ) → AreNext text last shifts w s ss now → i + 1 ≡ length (changes_in text now s)
    → last_shift_of shifts (count_then last w s (place w s)) ≡ get_or (change_shifts now (changes_in text now s)) i no_shift
last_of-is text last shifts w s ss now i a e =
    let at : count_then last w s (place w s) - 1 ≡ w.next + i = omega (arith, a.count) in
    ap (λ k. get_or shifts k no_shift) at ∙ sym (get_or-drop w.next shifts i no_shift) ∙ ap (λ l. get_or l i no_shift) a.parts
    ∙ get_or_append_left (change_shifts now (changes_in text now s)) (change_shifts (then_in text now s) (rest_in text now s ss)) no_shift i (omega (arith, length-shifts now (changes_in text now s)))

pub last_then-is : (text : List ℕ) (last : Coord) (shifts : List Shift) (w : PassedShifts) (s : Splice) (ss : List Splice) (now : List ℕ) (from : ℕ) → IsUnderway text last shifts w (s ∷ ss) now from → AreNext text last shifts w s ss now
    → last_then shifts w (count_then last w s (place w s)) ≡ coord_at (then_in text now s) (last_place (then_in text now s))
last_then-is text last shifts w s ss now from u a = by (changes_in text now s) refl
  where
    by : (cs : List Change) → changes_in text now s ≡ cs → last_then shifts w (count_then last w s (place w s)) ≡ coord_at (then_in text now s) (last_place (then_in text now s))
    by [] e =
        ap (λ v. cond v w.last (last_shift_of shifts (count_then last w s (place w s))).last) (eq-eqb (count_then last w s (place w s)) w.next (omega (arith, a.count, ap length e)))
        ∙ u.last_is ∙ ap (λ t. coord_at t (last_place t)) (sym (ap (all_changed now) e))
    by (c ∷ cs) e =
        let some : 0 < length (changes_in text now s) = omega (arith, ap length e) in
        let i : ℕ = length (changes_in text now s) - 1 in
        let at : i + 1 ≡ length (changes_in text now s) = omega arith in
        ap (λ v. cond v w.last (last_shift_of shifts (count_then last w s (place w s))).last) (ne_eqb (count_then last w s (place w s)) w.next (λ k. omega (arith, a.count)))
        ∙ ap (λ (x : Shift). x.last) (last_of-is text last shifts w s ss now i a at) ∙ last-shift now (changes_in text now s) i at

pub all-front : {X : Type 0} (P : X → Type 0) (xs ys : List X) → AllByRecursion P (xs ++ ys) → AllByRecursion P xs
all-front P [] ys h = tt
all-front P (x ∷ xs) ys h = (h.0, all-front P xs ys h.1)

-- the end of a text
pub end-behind : (text : List ℕ) → IsText text → coord_at text (length text) ≡ record { line = (coord_at text (last_place text)).line + 1; column = 0 }
end-behind text h =
    let up : length text ≡ last_place text + 1 = omega (arith, h.some) in
    ap (coord_at text) up ∙ reached-push origin text (last_place text) (omega (arith, h.some)) ∙ after-newline (coord_at text (last_place text)) (get_or text (last_place text) 0) (eq-eqb (get_or text (last_place text) 0) 10 h.ended)

-- where nothing of the last newline stays, the shift of what is put in ends behind it
pub put-end : (text : List ℕ) (last : Coord) (shifts : List Shift) (w : PassedShifts) (s : Splice) (ss : List Splice) (now : List ℕ) → AreNext text last shifts w s ss now → is_kept now (begin_in text now s) (end_in text now s) s.text ≡ false → 0 < length s.text
    → (last_shift_of shifts (count_then last w s (place w s))).end ≡ coord_at (then_in text now s) (begin_in text now s + length (put_for now (begin_in text now s) (end_in text now s) s.text))
put-end text last shifts w s ss now a k some =
    let p : ℕ = begin_in text now s in
    let q : ℕ = end_in text now s in
    let put : List ℕ = put_in (erased now p q) p s.text in
    let more : 0 < length put = put_in-some (erased now p q) p s.text some in
    let cs : changes_in text now s ≡ erasure now p q ++ insertion_of p put = replacement-plain now p q s.text k in
    let one : length (insertion_of p put) ≡ 1 = ones p put more in
    let at : length (erasure now p q) + 1 ≡ length (changes_in text now s) = omega (arith, ap length cs, length-append (erasure now p q) (insertion_of p put), one) in
    ap (λ (x : Shift). x.end) (last_of-is text last shifts w s ss now (length (erasure now p q)) a at ∙ ap (λ xs. get_or (change_shifts now xs) (length (erasure now p q)) no_shift) cs)
    ∙ last-insertion now (erasure now p q) p put (length (erasure now p q)) more refl
    ∙ ap₂ (λ xs ys. coord_at (all_changed now xs) (p + length ys)) (sym cs) (sym (put_for-plain now p q s.text k))
  where
    ones : (p : ℕ) (xs : List ℕ) → 0 < length xs → length (insertion_of p xs) ≡ 1
    ones p [] h = absurd (omega arith)
    ones p (x ∷ xs) h = refl

-- what is before the begin of a replacement stays
pub place-stays : (text : List ℕ) (last : Coord) (shifts : List Shift) (w : PassedShifts) (s : Splice) (ss : List Splice) (now : List ℕ) (from : ℕ) → IsUnderway text last shifts w (s ∷ ss) now from → IsNext text last shifts w s ss now
    → place w s ≡ coord_at (then_in text now s) (begin_in text now s)
place-stays text last shifts w s ss now from u n =
    n.place_is ∙ sym (coords-stay now (changes_in text now s) (begin_in text now s) u.stored n.front (all-front (λ c. begin_in text now s ≤ begin_of c) (changes_in text now s) (rest_in text now s ss) n.rises.from))

pub empty-put : (text : List ℕ) (p q : ℕ) (s : List ℕ) → length s ≡ 0 → put_for text p q s ≡ []
empty-put text p q [] h = none (is_kept text p q [])
  where
    none : (v : Bool) → cond v [] (put_in (erased text p q) p []) ≡ []
    none true = refl
    none false = refl
empty-put text p q (c ∷ cs) h = absurd (omega arith)

now_then-is : (text : List ℕ) (last : Coord) (shifts : List Shift) (w : PassedShifts) (s : Splice) (ss : List Splice) (now : List ℕ) (from : ℕ) → IsUnderway text last shifts w (s ∷ ss) now from → IsNext text last shifts w s ss now → AreNext text last shifts w s ss now
    → (passed last shifts w s).now ≡ coord_at (then_in text now s) (offset text s.to + length (then_in text now s) - length text)
now_then-is text last shifts w s ss now from u n a =
    let p : ℕ = begin_in text now s in
    let q : ℕ = end_in text now s in
    let new : List ℕ = then_in text now s in
    let put : List ℕ = put_for now p q s.text in
    let l : Coord = last_then shifts w (count_then last w s (place w s)) in
    let after_end : Coord = record { line = l.line + 1; column = 0 } in
    let shift_end : Coord = (last_shift_of shifts (count_then last w s (place w s))).end in
    let long : length new + n.shape.kept ≡ length now + (p + length put) = shape-length now p q put new n.tests.inside n.shape in
    elim (ways (offset text s.to) (length text)) [
      | inl lt ↦
          (let test : is_at_most s.to last ≡ true = n.end_test ∙ leb_true (offset text s.to) (length text - 1) (omega arith) in
          let below : q < length now = omega (arith, n.lower, n.ordered) in
          let whole : n.shape.kept ≡ q = elim n.shape.whole [ inl x ↦ x | inr x ↦ absurd (omega (arith, x.1)) ] in
          let kept : is_kept now p q s.text ≡ false = ap (λ v. ltb p q && (v && ends_in_newline s.text)) (ne_eqb q (length now) (λ e. omega arith)) ∙ and_false (ltb p q) in
          let keeps : keeps_newline last s ≡ false = keeps-is text last shifts w s ss now u.first.is_text.some n ∙ kept in
          let puts : puts_in last s ≡ ltb 0 (length s.text) = ap (λ v. ltb (one_if v) (length s.text)) keeps in
          ap (λ v. cond v (cond (puts_in last s) shift_end (place w s)) after_end) test ∙ ap (λ v. cond v shift_end (place w s)) puts
          ∙ elim (ways 0 (length s.text)) [
            | inl some ↦ ap (λ v. cond v shift_end (place w s)) (lt-ltb 0 (length s.text) some) ∙ put-end text last shifts w s ss now a kept some ∙ ap (coord_at new) (omega (arith, long, whole, n.lower, n.ordered))
            | inr none ↦
                (let no_put : length put ≡ 0 = ap length (empty-put now p q s.text (omega arith)) in
                ap (λ v. cond v shift_end (place w s)) (le-ltb 0 (length s.text) none) ∙ place-stays text last shifts w s ss now from u n ∙ ap (coord_at new) (omega (arith, long, whole, no_put, n.lower, n.ordered)))
          ])
      | inr le ↦
          (let test : is_at_most s.to last ≡ false = n.end_test ∙ leb_false (offset text s.to) (length text - 1) (omega (arith, u.first.is_text.some)) in
          ap (λ v. cond v (cond (puts_in last s) shift_end (place w s)) after_end) test
          ∙ ap (λ (x : Coord). let e : Coord = record { line = x.line + 1; column = 0 } in e) (last_then-is text last shifts w s ss now from u a)
          ∙ sym (end-behind new n.stored.is_text) ∙ ap (coord_at new) (omega (arith, n.within)))
    ]

-- behind a replacement, the others are left
pub then-underway : (text : List ℕ) (last : Coord) (shifts : List Shift) (w : PassedShifts) (s : Splice) (ss : List Splice) (now : List ℕ) (from : ℕ) → IsUnderway text last shifts w (s ∷ ss) now from
    → IsUnderway text last shifts (passed last shifts w s) ss (then_in text now s) (offset text s.to)
then-underway text last shifts w s ss now from u =
    let n : IsNext text last shifts w s ss now = next text last shifts w s ss now from u in
    let a : AreNext text last shifts w s ss now = next-shifts text last shifts w s ss now from u n in
    let p : ℕ = begin_in text now s in
    let q : ℕ = end_in text now s in
    let new : List ℕ = then_in text now s in
    let put : List ℕ = put_for now p q s.text in
    let long : length new + n.shape.kept ≡ length now + (p + length put) = shape-length now p q put new n.tests.inside n.shape in
    let longer : length text ≤ offset text s.to + length new = omega (arith, long, n.shape.to, n.shape.from, n.lower, n.ordered) in
    let up : from + (offset text s.to - from) ≡ offset text s.to = omega (arith, u.order.0, n.ordered) in
    let same : drop (offset text s.to) text ≡ drop q now =
    ap (λ k. drop k text) (sym up) ∙ sym (drop-drop (offset text s.to - from) from text) ∙ ap (drop (offset text s.to - from)) u.tied.same
    ∙ drop-drop (offset text s.to - from) (from + length now - length text) now ∙ ap (λ k. drop k now) (omega (arith, u.order.0, n.ordered, u.behind)) in
    record {
      first = u.first;
      stored = n.stored;
      behind = longer;
      tied = record {
        from_in = n.within;
        onto_in = omega (arith, n.within);
        same = same ∙ shape-behind now p q (offset text s.to + length new - length text) put new n.tests.inside n.shape (omega (arith, longer, n.lower, n.ordered));
      };
      old_is = sym (coord_at-offset_or_end text s.to u.first.is_text u.ends.0.to);
      now_is = now_then-is text last shifts w s ss now from u n a;
      last_is = last_then-is text last shifts w s ss now from u a;
      end_is = u.end_is;
      ends = u.ends.1;
      order = u.order.2;
      steps = n.back;
      next_in = omega (arith, a.count, a.room);
      shifts_are = a.rest;
    }
