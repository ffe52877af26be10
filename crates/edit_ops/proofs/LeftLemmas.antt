-- What replacements leave, by coordinates and by offsets.
use Rattle.std.proofs.Common.{◌≡◌, ℕ, zero, suc, ◌+◌, ◌-◌, ◌<◌, ◌≤◌, min, Bool, true, false, not, cond, eqb, ◌⊎◌, inl, inr, ◌&&◌, List, [], ◌∷◌, ◌++◌, length, take, drop, get_or, refl, sym, ap, ap₂, subst, ◌∙◌, arith, length-append, length-take-le, eq-eqb, ne_eqb, take_all}
use Rattle.std.specs.Prelude.{None, Result, Ok, Err, IfOk}
use Rattle.std.specs.declared.alloc.AllocError.{AllocError}
use Rattle.std.proofs.lemmas.List.{take_at, take-append-le, length-map}
use Rattle.std.proofs.Math.Seq.{take-append-add}
use Rattle.text_model.specs.declared.coords.Coord.{Coord}
use Rattle.text_model.specs.declared.coords.Shift.{Shift}
use Rattle.text_model.specs.Coords.{origin, is_at_most, reached, after}
use Rattle.text_model.specs.Texts.{IsStored, IsPlace, ends_in_newline, offset, coord_at, last_place}
use Rattle.text_model.specs.declared.TheConstants.{MAX_CHARS}
use Rattle.text_model.specs.Changes.{Change, Insertion, Erasure, changed, all_changed, put_in, erased, front, ended}
use Rattle.text_model.proofs.CoordLemmas.{test_cases, after-newline, after-other, reached-append}
use Rattle.text_model.proofs.ChangeLemmas.{all_changed-append, ended-text, ended-other}
use Rattle.text_model.proofs.PlaceLemmas.{offset-coord_at, IsPlace-coord_at, coord_at-offset_or_end, leb_true}
use Rattle.line_buffer.proofs.InsertLemmas.{reached-push}
use Rattle.list_model.specs.Ranges.{Range, only}
use Rattle.list_model.specs.Settling.{settled}
use Rattle.undo_model.specs.Steps.{AreSteps}
use Rattle.undo_model.specs.Edits.{edit_changes}
use Rattle.selection_set.specs.declared.sel.Sel.{Sel}
use Rattle.selection_set.specs.Inside.{IsInside, range_of}
use Rattle.selection_set.specs.Listing.{Listed, AreInside, ranges_of, IsSettledIn}
use Rattle.selection_set.proofs.HeldLemmas.{settled-held, selected-is}
use Rattle.selection_set.proofs.SettleLemmas.{ranges-inside}
use Rattle.selection_map.specs.Carrying.{IsSmall}
use Rattle.selection_map.specs.Premises.{IsTied}
use Rattle.selection_map.proofs.SmallLemmas.{coord_at-small}
use Rattle.selection_map.specs.Rebasing.{earlier}
use Rattle.selection_map.proofs.CarryLemmas.{earlier-min, order-coords}
use Rattle.buffer_store.specs.declared.edits.Splice.{Splice}
use Rattle.buffer_store.specs.Buffers.{flat_splice, flat_splices, changes_of}
use Rattle.buffer_store.specs.Stored.{shift_of, change_shifts}
use Rattle.edit_ops.specs.declared.passing.PassedShifts.{PassedShifts}
use Rattle.edit_ops.specs.Leaving.{put_for, filled, edit_mark, gone_through, ranges_left, edited_text}
use Rattle.edit_ops.specs.Left.{IsOfEdit, IsOfSomeEdit, IsLeftByEdit}
use Rattle.edit_ops.specs.Passing.{place, ended as ended_at, last_shift_of, count_then, passed, last_put, mark_at, passed_marks, none_passed, IsSmallShift, AreSmallShifts}
use Rattle.edit_ops.proofs.ShapeLemmas.{is_kept, kept-by, put_for-kept, put_for-plain, shape-length, RisesFrom, from-later, AllFrom}
use Rattle.edit_ops.proofs.EndedLemmas.{gone_at, gone_through-at, coords-stay, gone-stays, gone-inside, ended-is, from-weaker}
use Rattle.edit_ops.proofs.CountLemmas.{ways, put_for-some}
use Rattle.edit_ops.proofs.UnderwayLemmas.{IsUnderway, IsNext, AreNext, next, next-shifts, begin_in, end_in, changes_in, then_in, rest_in, last_then-is, put-end, place-stays, empty-put, then-underway}

-- a selection by coordinates is a straight range of a text
pub record IsSelOf (text : List ℕ) (sel : Sel) (r : Range) : Type 0 where
  pub inside : IsInside text sel
  pub range_is : range_of text sel ≡ r

-- the selection from one offset to another
sel-of : (text : List ℕ) (low high : Coord) (i j : ℕ) → low ≡ coord_at text i → high ≡ coord_at text j → i ≤ j → j < length text
    → IsSelOf text (record { low = low; high = high; turned = false; target = None }) (record { low = i; high = j; turned = false; target = None })
sel-of text low high i j a b o h =
    let at_low : offset text low ≡ i = ap (offset text) a ∙ offset-coord_at text i (omega arith) in
    let at_high : offset text high ≡ j = ap (offset text) b ∙ offset-coord_at text j (omega arith) in
    record {
      inside = record {
        low = subst (IsPlace text) (sym a) (IsPlace-coord_at text i (omega arith));
        high = subst (IsPlace text) (sym b) (IsPlace-coord_at text j h);
        ordered = omega (arith, at_low, at_high);
      };
      range_is = ap₂ (λ x y. let r : Range = record { low = x; high = y; turned = false; target = None } in r) at_low at_high;
    }

-- the text behind all changes that are left
abbrev pub last_in : List ℕ → List ℕ → Splice → List Splice → List ℕ
last_in text now s ss = all_changed (then_in text now s) (rest_in text now s ss)

-- where the character at a place that is put behind characters stands
put-at : (text put new : List ℕ) (p k : ℕ) (rest : List ℕ) → p ≤ length text → new ≡ take p text ++ (put ++ rest) → k ≤ length put → coord_at new (p + k) ≡ reached (coord_at text p) (take k put)
put-at text put new p k rest h e l =
    let front_is : length (take p text) ≡ p = length-take-le p text h in
    ap (λ t. coord_at t (p + k)) e ∙ ap (λ n. reached origin (take (n + k) (take p text ++ (put ++ rest)))) (sym front_is)
    ∙ ap (reached origin) (take-append-add (take p text) (put ++ rest) k ∙ ap (λ t. take p text ++ t) (take-append-le k put rest l)) ∙ reached-append origin (take p text) (take k put)

-- a replacement that puts nothing in leaves the character at its place, or the last one
left-empty : (text : List ℕ) (last : Coord) (shifts : List Shift) (w : PassedShifts) (s : Splice) (ss : List Splice) (now : List ℕ) (from : ℕ) → IsUnderway text last shifts w (s ∷ ss) now from → length s.text ≡ 0
    → IsSelOf (last_in text now s ss) (mark_at shifts (passed last shifts w s) s (place w s)) (gone_through (then_in text now s) (rest_in text now s ss) (edit_mark (length text) now (flat_splice text s)))
left-empty text last shifts w s ss now from u none =
    let n : IsNext text last shifts w s ss now = next text last shifts w s ss now from u in
    let a : AreNext text last shifts w s ss now = next-shifts text last shifts w s ss now from u n in
    let p : ℕ = begin_in text now s in
    let q : ℕ = end_in text now s in
    let new : List ℕ = then_in text now s in
    let ds : List Change = rest_in text now s ss in
    let put : List ℕ = put_for now p q s.text in
    let o : ℕ = min p (last_place new) in
    let w2 : PassedShifts = passed last shifts w s in
    let nothing : put ≡ [] = empty-put now p q s.text none in
    let long : length new + n.shape.kept ≡ length now + (p + length put) = shape-length now p q put new n.tests.inside n.shape in
    let below : p ≤ length new = omega (arith, long, n.shape.from, n.shape.to, n.tests.inside) in
    let at : earlier (place w s) w2.last ≡ coord_at new o =
    ap₂ earlier (place-stays text last shifts w s ss now from u n) (last_then-is text last shifts w s ss now from u a) ∙ earlier-min new p (last_place new) n.stored.is_text below (omega arith) in
    let rises : RisesFrom o ds = from-later o (offset text s.to + length new - length text) ds (omega (arith, long, n.shape.from, n.shape.to, n.lower, n.ordered)) n.later in
    let ends : ended_at (drop w2.next shifts) (earlier (place w s) w2.last) ≡ coord_at (last_in text now s ss) (gone_at new ds o) =
    ap₂ ended_at a.rest at ∙ ended-is new ds o n.stored n.back rises.rise rises.from (omega (arith, n.stored.is_text.some)) in
    let sel : Coord → Sel = λ c. record { low = c; high = c; turned = false; target = None } in
    let low : Coord = ended_at (drop w2.next shifts) (earlier (place w s) w2.last) in
    let there : gone_at new ds o < length (last_in text now s ss) = gone-inside new ds o n.back (omega (arith, n.stored.is_text.some)) in
    let one : IsSelOf (last_in text now s ss) (sel low) (only (gone_at new ds o)) = sel-of (last_in text now s ss) low low (gone_at new ds o) (gone_at new ds o) ends ends (omega arith) there in
    let is : mark_at shifts w2 s (place w s) ≡ sel low = ap (λ v. cond v (sel low) (record { low = place w s; high = last_put (place w s) s.text (last_shift_of shifts w2.next).end; turned = false; target = None })) (eq-eqb (length s.text) 0 none) in
    let range : gone_through new ds (edit_mark (length text) now (flat_splice text s)) ≡ only (gone_at new ds o) = ap (λ xs. gone_through new ds (filled new p xs)) nothing ∙ gone_through-at new ds (only o) in
    record {
      inside = subst (IsInside (last_in text now s ss)) (sym is) one.inside;
      range_is = ap (range_of (last_in text now s ss)) is ∙ one.range_is ∙ sym range;
    }

-- the last character of what was put in, by what stands behind its begin
last-of_line : (at : Coord) (s put : List ℕ) (end : Coord) → ends_in_newline s ≡ true → put ≡ s → last_put at s end ≡ reached at (take (length put - 1) put)
last-of_line at s put end e k =
    ap (λ v. cond (not v && eqb end.column 0) (reached at s) (reached at (front s))) e ∙ ap (λ xs. reached at (take (length xs - 1) xs)) (sym k)

last-of_rest : (at : Coord) (s put : List ℕ) (end : Coord) → 0 < length s → ends_in_newline s ≡ false → end ≡ reached at put → (put ≡ s) ⊎ (put ≡ s ++ 10 ∷ []) → last_put at s end ≡ reached at (take (length put - 1) put)
last-of_rest at s put end some e behind (inl k) =
    let i : ℕ = length s - 1 in
    let up : length s ≡ i + 1 = omega arith in
    let goes : end ≡ after (reached at (take i s)) (get_or s i 0) =
    behind ∙ ap (reached at) (k ∙ sym (take_all (i + 1) s (omega arith))) ∙ reached-push at s i (omega arith) in
    let column : end.column ≡ (reached at (take i s)).column + 1 = ap (λ (x : Coord). x.column) (goes ∙ after-other (reached at (take i s)) (get_or s i 0) e) in
    ap₂ (λ v x. cond (not v && x) (reached at s) (reached at (front s))) e (ne_eqb end.column 0 (λ z. omega arith)) ∙ ap (λ xs. reached at (take (length xs - 1) xs)) (sym k)
last-of_rest at s put end some e behind (inr k) =
    let goes : end ≡ after (reached at s) 10 = behind ∙ ap (reached at) k ∙ reached-append at s (10 ∷ []) in
    let column : end.column ≡ 0 = ap (λ (x : Coord). x.column) (goes ∙ after-newline (reached at s) 10 refl) in
    let long : length put - 1 ≡ length s = omega (arith, ap length k, length-append s (10 ∷ [])) in
    ap₂ (λ v x. cond (not v && x) (reached at s) (reached at (front s))) e (eq-eqb end.column 0 column)
    ∙ ap (reached at) (sym (ap₂ take long k ∙ take_at s (10 ∷ []) (length s) refl))

put_in-cases : (text : List ℕ) (p : ℕ) (s : List ℕ) → (put_in text p s ≡ s) ⊎ (put_in text p s ≡ ended s)
put_in-cases text p [] = inl refl
put_in-cases text p (c ∷ cs) =
    let P : Bool → Type 0 = λ v. (cond v (ended (c ∷ cs)) (c ∷ cs) ≡ c ∷ cs) ⊎ (cond v (ended (c ∷ cs)) (c ∷ cs) ≡ ended (c ∷ cs)) in
    elim (eqb p (length text)) as P [ true ↦ inr refl | false ↦ inl refl ]

put-of_line : (text : List ℕ) (p q : ℕ) (s : List ℕ) → ends_in_newline s ≡ true → put_for text p q s ≡ s
put-of_line text p q s e =
    elim (test_cases (is_kept text p q s)) [
      | inl b ↦ put_for-kept text p q s b
      | inr b ↦ put_for-plain text p q s b ∙ elim (put_in-cases (erased text p q) p s) [ inl w ↦ w | inr w ↦ w ∙ ended-text s e ]
    ]

put-of_rest : (text : List ℕ) (p q : ℕ) (s : List ℕ) → is_kept text p q s ≡ false → ends_in_newline s ≡ false → (put_for text p q s ≡ s) ⊎ (put_for text p q s ≡ s ++ 10 ∷ [])
put-of_rest text p q s b e = elim (put_in-cases (erased text p q) p s) [ inl w ↦ inl (put_for-plain text p q s b ∙ w) | inr w ↦ inr (put_for-plain text p q s b ∙ w ∙ ended-other s e) ]

-- the last character that counts as put in
put-last : (text : List ℕ) (last : Coord) (shifts : List Shift) (w : PassedShifts) (s : Splice) (ss : List Splice) (now : List ℕ) (from : ℕ) → IsUnderway text last shifts w (s ∷ ss) now from → IsNext text last shifts w s ss now → AreNext text last shifts w s ss now → 0 < length s.text
    → last_put (place w s) s.text (last_shift_of shifts (count_then last w s (place w s))).end ≡ coord_at (then_in text now s) (begin_in text now s + (length (put_for now (begin_in text now s) (end_in text now s) s.text) - 1))
put-last text last shifts w s ss now from u n a some =
    let p : ℕ = begin_in text now s in
    let q : ℕ = end_in text now s in
    let put : List ℕ = put_for now p q s.text in
    let end : Coord = (last_shift_of shifts (count_then last w s (place w s))).end in
    let far : (k : ℕ) → k ≤ length put → coord_at (then_in text now s) (p + k) ≡ reached (place w s) (take k put) =
    λ (k : ℕ) (l : k ≤ length put). put-at now put (then_in text now s) p k (drop n.shape.kept now) (omega (arith, n.shape.from, n.shape.to, n.tests.inside)) n.shape.parts l ∙ ap (λ c. reached c (take k put)) (sym n.place_is) in
    by (test_cases (ends_in_newline s.text)) ∙ sym (far (length put - 1) (omega arith))
  where
    by : (ends_in_newline s.text ≡ true) ⊎ (ends_in_newline s.text ≡ false)
        → last_put (place w s) s.text (last_shift_of shifts (count_then last w s (place w s))).end ≡ reached (place w s) (take (length (put_for now (begin_in text now s) (end_in text now s) s.text) - 1) (put_for now (begin_in text now s) (end_in text now s) s.text))
    by (inl e) = last-of_line (place w s) s.text (put_for now (begin_in text now s) (end_in text now s) s.text) (last_shift_of shifts (count_then last w s (place w s))).end e (put-of_line now (begin_in text now s) (end_in text now s) s.text e)
    by (inr e) =
        let p : ℕ = begin_in text now s in
        let q : ℕ = end_in text now s in
        let put : List ℕ = put_for now p q s.text in
        let plain : is_kept now p q s.text ≡ false = elim (test_cases (is_kept now p q s.text)) [ inl b ↦ absurd (let no_line : true ≡ false = sym (kept-by now p q s.text b).line ∙ e in cc) | inr b ↦ b ] in
        let behind : (last_shift_of shifts (count_then last w s (place w s))).end ≡ reached (place w s) put =
        put-end text last shifts w s ss now a plain some
        ∙ put-at now put (then_in text now s) p (length put) (drop n.shape.kept now) (omega (arith, n.shape.from, n.shape.to, n.tests.inside)) n.shape.parts (omega arith)
        ∙ ap₂ reached (sym n.place_is) (take_all (length put) put (omega arith)) in
        last-of_rest (place w s) s.text put (last_shift_of shifts (count_then last w s (place w s))).end some e behind (put-of_rest now p q s.text plain e)

filled-some : (text : List ℕ) (p : ℕ) (put : List ℕ) → 0 < length put → filled text p put ≡ record { low = p; high = p + (length put - 1); turned = false; target = None }
filled-some text p [] h = absurd (omega arith)
filled-some text p (c ∷ cs) h = let e : p + length cs ≡ p + (length (c ∷ cs) - 1) = omega arith in ap (λ k. let r : Range = record { low = p; high = k; turned = false; target = None } in r) e

-- one that puts characters in leaves these
left-some : (text : List ℕ) (last : Coord) (shifts : List Shift) (w : PassedShifts) (s : Splice) (ss : List Splice) (now : List ℕ) (from : ℕ) → IsUnderway text last shifts w (s ∷ ss) now from → 0 < length s.text
    → IsSelOf (last_in text now s ss) (mark_at shifts (passed last shifts w s) s (place w s)) (gone_through (then_in text now s) (rest_in text now s ss) (edit_mark (length text) now (flat_splice text s)))
left-some text last shifts w s ss now from u some =
    let n : IsNext text last shifts w s ss now = next text last shifts w s ss now from u in
    let a : AreNext text last shifts w s ss now = next-shifts text last shifts w s ss now from u n in
    let p : ℕ = begin_in text now s in
    let q : ℕ = end_in text now s in
    let new : List ℕ = then_in text now s in
    let ds : List Change = rest_in text now s ss in
    let put : List ℕ = put_for now p q s.text in
    let j : ℕ = p + (length put - 1) in
    let w2 : PassedShifts = passed last shifts w s in
    let more : 0 < length put = put_for-some now p q s.text some in
    let long : length new + n.shape.kept ≡ length now + (p + length put) = shape-length now p q put new n.tests.inside n.shape in
    let before : AllFrom (j + 1) ds = from-weaker (j + 1) (offset text s.to + length new - length text) ds (omega (arith, long, n.shape.from, n.shape.to, n.lower, n.ordered)) n.later.from in
    let low : place w s ≡ coord_at (last_in text now s ss) p = place-stays text last shifts w s ss now from u n ∙ sym (coords-stay new ds p n.stored n.back (from-weaker p (j + 1) ds (omega arith) before)) in
    let high : last_put (place w s) s.text (last_shift_of shifts w2.next).end ≡ coord_at (last_in text now s ss) j =
    put-last text last shifts w s ss now from u n a some ∙ sym (coords-stay new ds j n.stored n.back (from-weaker j (j + 1) ds (omega arith) before)) in
    let low_stays : gone_at new ds p ≡ p = gone-stays new ds p n.back (from-weaker (p + 1) (j + 1) ds (omega arith) before) in
    let high_stays : gone_at new ds j ≡ j = gone-stays new ds j n.back before in
    let there : j < length (last_in text now s ss) = subst (λ k. k < length (last_in text now s ss)) high_stays (gone-inside new ds j n.back (omega (arith, long, n.shape.from, n.shape.to, n.tests.inside))) in
    let sel : Sel = record { low = place w s; high = last_put (place w s) s.text (last_shift_of shifts w2.next).end; turned = false; target = None } in
    let empty : Coord = ended_at (drop w2.next shifts) (earlier (place w s) w2.last) in
    let one : IsSelOf (last_in text now s ss) sel (record { low = p; high = j; turned = false; target = None }) = sel-of (last_in text now s ss) sel.low sel.high p j low high (omega arith) there in
    let is : mark_at shifts w2 s (place w s) ≡ sel = ap (λ v. cond v (record { low = empty; high = empty; turned = false; target = None }) sel) (ne_eqb (length s.text) 0 (λ e. omega arith)) in
    let range : gone_through new ds (edit_mark (length text) now (flat_splice text s)) ≡ record { low = p; high = j; turned = false; target = None } =
    ap (gone_through new ds) (filled-some new p put more) ∙ gone_through-at new ds (record { low = p; high = j; turned = false; target = None })
    ∙ ap₂ (λ x y. let r : Range = record { low = x; high = y; turned = false; target = None } in r) low_stays high_stays in
    record {
      inside = subst (IsInside (last_in text now s ss)) (sym is) one.inside;
      range_is = ap (range_of (last_in text now s ss)) is ∙ one.range_is ∙ sym range;
    }

pub one-left : (text : List ℕ) (last : Coord) (shifts : List Shift) (w : PassedShifts) (s : Splice) (ss : List Splice) (now : List ℕ) (from : ℕ) → IsUnderway text last shifts w (s ∷ ss) now from
    → IsSelOf (last_in text now s ss) (mark_at shifts (passed last shifts w s) s (place w s)) (gone_through (then_in text now s) (rest_in text now s ss) (edit_mark (length text) now (flat_splice text s)))
one-left text last shifts w s ss now from u =
    elim (ways 0 (length s.text)) [ inl some ↦ left-some text last shifts w s ss now from u some | inr none ↦ left-empty text last shifts w s ss now from u (omega arith) ]

-- all of them
pub record AreSelsOf (text : List ℕ) (sels : List Sel) (rs : List Range) : Type 0 where
  pub inside : AreInside text sels
  pub ranges_are : ranges_of text sels ≡ rs

pub all-left : (text : List ℕ) (last : Coord) (shifts : List Shift) (w : PassedShifts) (rest : List Splice) (now : List ℕ) (from : ℕ) → IsUnderway text last shifts w rest now from
    → AreSelsOf (all_changed now (edit_changes (length text) now (flat_splices text rest))) (passed_marks last shifts w rest) (ranges_left (length text) now (flat_splices text rest))
all-left text last shifts w [] now from u = record { inside = tt; ranges_are = refl }
all-left text last shifts w (s ∷ ss) now from u =
    let end : all_changed now (changes_in text now s ++ rest_in text now s ss) ≡ last_in text now s ss = all_changed-append now (changes_in text now s) (rest_in text now s ss) in
    let one : IsSelOf (last_in text now s ss) (mark_at shifts (passed last shifts w s) s (place w s)) (gone_through (then_in text now s) (rest_in text now s ss) (edit_mark (length text) now (flat_splice text s))) = one-left text last shifts w s ss now from u in
    let others : AreSelsOf (last_in text now s ss) (passed_marks last shifts (passed last shifts w s) ss) (ranges_left (length text) (then_in text now s) (flat_splices text ss)) =
    all-left text last shifts (passed last shifts w s) ss (then_in text now s) (offset text s.to) (then-underway text last shifts w s ss now from u) in
    subst (λ t. AreSelsOf t (passed_marks last shifts w (s ∷ ss)) (ranges_left (length text) now (flat_splices text (s ∷ ss)))) (sym end)
    (record { inside = (one.inside, others.inside); ranges_are = ap₂ (λ x xs. x ∷ xs) one.range_is others.ranges_are })

put-long : (text : List ℕ) (p q : ℕ) (s : List ℕ) → length s ≤ length (put_for text p q s)
put-long text p q s =
    elim (test_cases (is_kept text p q s)) [
      | inl b ↦ omega (arith, ap length (put_for-kept text p q s b))
      | inr b ↦ elim (put_in-cases (erased text p q) p s) [
        | inl w ↦ omega (arith, ap length (put_for-plain text p q s b ∙ w))
        | inr w ↦ elim (test_cases (ends_in_newline s)) [
          | inl e ↦ omega (arith, ap length (put_for-plain text p q s b ∙ w ∙ ended-text s e))
          | inr e ↦ omega (arith, ap length (put_for-plain text p q s b ∙ w ∙ ended-other s e), length-append s (10 ∷ []))
        ]
      ]
    ]

-- what the next replacement needs for its arithmetic
pub record CanPass (last : Coord) (shifts : List Shift) (w : PassedShifts) (s : Splice) : Type 0 where
  pub ordered : is_at_most w.old s.from ≡ true
  pub from_small : IsSmall s.from
  pub now_small : IsSmall w.now
  pub last_small : IsSmall w.last
  pub at_small : IsSmall (place w s)
  pub few : length s.text ≤ MAX_CHARS
  pub room : count_then last w s (place w s) ≤ length shifts

can-pass : (text : List ℕ) (last : Coord) (shifts : List Shift) (w : PassedShifts) (s : Splice) (ss : List Splice) (now : List ℕ) (from : ℕ) → IsUnderway text last shifts w (s ∷ ss) now from → CanPass last shifts w s
can-pass text last shifts w s ss now from u =
    let n : IsNext text last shifts w s ss now = next text last shifts w s ss now from u in
    let a : AreNext text last shifts w s ss now = next-shifts text last shifts w s ss now from u n in
    let p : ℕ = begin_in text now s in
    let q : ℕ = end_in text now s in
    let put : List ℕ = put_for now p q s.text in
    let at : coord_at text (offset text s.from) ≡ s.from = coord_at-offset_or_end text s.from u.first.is_text u.ends.0.from in
    record {
      ordered = ap₂ is_at_most u.old_is (sym at) ∙ order-coords text from (offset text s.from) u.first.is_text u.tied.from_in (omega (arith, n.ordered, n.within)) ∙ leb_true from (offset text s.from) u.order.0;
      from_small = subst IsSmall at (coord_at-small text (offset text s.from) u.first.small);
      now_small = subst IsSmall (sym u.now_is) (coord_at-small now (from + length now - length text) u.stored.small);
      last_small = subst IsSmall (sym u.last_is) (coord_at-small now (last_place now) u.stored.small);
      at_small = subst IsSmall (sym n.place_is) (coord_at-small now p u.stored.small);
      few = omega (arith, put-long now p q s.text, shape-length now p q put (then_in text now s) n.tests.inside n.shape, n.shape.to, n.tests.inside, n.stored.small);
      room = omega (arith, a.count, a.room);
    }

-- some text of the moment in which replacements are left of some edit
pub record GoesOn (last : Coord) (shifts : List Shift) (w : PassedShifts) (rest : List Splice) : Type 0 where
  pub text : List ℕ
  pub now : List ℕ
  pub from : ℕ
  pub underway : IsUnderway text last shifts w rest now from

pub can-go-on : (last : Coord) (shifts : List Shift) (w : PassedShifts) (s : Splice) (ss rest : List Splice) → rest ≡ s ∷ ss → GoesOn last shifts w rest → CanPass last shifts w s
can-go-on last shifts w s ss rest e g = can-pass g.text last shifts w s ss g.now g.from (subst (λ r. IsUnderway g.text last shifts w r g.now g.from) e g.underway)

pub go-on : (last : Coord) (shifts : List Shift) (w : PassedShifts) (s : Splice) (ss rest : List Splice) → rest ≡ s ∷ ss → GoesOn last shifts w rest → GoesOn last shifts (passed last shifts w s) ss
go-on last shifts w s ss rest e g = record {
  text = g.text;
  now = then_in g.text g.now s;
  from = offset g.text s.to;
  underway = then-underway g.text last shifts w s ss g.now g.from (subst (λ r. IsUnderway g.text last shifts w r g.now g.from) e g.underway);
}

-- an edit begins
pub begin-underway : (text : List ℕ) (last : Coord) (splices : List Splice) (shifts : List Shift) → IsOfEdit text last splices shifts → IsUnderway text last shifts (none_passed last) splices text 0
begin-underway text last splices shifts h =
    let none : 0 ≡ 0 + length text - length text = omega arith in
    record {
      first = h.stored;
      stored = h.stored;
      behind = omega arith;
      tied = subst (IsTied text text 0) none (record { from_in = omega arith; onto_in = omega arith; same = refl });
      old_is = refl;
      now_is = ap (coord_at text) none;
      last_is = h.last_is;
      end_is = h.last_is;
      ends = h.are_splices.ends;
      order = h.are_splices.in_order;
      steps = h.steps;
      next_in = omega arith;
      shifts_are = h.shifts_are;
    }

pub begin-on : (last : Coord) (splices : List Splice) (shifts : List Shift) → IsOfSomeEdit last splices shifts → GoesOn last shifts (none_passed last) splices
begin-on last splices shifts h = record { text = h.text; now = h.text; from = 0; underway = begin-underway h.text last splices shifts h.edit }

shift-small : (text : List ℕ) (c : Change) → IsStored text → IsStored (changed text c) → IsSmallShift (shift_of text c)
shift-small text (Insertion p s) h k = record {
  begin = coord_at-small (changed text (Insertion p s)) p k.small;
  «end» = coord_at-small (changed text (Insertion p s)) (p + length s) k.small;
  last = coord_at-small (changed text (Insertion p s)) (last_place (changed text (Insertion p s))) k.small;
}
shift-small text (Erasure p q) h k = record {
  begin = coord_at-small text p h.small;
  «end» = coord_at-small text q h.small;
  last = coord_at-small (changed text (Erasure p q)) (last_place (changed text (Erasure p q))) k.small;
}

shifts-small : (text : List ℕ) (cs : List Change) → IsStored text → AreSteps text cs → AreSmallShifts (change_shifts text cs)
shifts-small text [] h a n k = absurd (omega arith)
shifts-small text (c ∷ cs) h a zero k = shift-small text c h a.0.stored
shifts-small text (c ∷ cs) h a (suc n) k = shifts-small (changed text c) cs a.0.stored a.1 n (omega arith)

pub edit-small : (last : Coord) (splices : List Splice) (shifts : List Shift) → IsOfSomeEdit last splices shifts → AreSmallShifts shifts
edit-small last splices shifts h = subst AreSmallShifts (sym h.edit.shifts_are) (shifts-small h.text (changes_of h.text splices) h.edit.stored h.edit.steps)

pub length-marks : (last : Coord) (shifts : List Shift) (w : PassedShifts) (ss : List Splice) → length (passed_marks last shifts w ss) ≡ length ss
length-marks last shifts w [] = refl
length-marks last shifts w (s ∷ ss) = ap (λ n. suc n) (length-marks last shifts (passed last shifts w s) ss)

-- the settled list of what replacements leave is the list that the edit leaves
pub edit-left : (text : List ℕ) (last : Coord) (main : ℕ) (s : Listed) (splices : List Splice) (shifts : List Shift) (sels : List Sel) → IsOfEdit text last splices shifts → main < length splices → sels ≡ passed_marks last shifts (none_passed last) splices
    → ((t : List ℕ) → AreInside t sels → IsSettledIn t (ranges_of t sels) main s) → IsLeftByEdit text splices main s
edit-left text last main s splices shifts sels h inside_main e settles =
    let end : List ℕ = edited_text text (flat_splices text splices) in
    let all : AreSelsOf end (passed_marks last shifts (none_passed last) splices) (ranges_left (length text) text (flat_splices text splices)) = all-left text last shifts (none_passed last) splices text 0 (begin-underway text last splices shifts h) in
    let inside : AreInside end sels = subst (AreInside end) (sym e) all.inside in
    let ranges : ranges_of end sels ≡ ranges_left (length text) text (flat_splices text splices) = ap (ranges_of end) e ∙ all.ranges_are in
    let settled_in : IsSettledIn end (ranges_of end sels) main s = settles end inside in
    let count : length (ranges_of end sels) ≡ length splices = length-map sels (range_of end) ∙ ap length e ∙ length-marks last shifts (none_passed last) splices in
    record {
      held = settled-held end (ranges_of end sels) main s settled_in;
      left = selected-is end (record { list = ranges_of end sels; main = main }) s (ranges-inside end sels inside) (omega (arith, count, inside_main)) settled_in
          ∙ ap (λ rs. settled (record { list = rs; main = main })) ranges;
    }

-- so the settled list is the one that is left
pub ok-left : (r : Result Listed AllocError) (last : Coord) (main : ℕ) (splices : List Splice) (shifts : List Shift) (sels : List Sel) → main < length splices → sels ≡ passed_marks last shifts (none_passed last) splices
    → IfOk r (λ s. (t : List ℕ) → AreInside t sels → IsSettledIn t (ranges_of t sels) main s) → IfOk r (λ s. (text : List ℕ) → IsOfEdit text last splices shifts → IsLeftByEdit text splices main s)
ok-left (Ok s) last main splices shifts sels h k settles = λ text edit. edit-left text last main s splices shifts sels edit h k settles
ok-left (Err x) last main splices shifts sels h k settles = settles
