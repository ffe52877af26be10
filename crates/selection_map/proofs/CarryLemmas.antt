-- The arithmetic of coordinates carries places as the change of the text does.
use Rattle.std.proofs.Common.{◌≡◌, ℕ, zero, suc, ◌<◌, ◌≤◌, ◌+◌, ◌-◌, min, Bool, true, false, inl, inr, List, [], ◌∷◌, ◌++◌, length, take, drop, refl, sym, ap, ◌∙◌, arith, subst, length-append, length-drop, zero-add}
use Rattle.std.specs.Prelude.{if◌then◌else◌}
use Rattle.std.proofs.lemmas.Bool.{eq-eqb, eqb-true}
use Rattle.std.proofs.lemmas.Bool.Decides.{leb_tells}
use Rattle.std.proofs.lemmas.List.{take-append-le, take-take, length-take-le, drop_at}
use Rattle.std.proofs.Math.Dec.{leb, eqb}
use Rattle.text_model.specs.declared.coords.Coord.{Coord}
use Rattle.text_model.specs.declared.coords.Shift.{Shift}
use Rattle.text_model.specs.Coords.{origin, reached, further, is_at_most}
use Rattle.text_model.specs.Texts.{IsText, offset, IsPlace, coord_at}
use Rattle.text_model.specs.Changes.{Move, IsCut, IsChange, IsShift, holder}
use Rattle.text_model.specs.Mapping.{moved, shifted, past_insertion, past_erasure}
use Rattle.text_model.proofs.CoordLemmas.{reached-append, reached-from, further-same_line, further-below, zero_or_suc, same_coord, test_cases}
use Rattle.text_model.proofs.PlaceLemmas.{offset-below, offset-coord_at, coord_at-offset, IsPlace-coord_at, IsPlaceOrEnd-coord_at, is_at_most-offset, leb_true, leb_false}
use Rattle.text_model.proofs.MappingLemmas.{past_insertion_cases, past_erasure_cases, shifted-le}
use Rattle.selection_map.specs.Carrying.{IsShiftStep, Carries}
use Rattle.selection_map.specs.Rebasing.{rebased, earlier, uncut, mapped}

rebased-same : (at f t : Coord) → at.line ≡ f.line → rebased at f t ≡ record { line = t.line; column = t.column + (at.column - f.column) }
rebased-same at f t h = rw (eq-eqb at.line f.line h) refl

pub rebased-below : (at f t : Coord) → f.line < at.line → rebased at f t ≡ record { line = t.line + (at.line - f.line); column = at.column }
rebased-below at f t h = elim (test_cases (eqb at.line f.line)) [ inl e ↦ absurd (let g : at.line ≡ f.line = eqb-true at.line f.line e in omega arith) | inr e ↦ rw e refl ]

-- what lies as far behind one coordinate is rebased to what lies as far behind another
pub rebased-further : (f t d : Coord) → rebased (further f d) f t ≡ further t d
rebased-further f t d = elim (zero_or_suc d.line) [ inl e ↦ on_line e | inr s ↦ below (s.0) (s.1) ]
  where
    on_line : d.line ≡ 0 → rebased (further f d) f t ≡ further t d
    on_line e =
        ap (λ x. rebased x f t) (further-same_line f d e)
        ∙ rebased-same (record { line = f.line; column = f.column + d.column }) f t refl
        ∙ same_coord (record { line = t.line; column = t.column + ((f.column + d.column) - f.column) }) (record { line = t.line; column = t.column + d.column }) refl (omega arith)
        ∙ sym (further-same_line t d e)

    below : (n : ℕ) → d.line ≡ suc n → rebased (further f d) f t ≡ further t d
    below n e =
        ap (λ x. rebased x f t) (further-below f d n e)
        ∙ rebased-below (record { line = f.line + d.line; column = d.column }) f t (omega arith)
        ∙ same_coord (record { line = t.line + ((f.line + d.line) - f.line); column = d.column }) (record { line = t.line + d.line; column = d.column }) (omega arith) refl
        ∙ sym (further-below t d n e)

take-none : (k : ℕ) → take {A = ℕ} k [] ≡ []
take-none zero = refl
take-none (suc k) = refl

take-split : (n k : ℕ) (xs : List ℕ) → take (n + k) xs ≡ take n xs ++ take k (drop n xs)
take-split zero k xs = rw zero-add refl
take-split (suc n) k [] = let e : suc n + k ≡ suc (n + k) = omega arith in rw e (sym (take-none k))
take-split (suc n) k (x ∷ xs) = let e : suc n + k ≡ suc (n + k) = omega arith in rw e (ap (λ r. x ∷ r) (take-split n k xs))

length-front : (long : List ℕ) (b e : ℕ) → b ≤ e → e ≤ length long → length (take b long) ≡ b
length-front long b e h l = length-take-le b long (omega arith)

-- before the cut, both texts have the same characters and coordinates
take-before : (long short : List ℕ) (b e o : ℕ) → IsCut long short b e → o ≤ b → take o short ≡ take o long
take-before long short b e o c h =
    let n : length (take b long) ≡ b = length-front long b e c.ordered c.within in
    let m : o ≤ length (take b long) = omega arith in
    ap (take o) c.short_is ∙ take-append-le o (take b long) (drop e long) m ∙ take-take o b long h

pub cut-before : (long short : List ℕ) (b e o : ℕ) → IsCut long short b e → o ≤ b → coord_at short o ≡ coord_at long o
cut-before long short b e o c h = ap (reached origin) (take-before long short b e o c h)

-- behind it, coordinates lie as far behind the cut
pub far-behind : (text mid : List ℕ) (n k : ℕ) → drop n text ≡ mid → coord_at text (n + k) ≡ further (coord_at text n) (reached origin (take k mid))
far-behind text mid n k h =
    ap (reached origin) (take-split n k text)
    ∙ ap (λ r. reached origin (take n text ++ take k r)) h
    ∙ reached-append origin (take n text) (take k mid)
    ∙ reached-from (coord_at text n) (take k mid)

pub drop-short : (long short : List ℕ) (b e : ℕ) → IsCut long short b e → drop b short ≡ drop e long
drop-short long short b e c = ap (drop b) c.short_is ∙ drop_at (take b long) (drop e long) b (length-front long b e c.ordered c.within)

pub length-short : (long short : List ℕ) (b e : ℕ) → IsCut long short b e → length short + (e - b) ≡ length long
length-short long short b e c =
    let n : length short ≡ length (take b long) + length (drop e long) = ap length c.short_is ∙ length-append (take b long) (drop e long) in
    omega (arith, c.ordered, c.within, length-front long b e c.ordered c.within, length-drop e long)

-- what lies k behind the cut in one text is rebased to what lies k behind it in the other
rebased-short : (long short : List ℕ) (b e k : ℕ) → IsCut long short b e → rebased (coord_at short (b + k)) (coord_at long b) (coord_at long e) ≡ coord_at long (e + k)
rebased-short long short b e k c =
    ap (λ x. rebased x (coord_at long b) (coord_at long e)) (far-behind short (drop e long) b k (drop-short long short b e c) ∙ ap (λ x. further x (reached origin (take k (drop e long)))) (cut-before long short b e b c (omega arith)))
    ∙ rebased-further (coord_at long b) (coord_at long e) (reached origin (take k (drop e long)))
    ∙ sym (far-behind long (drop e long) e k refl)

rebased-long : (long short : List ℕ) (b e k : ℕ) → IsCut long short b e → rebased (coord_at long (e + k)) (coord_at long e) (coord_at long b) ≡ coord_at short (b + k)
rebased-long long short b e k c =
    ap (λ x. rebased x (coord_at long e) (coord_at long b)) (far-behind long (drop e long) e k refl)
    ∙ rebased-further (coord_at long e) (coord_at long b) (reached origin (take k (drop e long)))
    ∙ sym (far-behind short (drop e long) b k (drop-short long short b e c) ∙ ap (λ x. further x (reached origin (take k (drop e long)))) (cut-before long short b e b c (omega arith)))

-- the order of coordinates is that of offsets
pub order-coords : (text : List ℕ) (i j : ℕ) → IsText text → i ≤ length text → j ≤ length text → is_at_most (coord_at text i) (coord_at text j) ≡ leb i j
order-coords text i j t h k =
    is_at_most-offset text (coord_at text i) (coord_at text j) (IsPlaceOrEnd-coord_at text i t h) (IsPlaceOrEnd-coord_at text j t k)
    ∙ ap (λ x. leb x (offset text (coord_at text j))) (offset-coord_at text i h)
    ∙ ap (leb i) (offset-coord_at text j k)

-- the coordinate, not cut, is that of the moved offset
pub record Goes (new : List ℕ) (at : Coord) (o : ℕ) : Type 0 where
  pub is_at : at ≡ coord_at new o
  pub within : o ≤ length new

insertion-goes : (old new : List ℕ) (b e o : ℕ) → IsText old → IsCut new old b e → o < length old → Goes new (if is_at_most (coord_at new b) (coord_at old o) then rebased (coord_at old o) (coord_at new b) (coord_at new e) else coord_at old o) (past_insertion b (e - b) o)
insertion-goes old new b e o t c h =
    let l : length old + (e - b) ≡ length new = length-short new old b e c in
    let q : is_at_most (coord_at new b) (coord_at old o) ≡ leb b o = ap (λ x. is_at_most x (coord_at old o)) (sym (cut-before new old b e b c (omega arith))) ∙ order-coords old b o t (omega (arith, c.ordered, c.within)) (omega arith) in
    elim (past_insertion_cases b (e - b) o) [ inl f ↦ before q l (f.0) (f.1) | inr f ↦ behind q l (f.0) (f.1) ]
  where
    before : is_at_most (coord_at new b) (coord_at old o) ≡ leb b o → length old + (e - b) ≡ length new → o < b → past_insertion b (e - b) o ≡ o → Goes new (if is_at_most (coord_at new b) (coord_at old o) then rebased (coord_at old o) (coord_at new b) (coord_at new e) else coord_at old o) (past_insertion b (e - b) o)
    before q l f g = rw (q, leb_false b o f, g) (record { is_at = cut-before new old b e o c (omega arith); within = omega arith })

    behind : is_at_most (coord_at new b) (coord_at old o) ≡ leb b o → length old + (e - b) ≡ length new → b ≤ o → past_insertion b (e - b) o ≡ o + (e - b) → Goes new (if is_at_most (coord_at new b) (coord_at old o) then rebased (coord_at old o) (coord_at new b) (coord_at new e) else coord_at old o) (past_insertion b (e - b) o)
    behind q l f g =
        let i : o ≡ b + (o - b) = omega arith in
        let j : e + (o - b) ≡ o + (e - b) = omega (arith, c.ordered) in
        rw (q, leb_true b o f, g) (record {
          is_at = ap (λ x. rebased (coord_at old x) (coord_at new b) (coord_at new e)) i ∙ rebased-short new old b e (o - b) c ∙ ap (coord_at new) j;
          within = omega arith;
        })

-- where a coordinate goes through an erasure, before the cut
abbrev erased_coord : List ℕ → List ℕ → ℕ → ℕ → ℕ → Coord
erased_coord old new b e o = if is_at_most (coord_at old b) (coord_at old o) then (if is_at_most (coord_at old o) (coord_at old e) then coord_at old b else rebased (coord_at old o) (coord_at old e) (coord_at old b)) else coord_at old o

erasure-goes : (old new : List ℕ) (b e o : ℕ) → IsText old → IsCut old new b e → o < length old → Goes new (erased_coord old new b e o) (past_erasure b e o)
erasure-goes old new b e o t c h =
    let l : length new + (e - b) ≡ length old = length-short old new b e c in
    let q : is_at_most (coord_at old b) (coord_at old o) ≡ leb b o = order-coords old b o t (omega (arith, c.ordered, c.within)) (omega arith) in
    let r : is_at_most (coord_at old o) (coord_at old e) ≡ leb o e = order-coords old o e t (omega arith) c.within in
    elim (past_erasure_cases b e o c.ordered) [ inl f ↦ before q r l (f.0) (f.1) | inr f ↦ elim f [ inl g ↦ inside q r l (g.0) (g.1) (g.2) | inr g ↦ behind q r l (g.0) (g.1) ] ]
  where
    before : is_at_most (coord_at old b) (coord_at old o) ≡ leb b o → is_at_most (coord_at old o) (coord_at old e) ≡ leb o e → length new + (e - b) ≡ length old → o < b → past_erasure b e o ≡ o
        → Goes new (erased_coord old new b e o) (past_erasure b e o)
    before q r l f g = let P : ℕ → Type 0 = λ x. Goes new (erased_coord old new b e o) x in subst P (sym g) (rw (q, leb_false b o f) (record { is_at = sym (cut-before old new b e o c (omega arith)); within = omega (arith, c.ordered, c.within) }))

    inside : is_at_most (coord_at old b) (coord_at old o) ≡ leb b o → is_at_most (coord_at old o) (coord_at old e) ≡ leb o e → length new + (e - b) ≡ length old → b ≤ o → o ≤ e → past_erasure b e o ≡ b
        → Goes new (erased_coord old new b e o) (past_erasure b e o)
    inside q r l f k g = let P : ℕ → Type 0 = λ x. Goes new (erased_coord old new b e o) x in subst P (sym g) (rw (q, r, leb_true b o f, leb_true o e k) (record { is_at = sym (cut-before old new b e b c (omega arith)); within = omega (arith, c.ordered, c.within) }))

    behind : is_at_most (coord_at old b) (coord_at old o) ≡ leb b o → is_at_most (coord_at old o) (coord_at old e) ≡ leb o e → length new + (e - b) ≡ length old → e < o → past_erasure b e o ≡ o - (e - b)
        → Goes new (erased_coord old new b e o) (past_erasure b e o)
    behind q r l f g =
        let i : o ≡ e + (o - e) = omega arith in
        let j : b + (o - e) ≡ o - (e - b) = omega (arith, c.ordered) in
        let k : b ≤ o = omega (arith, c.ordered) in
        let P : ℕ → Type 0 = λ x. Goes new (erased_coord old new b e o) x in
        subst P (sym g) (rw (q, r, leb_true b o k, leb_false o e f) (record {
          is_at = ap (λ x. rebased (coord_at old x) (coord_at old e) (coord_at old b)) i ∙ rebased-long old new b e (o - e) c ∙ ap (coord_at new) j;
          within = omega (arith, c.ordered);
        }))

-- a coordinate goes where its offset goes, before the cut
uncut-goes : (old new : List ℕ) (s : Shift) (m : Move) (o : ℕ) → IsText old → IsShift old new s m → o < length old → (insert : Bool) → m.insert ≡ insert → Goes new (uncut s (coord_at old o)) (moved m o)
uncut-goes old new s m o t f h true e =
    let cut : IsChange true old new m.begin m.end = let P : Bool → Type 0 = λ x. IsChange x old new m.begin m.end in subst P e f.change in
    let b : s.begin ≡ coord_at new m.begin = f.begin_is ∙ ap (λ x. coord_at (holder x old new) m.begin) e in
    let d : s.end ≡ coord_at new m.end = f.end_is ∙ ap (λ x. coord_at (holder x old new) m.end) e in
    rw (f.insert_is, e, b, d) (insertion-goes old new m.begin m.end o t cut h)
uncut-goes old new s m o t f h false e =
    let cut : IsChange false old new m.begin m.end = let P : Bool → Type 0 = λ x. IsChange x old new m.begin m.end in subst P e f.change in
    let b : s.begin ≡ coord_at old m.begin = f.begin_is ∙ ap (λ x. coord_at (holder x old new) m.begin) e in
    let d : s.end ≡ coord_at old m.end = f.end_is ∙ ap (λ x. coord_at (holder x old new) m.end) e in
    rw (f.insert_is, e, b, d) (erasure-goes old new m.begin m.end o t cut h)

pub earlier-min : (text : List ℕ) (i j : ℕ) → IsText text → i ≤ length text → j ≤ length text → earlier (coord_at text i) (coord_at text j) ≡ coord_at text (min i j)
earlier-min text i j t h k = elim (leb_tells i j) [ inl f ↦ first (f.0) (f.1) | inr f ↦ second (f.0) (f.1) ]
  where
    first : leb i j ≡ true → i ≤ j → earlier (coord_at text i) (coord_at text j) ≡ coord_at text (min i j)
    first e l = let n : min i j ≡ i = omega arith in rw (order-coords text i j t h k, e, n) refl

    second : leb i j ≡ false → j < i → earlier (coord_at text i) (coord_at text j) ≡ coord_at text (min i j)
    second e l = let n : min i j ≡ j = omega arith in rw (order-coords text i j t h k, e, n) refl

-- the coordinate that the arithmetic gives is the place that the change gives
pub carries-mapped : (old new : List ℕ) (s : Shift) (m : Move) (at : Coord) → IsShiftStep old new s m → IsPlace old at → Carries old new m at (mapped s at)
carries-mapped old new s m at f p = record { is_place = rw same (IsPlace-coord_at new (shifted m (offset old at)) inside); goes = ap (offset new) same ∙ offset-coord_at new (shifted m (offset old at)) (omega (arith, inside)) }
  where
    below : offset old at < length old
    below = offset-below old at p

    goes : Goes new (uncut s (coord_at old (offset old at))) (moved m (offset old at))
    goes = uncut-goes old new s m (offset old at) f.old_text f.shift_is below m.insert refl

    inside : shifted m (offset old at) < length new
    inside = omega (arith, shifted-le m (offset old at), f.shift_is.last_offset, f.new_text.some)

    same : mapped s at ≡ coord_at new (shifted m (offset old at))
    same =
        ap (λ x. earlier (uncut s x) s.last) (sym (coord_at-offset old at p))
        ∙ ap (λ x. earlier x s.last) goes.is_at
        ∙ ap (earlier (coord_at new (moved m (offset old at)))) f.shift_is.last_is
        ∙ earlier-min new (moved m (offset old at)) m.last f.new_text goes.within (omega (arith, f.shift_is.last_offset))
