-- Lemmas on changes that were just made, as they are kept.
use Rattle.std.proofs.Common.{◌≡◌, ℕ, ◌+◌, ◌-◌, ◌<◌, ◌≤◌, Bool, true, false, cond, not, eqb, List, [], ◌∷◌, ◌++◌, length, take, drop, slice_range, refl, sym, ap, ap₂, subst, ◌∙◌, arith, inl, inr, length-take-le, length-drop, take-append-drop, lt-ltb, le-ltb, eqb-true, Ok, Err}
use Rattle.std.specs.declared.result.Result.{Result}
use Rattle.text_model.specs.declared.coords.Coord.{Coord}
use Rattle.text_model.specs.declared.coords.Shift.{Shift}
use Rattle.text_model.specs.Texts.{IsStored, IsPlaceOrEnd, lines_of, offset, end_coord}
use Rattle.text_model.specs.Changes.{ended, put_in, inserted, taken_end, erased, Change, Insertion, Erasure, changed, inverse, insertion_of, insertion, erasure, move_of, IsShift}
use Rattle.text_model.proofs.PlaceLemmas.{offset-le, offset-below, offset-end, three_ways}
use Rattle.text_model.proofs.ChangeLemmas.{IsText-ended, text_ends, ended-text, put_in-inside, taken_end-within}
use Rattle.line_buffer.proofs.InsertLemmas.{put_in-ended, place_by_line, end_by_line}
use Rattle.line_buffer.proofs.FlatLemmas.{line-le-count}
use Rattle.std.proofs.lemmas.Bool.{eqb-false}
use Rattle.text_model.proofs.CoordLemmas.{test_cases}
use Rattle.change_list.specs.declared.change.Change.{Change as Kept}
use Rattle.undo_model.specs.Steps.{IsStep}
use Rattle.buffer_store.specs.Stored.{turn, flat, KeptFits, IsKeptAlone}

-- what is really put in is put in as it is
pub put_in-twice : (text : List ℕ) (p : ℕ) (s : List ℕ) → p ≤ length text → put_in text p (put_in text p s) ≡ put_in text p s
put_in-twice text p [] h = refl
put_in-twice text p (c ∷ cs) h =
    elim (three_ways p (length text)) [
      | inl lt ↦ put_in-inside text p (put_in text p (c ∷ cs)) lt
      | inr w ↦ elim w [
        | inl e ↦ (let at_end : put_in text p (c ∷ cs) ≡ ended (c ∷ cs) = put_in-ended text p (c ∷ cs) e (omega arith) in
            let same : ended (ended (c ∷ cs)) ≡ ended (c ∷ cs) = ended-text (ended (c ∷ cs)) (text_ends (ended (c ∷ cs)) (IsText-ended (c ∷ cs))) in
            ap (put_in text p) at_end ∙ put_in-ended text p (ended (c ∷ cs)) e (IsText-ended (c ∷ cs)).some ∙ same ∙ sym at_end)
        | inr gt ↦ absurd (omega arith)
      ]
    ]

-- and is some where there are characters
pub put_in-some : (text : List ℕ) (p : ℕ) (s : List ℕ) → p ≤ length text → 0 < length s → 0 < length (put_in text p s)
put_in-some text p s h some =
    elim (three_ways p (length text)) [
      | inl lt ↦ omega (arith, ap length (put_in-inside text p s lt))
      | inr w ↦ elim w [
        | inl e ↦ omega (arith, ap length (put_in-ended text p s e some), (IsText-ended s).some)
        | inr gt ↦ absurd (omega arith)
      ]
    ]

insertion_of-some : (p : ℕ) (s : List ℕ) → 0 < length s → insertion_of p s ≡ Insertion p s ∷ []
insertion_of-some p [] h = absurd (omega arith)
insertion_of-some p (c ∷ cs) h = refl

-- a change with its shift, as it is kept
kept_as : (old new : List ℕ) (at : Coord) (insert : Bool) (chars : List ℕ) (s : Shift) (c : Change) → c ≡ turn insert (offset old at) chars → inverse old c ≡ turn (not insert) (offset old at) chars → IsStored old → IsStep old c → new ≡ changed old c → IsShift old new s (move_of old c) → s.insert ≡ insert → s.begin ≡ at → IsKeptAlone old new (c ∷ []) (record { shift = s; chars = chars })
kept_as old new at insert chars s c is back h step n shift i b =
    let k : Kept = record { shift = s; chars = chars } in
    let same : flat old k ≡ c = ap₂ (λ x y. turn x (offset old y) chars) i b ∙ sym is in
    let P : Change → Type 0 = λ x. IsShift old (changed old x) s (move_of old x) in
    let Q : List ℕ → Type 0 = λ t. IsShift old t s (move_of old c) in
    let fits : KeptFits old k = record {
      stored = h;
      step = subst (IsStep old) (sym same) step;
      shift = subst P (sym same) (subst Q n shift);
      chars = ap (inverse old) same ∙ back ∙ sym (ap₂ (λ x y. turn (not x) (offset old y) chars) i b);
    } in
    record {
      fits = fits;
      is_change = ap (λ x. x ∷ []) (sym same);
      leads = n ∙ ap (changed old) (sym same);
      made = record { before = old; fit = (fits, tt); is_made = n ∙ ap (changed old) (sym same) };
    }

-- characters put in, as they are kept
pub kept-insertion : (old new : List ℕ) (at : Coord) (chars put : List ℕ) (s : Shift) → IsStored old → IsStored new → IsPlaceOrEnd old at → 0 < length chars → put ≡ put_in old (offset old at) chars → new ≡ inserted old (offset old at) put → IsShift old new s (move_of old (Insertion (offset old at) (put_in old (offset old at) put))) → s.begin ≡ at → IsKeptAlone old new (insertion old (offset old at) chars) (record { shift = s; chars = put })
kept-insertion old new at chars put s h k place some is n shift b =
    let p : ℕ = offset old at in
    let inside : p ≤ length old = offset-le old at place in
    let twice : put_in old p put ≡ put = ap (put_in old p) is ∙ put_in-twice old p chars inside ∙ sym is in
    let real : 0 < length put = omega (arith, ap length is, put_in-some old p chars inside some) in
    let new_is : new ≡ changed old (Insertion p put) = n ∙ ap (λ x. take p old ++ (x ++ drop p old)) twice in
    let P : List ℕ → Type 0 = λ x. IsShift old new s (move_of old (Insertion p x)) in
    let step : IsStep old (Insertion p put) = record { inside = inside; some = real; stored = subst IsStored new_is k } in
    let one : insertion old p chars ≡ Insertion p put ∷ [] = ap (insertion_of p) (sym is) ∙ insertion_of-some p put real in
    let Q : List Change → Type 0 = λ cs. IsKeptAlone old new cs (record { shift = s; chars = put }) in
    subst Q (sym one) (kept_as old new at true put s (Insertion p put) refl refl h step new_is (subst P twice shift) shift.insert_is b)

-- how much is taken
pub taken-long : (old : List ℕ) (p q : ℕ) (taken : List ℕ) → IsStored old → p ≤ q → q ≤ length old → taken ≡ slice_range old p (taken_end old p q) → p + length taken ≡ taken_end old p q
taken-long old p q taken h k l is =
    let within : (p ≤ taken_end old p q) × (taken_end old p q ≤ q) = taken_end-within old p q h.is_text k l in
    let room : taken_end old p q - p ≤ length (drop p old) = omega (arith, length-drop p old, within.0, within.1) in
    omega (arith, ap length is, length-take-le (taken_end old p q - p) (drop p old) room, within.0)

-- characters taken out, as they are kept
pub kept-erasure : (old new : List ℕ) (from to : Coord) (taken : List ℕ) (s : Shift) → IsStored old → IsStored new → IsPlaceOrEnd old to → offset old from ≤ offset old to → 0 < length taken → taken ≡ slice_range old (offset old from) (taken_end old (offset old from) (offset old to)) → new ≡ erased old (offset old from) (offset old to) → IsShift old new s (move_of old (Erasure (offset old from) (taken_end old (offset old from) (offset old to)))) → s.begin ≡ from → IsKeptAlone old new (erasure old (offset old from) (offset old to)) (record { shift = s; chars = taken })
kept-erasure old new from to taken s h k place o some is n shift b =
    let p : ℕ = offset old from in
    let q : ℕ = offset old to in
    let e : ℕ = taken_end old p q in
    let last : q ≤ length old = offset-le old to place in
    let within : (p ≤ e) × (e ≤ q) = taken_end-within old p q h.is_text o last in
    let long : p + length taken ≡ e = taken-long old p q taken h o last is in
    let lt : p < e = omega arith in
    let step : IsStep old (Erasure p e) = record { inside = (within.0, omega (arith, within.1)); some = omega arith; stored = subst IsStored n k } in
    let one : erasure old p q ≡ Erasure p e ∷ [] = ap (λ v. cond v (Erasure p e ∷ []) []) (lt-ltb p e lt) in
    let Q : List Change → Type 0 = λ cs. IsKeptAlone old new cs (record { shift = s; chars = taken }) in
    subst Q (sym one) (kept_as old new from false taken s (Erasure p e) (ap (Erasure p) (sym long)) (ap (Insertion p) (sym is)) h step n shift shift.insert_is b)

-- where nothing is taken there is no change
pub none-taken : (old new : List ℕ) (p q : ℕ) (taken : List ℕ) → IsStored old → p ≤ q → q ≤ length old → length taken ≡ 0 → taken ≡ slice_range old p (taken_end old p q) → new ≡ erased old p q → (erasure old p q ≡ []) × (new ≡ old)
none-taken old new p q taken h k l none is n =
    let long : p + length taken ≡ taken_end old p q = taken-long old p q taken h k l is in
    let same : taken_end old p q ≡ p = omega arith in
    (ap (λ v. cond v (Erasure p (taken_end old p q) ∷ []) []) (le-ltb p (taken_end old p q) (omega arith)), n ∙ ap (λ x. take p old ++ drop x old) same ∙ take-append-drop p old)

-- what is put in, by the line of the place
pub put_in-at : (text : List ℕ) (at : Coord) (s : List ℕ) (n : ℕ) → IsPlaceOrEnd text at → 0 < length s → n ≡ length (lines_of text) → cond (eqb at.line n) (ended s) s ≡ put_in text (offset text at) s
put_in-at text at s n place some is =
    elim (test_cases (eqb at.line n)) [
      | inl e ↦ (let bottom : at ≡ end_coord text = end_by_line text at place (omega (arith, eqb-true at.line n e)) in
          ap (λ v. cond v (ended s) s) e ∙ sym (put_in-ended text (offset text at) s (ap (offset text) bottom ∙ offset-end text) some))
      | inr e ↦ (let inside : at.line < length (lines_of text) = omega (arith, line-le-count text at place, eqb-false at.line n e) in
          ap (λ v. cond v (ended s) s) e ∙ sym (put_in-inside text (offset text at) s (offset-below text at (place_by_line text at place inside))))
    ]

-- putting that in is putting the characters in
pub inserted-put : (text : List ℕ) (at : Coord) (s put : List ℕ) → IsPlaceOrEnd text at → put ≡ put_in text (offset text at) s → inserted text (offset text at) put ≡ inserted text (offset text at) s
inserted-put text at s put place is =
    let p : ℕ = offset text at in
    ap (λ x. take p text ++ (x ++ drop p text)) (ap (put_in text p) is ∙ put_in-twice text p s (offset-le text at place))

-- an error of one call as that of another
abbrev pub err_to : {T S E : Type 0} → E → Result T E → Result S E
err_to d (Ok x) = Err d
err_to d (Err e) = Err e
