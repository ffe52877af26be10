-- Lemmas on the text behind some replacements of an edit, of which its length and its end are followed.
use Rattle.std.proofs.Common.{◌≡◌, ℕ, ◌+◌, ◌-◌, ◌<◌, ◌≤◌, Bool, true, false, cond, eqb, ltb, leb, ◌&&◌, ◌||◌, List, [], ◌∷◌, ◌++◌, length, take, drop, get_or, refl, sym, ap, ap₂, subst, ◌∙◌, arith, inl, inr, ◌⊎◌, length-append, length-take-le, length-drop, drop_at, get_or-take, get_or-drop, get_or-append-add, lt-ltb, le-ltb, ne_eqb, eq-eqb, append-nil}
use Rattle.std.proofs.lemmas.List.{drop_all, drop_more, drop-drop, get_or_append_left}
use Rattle.text_model.specs.declared.TheConstants.{MAX_CHARS}
use Rattle.text_model.specs.declared.coords.Coord.{Coord}
use Rattle.text_model.specs.Coords.{is_at_most}
use Rattle.text_model.specs.Texts.{IsStored, IsPlaceOrEnd, lines_of, offset}
use Rattle.text_model.specs.Changes.{Change, begins_line, all_changed, replacement}
use Rattle.text_model.proofs.PlaceLemmas.{offset-le, offset-below, coord_at-offset_or_end, offset-end, leb_true, leb_false}
use Rattle.text_model.proofs.ChangeLemmas.{begins_line-end, replacement-inside}
use Rattle.line_buffer.proofs.EraseLemmas.{begins_line-at}
use Rattle.selection_map.specs.Premises.{IsTied}
use Rattle.selection_map.proofs.CarryLemmas.{order-coords}
use Rattle.selection_map.proofs.TieLemmas.{tied-lengths}
use Rattle.undo_model.specs.Steps.{AreSteps}
use Rattle.undo_model.specs.Edits.{Splice, AreInOrder, splice_changes, edit_changes, is_too_long}
use Rattle.undo_model.proofs.StepLemmas.{steps-stored}
use Rattle.undo_model.proofs.EditLemmas.{edit-steps}
use Rattle.buffer_store.specs.declared.edits.Splice.{Splice as CodeSplice}
use Rattle.buffer_store.specs.declared.limits.PassedText.{PassedText}
use Rattle.buffer_store.specs.Buffers.{AreSplicesOf, IsSpliceOf, flat_splice, flat_splices}
use Rattle.buffer_store.specs.Limits.{added, begins_behind, IsPassed, CanPass}
use Rattle.buffer_store.proofs.EditingLemmas.{tied-on, ends-at}
use Rattle.buffer_store.proofs.LimitLemmas.{length-replaced}

ways : (m n : ℕ) → (m < n) ⊎ (n ≤ m)
ways m n = grind arith

-- the text behind one replacement more
abbrev pub next_text : List ℕ → List ℕ → CodeSplice → List ℕ
next_text old now s = all_changed now (splice_changes (length old) now (flat_splice old s))

-- whether a line begins where it goes, as the code finds it
abbrev pub begins_there : PassedText → CodeSplice → Bool
begins_there w s = cond (is_at_most s.from w.behind) w.begins (ltb 0 s.from.line && eqb s.from.column 0)

-- a line begins behind an equal character
same-begin : (old now : List ℕ) (f t a : ℕ) → IsTied old now f t → f < a → begins_line old a ≡ begins_line now (t + (a - f))
same-begin old now f t a h lt =
    let here : get_or old (a - 1) 0 ≡ get_or now (t + (a - f) - 1) 0 =
    (let i : a - 1 ≡ f + (a - 1 - f) = omega arith in
    let j : t + (a - 1 - f) ≡ t + (a - f) - 1 = omega arith in
    ap (λ n. get_or old n 0) i ∙ sym (get_or-drop f old (a - 1 - f) 0) ∙ ap (λ xs. get_or xs (a - 1 - f) 0) h.same ∙ get_or-drop t now (a - 1 - f) 0 ∙ ap (λ n. get_or now n 0) j) in
    ap₂ (λ v x. v && eqb x 10) (lt-ltb 0 a (omega arith) ∙ sym (lt-ltb 0 (t + (a - f)) (omega arith))) here

begins-is : (old now : List ℕ) (f : ℕ) (w : PassedText) (s : CodeSplice) (h : IsPassed old now f w) → IsStored old → IsPlaceOrEnd old s.from → f ≤ offset old s.from → begins_there w s ≡ begins_line now (h.t + (offset old s.from - f))
begins-is old now f w s h stored place le =
    let a : ℕ = offset old s.from in
    let test : is_at_most s.from w.behind ≡ leb a f = ap₂ is_at_most (sym (coord_at-offset_or_end old s.from stored.is_text place)) h.behind_is ∙ order-coords old a f stored.is_text (offset-le old s.from place) h.tied.from_in in
    elim (ways f a) [
      | inl lt ↦ ap (λ v. cond v w.begins (ltb 0 s.from.line && eqb s.from.column 0)) (test ∙ leb_false a f lt) ∙ sym (begins_line-at old s.from stored.is_text place) ∙ same-begin old now f h.t a h.tied lt
      | inr ge ↦ (let same : h.t ≡ h.t + (a - f) = omega arith in
          ap (λ v. cond v w.begins (ltb 0 s.from.line && eqb s.from.column 0)) (test ∙ leb_true a f ge) ∙ h.begins_is ∙ ap (begins_line now) same)
    ]

-- whether a replacement goes up to the end
end-is : (old now : List ℕ) (f t : ℕ) (to : Coord) → IsTied old now f t → IsPlaceOrEnd old to → f ≤ offset old to → eqb to.line (length (lines_of old)) ≡ eqb (t + (offset old to - f)) (length now)
end-is old now f t to h (inl place) le =
    let grown : length old + t ≡ length now + f = tied-lengths old now f t h in
    let below : offset old to < length old = offset-below old to place in
    ne_eqb to.line (length (lines_of old)) (λ e. omega (arith, place.on_line)) ∙ sym (ne_eqb (t + (offset old to - f)) (length now) (λ e. omega arith))
end-is old now f t to h (inr last) le =
    let grown : length old + t ≡ length now + f = tied-lengths old now f t h in
    let at : offset old to ≡ length old = ap (offset old) last ∙ offset-end old in
    eq-eqb to.line (length (lines_of old)) (ap (λ (x : Coord). x.line) last) ∙ sym (eq-eqb (t + (offset old to - f)) (length now) (omega arith))

-- a line begins behind what was put in
begins-behind : (text new : List ℕ) (p q : ℕ) (s : List ℕ) → p ≤ q → q < length text → new ≡ take p text ++ (s ++ drop q text) → begins_behind s (begins_line text p) ≡ begins_line new (p + length s)
begins-behind text new p q [] k l e =
    let at : p + 0 ≡ p = omega arith in
    stays (ways 0 p) ∙ sym (ap₂ begins_line e at)
  where
    long : length (take p text) ≡ p
    long = length-take-le p text (omega arith)

    stays : (0 < p) ⊎ (p ≤ 0) → begins_line text p ≡ begins_line (take p text ++ drop q text) p
    stays (inl lt) =
        let inside : p - 1 < length (take p text) = omega (arith, long) in
        ap (λ x. ltb 0 p && eqb x 10) (sym (get_or_append_left (take p text) (drop q text) 0 (p - 1) inside ∙ get_or-take p text (p - 1) 0 (omega arith)))
    stays (inr le) = ap (λ v. v && eqb (get_or text (p - 1) 0) 10) (le-ltb 0 p le) ∙ sym (ap (λ v. v && eqb (get_or (take p text ++ drop q text) (p - 1) 0) 10) (le-ltb 0 p le))
begins-behind text new p q (c ∷ cs) k l e =
    let s : List ℕ = c ∷ cs in
    let long : length (take p text) ≡ p = length-take-le p text (omega arith) in
    let at : p + length s - 1 ≡ length (take p text) + (length s - 1) = omega (arith, long) in
    let last : get_or new (p + length s - 1) 0 ≡ get_or s (length s - 1) 0 =
    ap₂ (λ x n. get_or x n 0) e at ∙ get_or-append-add (take p text) (s ++ drop q text) (length s - 1) 0 ∙ get_or_append_left s (drop q text) 0 (length s - 1) (omega arith) in
    sym (ap (λ v. v && eqb (get_or new (p + length s - 1) 0) 10) (lt-ltb 0 (p + length s) (omega arith)) ∙ ap (λ x. eqb x 10) last)

-- what one replacement more does
pub record Passes (old now : List ℕ) (w : PassedText) (s : CodeSplice) : Type 0 where
  pub taken : offset old s.to - offset old s.from ≤ length now
  pub long : length (next_text old now s) + (offset old s.to - offset old s.from) ≡ length now + added s.text (eqb s.to.line (length (lines_of old))) (begins_there w s)
  pub next : (chars : ℕ) → length (next_text old now s) ≤ MAX_CHARS → chars ≡ length (next_text old now s) → IsPassed old (next_text old now s) (offset old s.to) (record { behind = s.to; begins = eqb s.to.line (length (lines_of old)) || begins_behind s.text (begins_there w s); chars = chars })

pub passes : (old now : List ℕ) (f : ℕ) (w : PassedText) (s : CodeSplice) → IsStored old → IsPassed old now f w → IsPlaceOrEnd old s.from → IsPlaceOrEnd old s.to → f ≤ offset old s.from → offset old s.from ≤ offset old s.to → Passes old now w s
passes old now f w s stored h fp tp low high =
    let n : ℕ = length old in
    let a : ℕ = offset old s.from in
    let b : ℕ = offset old s.to in
    let p : ℕ = h.t + (a - f) in
    let q : ℕ = h.t + (b - f) in
    let last : b ≤ n = offset-le old s.to tp in
    let grown : n + h.t ≡ length now + f = tied-lengths old now f h.t h.tied in
    let moved-from : a + length now - n ≡ p = omega arith in
    let moved-to : b + length now - n ≡ q = omega arith in
    let same : splice_changes n now (flat_splice old s) ≡ replacement now p q s.text = ap₂ (λ u v. replacement now u v s.text) moved-from moved-to in
    let new : List ℕ = next_text old now s in
    let is : next_text old now s ≡ all_changed now (replacement now p q s.text) = ap (all_changed now) same in
    let begins : begins_there w s ≡ begins_line now p = begins-is old now f w s h stored fp low in
    let ends : eqb s.to.line (length (lines_of old)) ≡ eqb q (length now) = end-is old now f h.t s.to h.tied tp (omega arith) in
    let tests : added s.text (eqb s.to.line (length (lines_of old))) (begins_there w s) ≡ added s.text (eqb q (length now)) (begins_line now p) = ap₂ (added s.text) ends begins in
    let order : p ≤ q = omega arith in
    let inside : q ≤ length now = omega arith in
    let far : q - p ≡ b - a = omega arith in
    record {
      taken = omega arith;
      long = omega (arith, length-replaced now p q s.text h.stored.is_text order inside, ap length is, tests, far);
      next = λ chars small e. goes_on p q is begins ends order inside chars small e (ways q (length now)) refl;
    }
  where
    kept : length (next_text old now s) ≤ MAX_CHARS → IsStored (next_text old now s)
    kept small =
        let n : ℕ = length old in
        let one : List Splice = flat_splice old s ∷ [] in
        let cs : List Change = splice_changes n now (flat_splice old s) in
        let short : is_too_long n now one ≡ false = ap (λ v. v || false) (le-ltb MAX_CHARS (length (all_changed now cs)) small) in
        let order : AreInOrder f n one = (low, high, offset-le old s.to tp) in
        let steps : AreSteps now (edit_changes n now one) = edit-steps n now f one h.stored order short in
        subst (λ ds. IsStored (all_changed now ds)) (append-nil cs) (steps-stored now (edit_changes n now one) h.stored steps)

    goes_on : (p q : ℕ) → next_text old now s ≡ all_changed now (replacement now p q s.text) → begins_there w s ≡ begins_line now p → eqb s.to.line (length (lines_of old)) ≡ eqb q (length now) → p ≤ q → q ≤ length now → (chars : ℕ) → length (next_text old now s) ≤ MAX_CHARS → chars ≡ length (next_text old now s) → (q < length now) ⊎ (length now ≤ q)
        → q ≡ h.t + (offset old s.to - f) → IsPassed old (next_text old now s) (offset old s.to) (record { behind = s.to; begins = eqb s.to.line (length (lines_of old)) || begins_behind s.text (begins_there w s); chars = chars })
    goes_on p q is begins ends order inside chars small e (inl lt) at =
        let new : List ℕ = next_text old now s in
        let r : List ℕ = s.text in
        let parts : next_text old now s ≡ take p now ++ (s.text ++ drop q now) = is ∙ replacement-inside now p q s.text h.stored.is_text order lt in
        let front : length (take p now) ≡ p = length-take-le p now (omega arith) in
        let long : length (next_text old now s) ≡ p + (length s.text + (length now - q)) = omega (arith, ap length parts, length-append (take p now) (s.text ++ drop q now), length-append s.text (drop q now), front, length-drop q now) in
        let tie : IsTied now new q (p + length s.text) = record {
          from_in = inside;
          onto_in = omega (arith, long);
          same = sym (ap (drop (p + length s.text)) parts ∙ sym (drop-drop (length s.text) p (take p now ++ (s.text ++ drop q now))) ∙ ap (drop (length s.text)) (drop_at (take p now) (s.text ++ drop q now) p front) ∙ drop_at s.text (drop q now) (length s.text) refl);
        } in
        record {
          t = p + length s.text;
          stored = kept small;
          tied = tied-on old now new f h.t (offset old s.to) (p + length s.text) h.tied (subst (λ m. IsTied now new m (p + length s.text)) at tie) (omega arith) (offset-le old s.to tp);
          behind_is = sym (coord_at-offset_or_end old s.to stored.is_text tp);
          begins_is = ap₂ (λ v u. v || begins_behind s.text u) (ends ∙ ne_eqb q (length now) (λ same. omega arith)) begins ∙ begins-behind now new p q s.text order lt parts;
          chars_is = e;
        }
    goes_on p q is begins ends order inside chars small e (inr ge) at =
        let new : List ℕ = next_text old now s in
        let whole : q ≡ length now = omega arith in
        let tie : IsTied now new q (length new) = record {
          from_in = inside;
          onto_in = omega arith;
          same = drop_all q now ge ∙ sym (drop_all (length new) new (omega arith));
        } in
        record {
          t = length new;
          stored = kept small;
          tied = tied-on old now new f h.t (offset old s.to) (length new) h.tied (subst (λ m. IsTied now new m (length new)) at tie) (omega arith) (offset-le old s.to tp);
          behind_is = sym (coord_at-offset_or_end old s.to stored.is_text tp);
          begins_is = ap (λ v. v || begins_behind s.text (begins_there w s)) (ends ∙ eq-eqb q (length now) whole) ∙ sym (begins_line-end new (kept small).is_text);
          chars_is = e;
        }

-- how far the code has got, and what is left to decide
pub record IsPassing (old : List ℕ) (ss : List CodeSplice) (i : ℕ) (w : PassedText) : Type 0 where
  pub now : List ℕ
  pub f : ℕ
  pub passed : IsPassed old now f w
  pub later : AreInOrder f (length old) (flat_splices old (drop i ss))
  pub whole : is_too_long (length old) old (flat_splices old ss) ≡ is_too_long (length old) now (flat_splices old (drop i ss))

pub passing-first : (old : List ℕ) (ss : List CodeSplice) (n : ℕ) → IsStored old → AreSplicesOf old ss → n ≡ length old → IsPassing old ss 0 (record { behind = record { line = 0; column = 0 }; begins = false; chars = n })
passing-first old ss n h a e = record {
  now = old;
  f = 0;
  passed = record {
    t = 0;
    stored = h;
    tied = record { from_in = omega arith; onto_in = omega arith; same = refl };
    behind_is = refl;
    begins_is = sym (ap (λ v. v && eqb (get_or old (0 - 1) 0) 10) (le-ltb 0 0 (omega arith)));
    chars_is = e;
  };
  later = a.in_order;
  whole = refl;
}

-- the next replacement
pub record IsPassingNext (old : List ℕ) (ss : List CodeSplice) (i : ℕ) (s : CodeSplice) (w : PassedText) : Type 0 where
  pub passing : IsPassing old ss i w
  pub ends : IsSpliceOf old s
  pub behind : passing.f ≤ offset old s.from
  pub ordered : offset old s.from ≤ offset old s.to
  pub later : AreInOrder (offset old s.to) (length old) (flat_splices old (drop (i + 1) ss))
  pub whole : is_too_long (length old) old (flat_splices old ss) ≡ ltb MAX_CHARS (length (next_text old passing.now s)) || is_too_long (length old) (next_text old passing.now s) (flat_splices old (drop (i + 1) ss))

pub passing-next : (old : List ℕ) (ss : List CodeSplice) (i : ℕ) (s : CodeSplice) (w : PassedText) → AreSplicesOf old ss → i < length ss → s ≡ get_or ss i s → IsPassing old ss i w → IsPassingNext old ss i s w
passing-next old ss i s w a lt e k =
    let cut : drop i ss ≡ s ∷ drop (i + 1) ss = drop_more ss i s lt ∙ ap (λ y. y ∷ drop (i + 1) ss) (sym e) in
    let rest : flat_splices old (drop i ss) ≡ flat_splice old s ∷ flat_splices old (drop (i + 1) ss) = ap (flat_splices old) cut in
    let order : AreInOrder k.f (length old) (flat_splice old s ∷ flat_splices old (drop (i + 1) ss)) = subst (AreInOrder k.f (length old)) rest k.later in
    record {
      passing = k;
      ends = ends-at old ss i s lt e a.ends;
      behind = order.0;
      ordered = order.1;
      later = order.2;
      whole = k.whole ∙ ap (is_too_long (length old) k.now) rest;
    }

pub passing-can : (old : List ℕ) (ss : List CodeSplice) (i : ℕ) (s : CodeSplice) (w : PassedText) → IsStored old → IsPassingNext old ss i s w → CanPass old w s
passing-can old ss i s w h k = record { now = k.passing.now; f = k.passing.f; stored = h; passed = k.passing.passed; from = k.ends.from; «to» = k.ends.to; behind = k.behind; ordered = k.ordered }

pub passing-full : (old : List ℕ) (ss : List CodeSplice) (i : ℕ) (s : CodeSplice) (w : PassedText) (k : IsPassingNext old ss i s w) → MAX_CHARS < length (next_text old k.passing.now s) → is_too_long (length old) old (flat_splices old ss) ≡ true
passing-full old ss i s w k over = k.whole ∙ ap (λ v. v || is_too_long (length old) (next_text old k.passing.now s) (flat_splices old (drop (i + 1) ss))) (lt-ltb MAX_CHARS (length (next_text old k.passing.now s)) over)

pub passing-more : (old : List ℕ) (ss : List CodeSplice) (i : ℕ) (s : CodeSplice) (w v : PassedText) (k : IsPassingNext old ss i s w) → length (next_text old k.passing.now s) ≤ MAX_CHARS → IsPassed old (next_text old k.passing.now s) (offset old s.to) v → IsPassing old ss (i + 1) v
passing-more old ss i s w v k small p = record {
  now = next_text old k.passing.now s;
  f = offset old s.to;
  passed = p;
  later = k.later;
  whole = k.whole ∙ ap (λ u. u || is_too_long (length old) (next_text old k.passing.now s) (flat_splices old (drop (i + 1) ss))) (le-ltb MAX_CHARS (length (next_text old k.passing.now s)) small);
}

pub passing-all : (old : List ℕ) (ss : List CodeSplice) (i : ℕ) (w : PassedText) → length ss ≤ i → IsPassing old ss i w → is_too_long (length old) old (flat_splices old ss) ≡ false
passing-all old ss i w le k = k.whole ∙ ap (λ ys. is_too_long (length old) k.now (flat_splices old ys)) (drop_all i ss le)
