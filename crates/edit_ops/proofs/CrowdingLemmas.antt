-- Replacements that put too much in: the text behind one of them is too long.
use Rattle.std.proofs.Common.{◌≡◌, ℕ, suc, ◌+◌, ◌-◌, ◌<◌, ◌≤◌, Bool, true, false, eqb, ltb, ◌||◌, inl, inr, List, [], ◌∷◌, ◌++◌, length, get_or, refl, sym, ap, ap₂, subst, ◌∙◌, arith, append-nil, length-append, le-ltb, ltb-true, ltb-false}
use Rattle.std.proofs.lemmas.List.{length-map}
use Rattle.std.specs.Prelude.{min}
use Rattle.text_model.specs.declared.TheConstants.{MAX_CHARS}
use Rattle.text_model.specs.Texts.{IsStored, ends_in_newline}
use Rattle.text_model.specs.Changes.{Change, ended, begins_line, all_changed}
use Rattle.text_model.proofs.CoordLemmas.{test_cases}
use Rattle.text_model.proofs.ChangeLemmas.{ended-text, ended-other}
use Rattle.list_model.specs.Ranges.{Range}
use Rattle.undo_model.specs.Steps.{AreSteps}
use Rattle.undo_model.specs.Edits.{Splice, AreInOrder, splice_changes, edit_changes, is_too_long}
use Rattle.undo_model.proofs.StepLemmas.{steps-stored}
use Rattle.undo_model.proofs.EditLemmas.{edit-steps}
use Rattle.selection_set.specs.declared.sel.Sel.{Sel}
use Rattle.selection_set.specs.Inside.{range_of}
use Rattle.selection_set.specs.Listing.{Listed, ranges_of}
use Rattle.selection_set.specs.Held.{IsHeld}
use Rattle.buffer_store.specs.Limits.{added}
use Rattle.buffer_store.proofs.LimitLemmas.{length-replaced}
use Rattle.edit_ops.specs.declared.kinds.Put.{Put}
use Rattle.edit_ops.specs.declared.kinds.Put.TheVariants.{Before, After, Over, BeforeCursor}
use Rattle.edit_ops.specs.Each.{each_from}
use Rattle.edit_ops.specs.Putting.{nth_string, some_is_line, put_at, puts}
use Rattle.edit_ops.specs.Crowding.{put_together, strings_together}
use Rattle.edit_ops.proofs.EachLemmas.{each-in_order, held-within}
use Rattle.edit_ops.proofs.PuttingLemmas.{puts-keep}
use Rattle.edit_ops.proofs.ShapeLemmas.{order-within}

ended-long : (s : List ℕ) → length s ≤ length (ended s)
ended-long s =
    elim (test_cases (ends_in_newline s)) [
      | inl e ↦ omega (arith, ap length (ended-text s e))
      | inr e ↦ omega (arith, ap length (ended-other s e), length-append s (10 ∷ []))
    ]

-- at least what is put in is added
added-long : (s : List ℕ) (at_end begins : Bool) → length s ≤ added s at_end begins
added-long s false begins = omega arith
added-long [] true begins = omega arith
added-long (c ∷ cs) true begins = ended-long (c ∷ cs)

-- the text behind a replacement has at least what was put in so far, and what is behind its range
grown : (before : ℕ) (text : List ℕ) (from was : ℕ) (s : Splice) → IsStored text → from ≤ s.from → s.from ≤ s.to → s.to ≤ before → was + before ≤ from + length text
    → was + length s.put + before ≤ s.to + length (all_changed text (splice_changes before text s))
grown before text from was s h low order inside room =
    let p : ℕ = s.from + length text - before in
    let q : ℕ = s.to + length text - before in
    omega (arith, length-replaced text p q s.put h.is_text (omega arith) (omega arith), added-long s.put (eqb q (length text)) (begins_line text p))

-- a text behind a replacement that isn't too long can be kept
kept : (before : ℕ) (text : List ℕ) (from : ℕ) (s : Splice) → IsStored text → from ≤ s.from → s.from ≤ s.to → s.to ≤ before → length (all_changed text (splice_changes before text s)) ≤ MAX_CHARS
    → IsStored (all_changed text (splice_changes before text s))
kept before text from s h low order inside small =
    let one : List Splice = s ∷ [] in
    let cs : List Change = splice_changes before text s in
    let short : is_too_long before text one ≡ false = ap (λ v. v || false) (le-ltb MAX_CHARS (length (all_changed text cs)) small) in
    let steps : AreSteps text (edit_changes before text one) = edit-steps before text from one h (low, order, inside) short in
    subst (λ ds. IsStored (all_changed text ds)) (append-nil cs) (steps-stored text (edit_changes before text one) h steps)

-- so an edit is too long where with what was put in before, it puts too much in
long-from : (before : ℕ) (text : List ℕ) (from was : ℕ) (ss : List Splice) → IsStored text → AreInOrder from before ss → was + before ≤ from + length text → MAX_CHARS < was + put_together ss
    → is_too_long before text ss ≡ true
long-from before text from was [] h k room over = absurd (omega (arith, k, h.small))
long-from before text from was (s ∷ ss) h k room over =
    let new : List ℕ = all_changed text (splice_changes before text s) in
    let inside : s.to ≤ before = order-within s.to before ss k.2 in
    let more : was + length s.put + before ≤ s.to + length new = grown before text from was s h k.0 k.1 inside room in
    elim (test_cases (ltb MAX_CHARS (length new))) [
      | inl e ↦ ap (λ v. v || is_too_long before new ss) e
      | inr e ↦ (ap (λ v. v || is_too_long before new ss) e
          ∙ long-from before new s.to (was + length s.put) ss (kept before text from s h k.0 k.1 inside (ltb-false MAX_CHARS (length new) e)) k.2 more (omega arith))
    ]

pub crowded-long : (text : List ℕ) (ss : List Splice) → IsStored text → AreInOrder 0 (length text) ss → MAX_CHARS < put_together ss → is_too_long (length text) text ss ≡ true
crowded-long text ss h k over = long-from (length text) text 0 0 ss h k (omega arith) (omega arith)

-- an edit without changes leaves the text, which isn't too long
long-changes : (before : ℕ) (text : List ℕ) (ss : List Splice) → length text ≤ MAX_CHARS → is_too_long before text ss ≡ true → 0 < length (edit_changes before text ss)
long-changes before text [] small long = absurd (let n : false ≡ true = long in cc)
long-changes before text (s ∷ ss) small long = by (long-changes before text ss small) (splice_changes before text s) refl
  where
    by : (is_too_long before text ss ≡ true → 0 < length (edit_changes before text ss)) → (cs : List Change) → splice_changes before text s ≡ cs → 0 < length (edit_changes before text (s ∷ ss))
    by later [] e =
        let Long : List Change → Type 0 = λ cs. ltb MAX_CHARS (length (all_changed text cs)) || is_too_long before (all_changed text cs) ss ≡ true in
        let Some : List Change → Type 0 = λ cs. 0 < length (cs ++ edit_changes before (all_changed text cs) ss) in
        let rest : is_too_long before text ss ≡ true = sym (ap (λ v. v || is_too_long before text ss) (le-ltb MAX_CHARS (length text) small)) ∙ subst Long e long in
        subst Some (sym e) (later rest)
    by later (c ∷ cs) e =
        let Some : List Change → Type 0 = λ cs. 0 < length (cs ++ edit_changes before (all_changed text cs) ss) in
        subst Some (sym e) (omega arith)

pub crowded-changes : (text : List ℕ) (ss : List Splice) → IsStored text → is_too_long (length text) text ss ≡ true → 0 < length (edit_changes (length text) text ss)
crowded-changes text ss h long = long-changes (length text) text ss h.small long

-- what is put at a range is what is put in
put-of : (text : List ℕ) (whole : Bool) (how : Put) (s : List ℕ) (r : Range) → (put_at text whole how s r).put ≡ s
put-of text whole Before s r = refl
put-of text whole After s r = refl
put-of text whole Over s r = refl
put-of text whole BeforeCursor s r = refl

together-from : (text : List ℕ) (how : Put) (strings : List (List ℕ)) (n : ℕ) (rs : List Range)
    → put_together (each_from (λ n r. put_at text (some_is_line strings) how (nth_string strings n) r) n rs) ≡ strings_together strings n (length rs)
together-from text how strings n [] = refl
together-from text how strings n (r ∷ rs) = ap₂ (λ (s : List ℕ) k. length s + k) (put-of text (some_is_line strings) how (nth_string strings n) r) (together-from text how strings (n + 1) rs)

-- what is put at ranges are their strings
pub puts-together : (text : List ℕ) (how : Put) (strings : List (List ℕ)) (rs : List Range) → put_together (puts text how strings rs) ≡ strings_together strings 0 (length rs)
puts-together text how strings rs = together-from text how strings 0 rs

-- the string for the next selection is counted, and the later ones are left
pub together-next : (strings : List (List ℕ)) (n count : ℕ) → n < count → strings_together strings n (count - n) ≡ length (nth_string strings n) + strings_together strings (n + 1) (count - (n + 1))
together-next strings n count h = let e : count - n ≡ suc (count - (n + 1)) = omega arith in ap (strings_together strings n) e

-- beyond the strings comes the same one again
pub beyond-last : (strings : List (List ℕ)) (n : ℕ) → length strings ≤ n + 1 → nth_string strings (n + 1) ≡ nth_string strings n
beyond-last strings n h = let e : min (n + 1) (length strings - 1) ≡ min n (length strings - 1) = omega arith in ap (λ k. get_or strings k []) e

-- the strings for selections are too much where what is put at them is
pub crowd-is : (text : List ℕ) (how : Put) (strings : List (List ℕ)) (sels : List Sel) (count : ℕ) → count ≡ length sels → ltb MAX_CHARS (strings_together strings 0 count) ≡ true
    → MAX_CHARS < put_together (puts text how strings (ranges_of text sels))
crowd-is text how strings sels count e h =
    omega (arith, ltb-true MAX_CHARS (strings_together strings 0 count) h, ap (strings_together strings 0) (e ∙ sym (length-map sels (range_of text))), puts-together text how strings (ranges_of text sels))

pub crowd-not : (text : List ℕ) (how : Put) (strings : List (List ℕ)) (sels : List Sel) (count : ℕ) → count ≡ length sels → ltb MAX_CHARS (strings_together strings 0 count) ≡ false
    → MAX_CHARS < put_together (puts text how strings (ranges_of text sels)) → ⊥
crowd-not text how strings sels count e h over =
    omega (arith, ltb-false MAX_CHARS (strings_together strings 0 count) h, ap (strings_together strings 0) (e ∙ sym (length-map sels (range_of text))), puts-together text how strings (ranges_of text sels))

-- strings that are put at selections of a text are put in order
pub puts-in_order : (text : List ℕ) (how : Put) (strings : List (List ℕ)) (list : Listed) → IsHeld text list → AreInOrder 0 (length text) (puts text how strings (ranges_of text list.list))
puts-in_order text how strings list h =
    each-in_order (length text) (λ n r. put_at text (some_is_line strings) how (nth_string strings n) r) (ranges_of text list.list) (puts-keep text (some_is_line strings) how (nth_string strings))
    (held-within text list.list h.inside) h.settled.apart
