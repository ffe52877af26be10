-- Lemmas on changes made one after another, with their shifts and marks.
use Rattle.std.proofs.Common.{◌≡◌, ℕ, ◌+◌, ◌<◌, List, [], ◌∷◌, ◌++◌, length, take, drop, get_or, refl, sym, ap, ap₂, subst, ◌∙◌, append-nil, append_assoc, take-append-drop}
use Rattle.std.proofs.lemmas.List.{take_more}
use Rattle.text_model.specs.declared.coords.Shift.{Shift}
use Rattle.text_model.specs.Texts.{IsStored}
use Rattle.text_model.specs.Changes.{Change, changed, all_changed}
use Rattle.text_model.proofs.ChangeLemmas.{all_changed-append}
use Rattle.selection_set.specs.declared.sel.Sel.{Sel}
use Rattle.change_list.specs.declared.change.Change.{Change as Kept}
use Rattle.undo_model.specs.Marks.{mark}
use Rattle.move_marks.specs.Marking.{sel_at, marks_of}
use Rattle.buffer_store.specs.Stored.{flat, flat_back, shift_of, change_shifts, KeptFits, flats, made, backs, IsMade}
use Rattle.buffer_store.specs.Traces.{Trace, trace, trace_after, IsAfterSome, IsRightBehind, IsBehindAStep}
use Rattle.buffer_store.proofs.MakingLemmas.{shifts_of-append, flats-append, made-flats, backs-more, made-turns_back}

pub same_trace : (a b : List ℕ) (s t : List Shift) (m n : List Sel) → a ≡ b → s ≡ t → m ≡ n → trace a s m ≡ trace b t n
same_trace a b s t m n p q r = ap₂ (λ x y. trace x y m) p q ∙ ap (trace b t) r

marks_of-append : (text : List ℕ) (cs ds : List Change) → marks_of text (cs ++ ds) ≡ marks_of text cs ++ marks_of (all_changed text cs) ds
marks_of-append text [] ds = refl
marks_of-append text (c ∷ cs) ds = ap (λ ms. sel_at (changed text c) (mark (changed text c) c) ∷ ms) (marks_of-append (changed text c) cs ds)

-- changes in two parts
pub after-append : (t : Trace) (cs ds : List Change) → trace_after (trace_after t cs) ds ≡ trace_after t (cs ++ ds)
after-append t cs ds =
    same_trace _ _ _ _ _ _ (sym (all_changed-append t.text cs ds)) (append_assoc t.shifts (change_shifts t.text cs) (change_shifts (all_changed t.text cs) ds) ∙ ap (λ x. t.shifts ++ x) (sym (shifts_of-append t.text cs ds))) (append_assoc t.marks (marks_of t.text cs) (marks_of (all_changed t.text cs) ds) ∙ ap (λ x. t.marks ++ x) (sym (marks_of-append t.text cs ds)))

pub after-none : (t : Trace) → trace_after t [] ≡ t
after-none t = same_trace _ _ _ _ _ _ refl (append-nil t.shifts) (append-nil t.marks)

-- a trace behind more changes
pub after-more : (first now new : Trace) (cs ds es : List Change) → now ≡ trace_after first cs → new ≡ trace_after now ds → es ≡ cs ++ ds → new ≡ trace_after first es
after-more first now new cs ds es h k e = k ∙ ap (λ t. trace_after t ds) h ∙ after-append first cs ds ∙ ap (trace_after first) (sym e)

-- one step noted
pub after-step : (old new : List ℕ) (c : Change) (ss ts : List Shift) (ms ns : List Sel) (s : Shift) (m : Sel) → IsRightBehind old c new s → m ≡ sel_at new (mark new c) → ts ≡ ss ++ s ∷ [] → ns ≡ ms ++ m ∷ [] → trace new ts ns ≡ trace_after (trace old ss ms) (c ∷ [])
after-step old new c ss ts ms ns s m h mark_is more marks_more =
    same_trace _ _ _ _ _ _ h.text (more ∙ ap (λ x. ss ++ x ∷ []) h.shift_is) (marks_more ∙ ap (λ x. ms ++ x ∷ []) (mark_is ∙ ap (λ t. sel_at t (mark t c)) h.text))

-- a change that fits, and was made
pub behind-made : (old new : List ℕ) (k : Kept) (s : Shift) → KeptFits old k → new ≡ changed old (flat old k) → s ≡ shift_of old (flat old k) → IsRightBehind old (flat old k) new s
behind-made old new k s h t e = record { stored = h.stored; step = h.step; text = t; shift_is = e }

made-stored : (text : List ℕ) (k : Kept) → IsMade text (k ∷ []) → IsStored text
made-stored text k h = subst IsStored (sym h.is_made) h.fit.0.step.stored

-- a change that was the last one, and was taken back
pub behind-taken_back : (old new : List ℕ) (k : Kept) (s : Shift) → IsMade old (k ∷ []) → new ≡ changed old (flat_back old k) → s ≡ shift_of old (flat_back old k) → IsRightBehind old (flat_back old k) new s
behind-taken_back old new k s h t e = record { stored = made-stored old k h; step = (made-turns_back old k h).step; text = t; shift_is = e }

pub behind-some : (old new : List ℕ) (c : Change) (s : Shift) → IsRightBehind old c new s → IsBehindAStep new s
behind-some old new c s h = record { old = old; change = c; behind = h }

-- the text behind some kept changes
pub text-made : (text now : List ℕ) (ss ts : List Shift) (ms ns : List Sel) (ks : List Kept) → trace now ts ns ≡ trace_after (trace text ss ms) (flats text ks) → now ≡ made text ks
text-made text now ss ts ms ns ks h = ap (λ (t : Trace). t.text) h ∙ sym (made-flats text ks)

pub text-after : (text now : List ℕ) (ss ts : List Shift) (ms ns : List Sel) (cs : List Change) → trace now ts ns ≡ trace_after (trace text ss ms) cs → now ≡ all_changed text cs
text-after text now ss ts ms ns cs h = ap (λ (t : Trace). t.text) h

-- one kept change more
pub flats-more : (text now : List ℕ) (ks : List Kept) (n : ℕ) (k : Kept) → n < length ks → k ≡ get_or ks n k → now ≡ made text (take n ks) → flats text (take (n + 1) ks) ≡ flats text (take n ks) ++ flat now k ∷ []
flats-more text now ks n k lt is t =
    ap (flats text) (take_more ks n k lt ∙ ap (λ x. take n ks ++ x ∷ []) (sym is)) ∙ flats-append text (take n ks) (k ∷ []) ∙ ap (λ x. flats text (take n ks) ++ flat x k ∷ []) (sym t)

-- the first kept changes are the first of all
pub some-made : (first now : Trace) (ks : List Kept) (n : ℕ) → now ≡ trace_after first (flats first.text (take n ks)) → IsAfterSome first (flats first.text ks) now
some-made first now ks n h = record {
  done = flats first.text (take n ks);
  left = flats (made first.text (take n ks)) (drop n ks);
  are = ap (flats first.text) (sym (take-append-drop n ks)) ∙ flats-append first.text (take n ks) (drop n ks);
  is_after = h;
}

-- what takes kept changes back, in two parts
backs-append : (text : List ℕ) (xs ys : List Kept) → backs text (xs ++ ys) ≡ backs text ys ++ backs (all_changed text (backs text ys)) xs
backs-append text [] ys = sym (append-nil (backs text ys))
backs-append text (x ∷ xs) ys =
    let now : List ℕ = all_changed text (backs text ys) in
    let rest : backs text (xs ++ ys) ≡ backs text ys ++ backs now xs = backs-append text xs ys in
    let there : all_changed text (backs text (xs ++ ys)) ≡ all_changed now (backs now xs) = ap (all_changed text) rest ∙ all_changed-append text (backs text ys) (backs now xs) in
    ap₂ (λ cs t. cs ++ flat_back t x ∷ []) rest there ∙ append_assoc (backs text ys) (backs now xs) (flat_back (all_changed now (backs now xs)) x ∷ [])

pub some-back : (first now : Trace) (ks : List Kept) (m : ℕ) → now ≡ trace_after first (backs first.text (drop m ks)) → IsAfterSome first (backs first.text ks) now
some-back first now ks m h = record {
  done = backs first.text (drop m ks);
  left = backs (all_changed first.text (backs first.text (drop m ks))) (take m ks);
  are = ap (backs first.text) (sym (take-append-drop m ks)) ∙ backs-append first.text (take m ks) (drop m ks);
  is_after = h;
}

-- one kept change less
pub backs-less : (text now : List ℕ) (ks : List Kept) (n m : ℕ) (k : Kept) → n + 1 ≡ m → n < length ks → k ≡ get_or ks n k → now ≡ all_changed text (backs text (drop m ks)) → backs text (drop n ks) ≡ backs text (drop m ks) ++ flat_back now k ∷ []
backs-less text now ks n m k e lt is t = backs-more text ks n m k e lt is ∙ ap (λ x. backs text (drop m ks) ++ flat_back x k ∷ []) (sym t)

-- some of the changes were made, and the rest is left
pub record IsOver (first now : Trace) (all rest : List Change) : Type 0 where
  pub done : List Change
  pub are : all ≡ done ++ rest
  pub is_after : now ≡ trace_after first done

pub over-first : (first : Trace) (all : List Change) → IsOver first first all all
over-first first all = record { done = []; are = refl; is_after = sym (after-none first) }

-- some more were made
pub over-more : (first now new : Trace) (all rest cs ds : List Change) → IsOver first now all rest → rest ≡ cs ++ ds → new ≡ trace_after now cs → IsOver first new all ds
over-more first now new all rest cs ds h e k = record {
  done = h.done ++ cs;
  are = h.are ∙ ap (λ x. h.done ++ x) e ∙ sym (append_assoc h.done cs ds);
  is_after = after-more first now new h.done cs (h.done ++ cs) h.is_after k refl;
}

-- all were made
pub over-all : (first now : Trace) (all rest : List Change) → IsOver first now all rest → rest ≡ [] → now ≡ trace_after first all
over-all first now all rest h e = h.is_after ∙ ap (trace_after first) (sym (h.are ∙ ap (λ x. h.done ++ x) e ∙ append-nil h.done))

-- some of the next ones were made
pub over-some : (first now new : Trace) (all rest cs ds : List Change) → IsOver first now all rest → rest ≡ cs ++ ds → IsAfterSome now cs new → IsAfterSome first all new
over-some first now new all rest cs ds h e k = record {
  done = h.done ++ k.done;
  left = k.left ++ ds;
  are = h.are ∙ ap (λ x. h.done ++ x) (e ∙ ap (λ x. x ++ ds) k.are ∙ append_assoc k.done k.left ds) ∙ sym (append_assoc h.done k.done (k.left ++ ds));
  is_after = after-more first now new h.done k.done (h.done ++ k.done) h.is_after k.is_after refl;
}
