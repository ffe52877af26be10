-- Lemmas on a client's changes made one after another, of which some may be made.
use Rattle.std.proofs.Common.{◌≡◌, ℕ, zero, suc, ◌+◌, ◌≤◌, min, Bool, true, false, not, cond, eqb, leb, ◌&&◌, List, [], ◌∷◌, ◌++◌, length, take, refl, sym, ap, ap₂, subst, ◌∙◌, arith, Some, Ok, Err, append-nil, append_assoc, eq-eqb}
use Rattle.std.specs.Prelude.{OnOk, IsErr}
use Rattle.std.specs.declared.result.Result.{Result}
use Rattle.buffer_store.specs.declared.edits.Splice.{Splice}
use Rattle.buffer_store.specs.declared.errors.BufferError.{BufferError}
use Rattle.buffer_store.specs.Buffers.{changes_of, IsEdited}
use Rattle.std.proofs.lemmas.List.{take_min, take-append-le}
use Rattle.text_model.specs.declared.coords.Shift.{Shift}
use Rattle.text_model.specs.Changes.{Change, changed, all_changed}
use Rattle.text_model.proofs.ChangeLemmas.{all_changed-append}
use Rattle.undo_model.specs.declared.TheConstants.{MAX_NODES}
use Rattle.undo_model.specs.Steps.{AreSteps}
use Rattle.undo_model.specs.Stories.{Story, pending, is_own, added, committed, edited, is_undo_full, nodes_due}
use Rattle.undo_model.proofs.StoryLemmas.{committed-text}
use Rattle.buffer_store.specs.Stored.{change_shifts}
use Rattle.buffer_store.specs.Histories.{IsWholly, IsPartly}
use Rattle.buffer_store.proofs.MakingLemmas.{shifts_of-append}

-- the text of an edited story
pub edited-text : (who : ℕ) (cs : List Change) (s : Story) → (edited who cs s).text ≡ all_changed s.text cs
edited-text who [] s = refl
edited-text who (c ∷ cs) s =
    ap (λ t. all_changed t (c ∷ cs)) (either (is_own who s.group))
  where
    either : (v : Bool) → (cond v s (committed s)).text ≡ s.text
    either true = refl
    either false = committed-text s

-- what a client adds to its own group
own-again : (who : ℕ) (c : Change) (cs ds : List Change) (s : Story) → edited who ds (added who (c ∷ cs) s) ≡ added who (c ∷ cs ++ ds) s
own-again who c cs [] s = ap (λ (x : List Change). added who (c ∷ x) s) (sym (append-nil cs))
own-again who c cs (d ∷ ds) s =
    let a : Story = added who (c ∷ cs) s in
    let own : eqb who who ≡ true = eq-eqb who who refl in
    let P : List ℕ → List Change → Story = λ t xs. record { text = t; nodes = s.nodes; current = s.current; group = Some (record { owner = who; changes = xs }); saved = s.saved } in
    ap (λ v. added who (d ∷ ds) (cond v a (committed a))) own
    ∙ ap₂ P (sym (all_changed-append s.text (c ∷ cs) (d ∷ ds))) (append_assoc (pending s.group) (c ∷ cs) (d ∷ ds))

-- changes and then others
pub edited-append : (who : ℕ) (cs ds : List Change) (s : Story) → edited who (cs ++ ds) s ≡ edited who ds (edited who cs s)
edited-append who [] ds s = refl
edited-append who (c ∷ cs) ds s = sym (own-again who c cs ds (cond (is_own who s.group) s (committed s)))

-- where the tree has room for changes it has room for the first of them
pub undo_full-front : (who : ℕ) (cs ds : List Change) (s : Story) → is_undo_full who (cs ++ ds) s ≡ false → is_undo_full who cs s ≡ false
undo_full-front who [] ds s h = refl
undo_full-front who (c ∷ cs) ds s h = h

-- and for the others behind those
pub undo_full-behind : (who : ℕ) (cs ds : List Change) (s : Story) → is_undo_full who (cs ++ ds) s ≡ false → is_undo_full who ds (edited who cs s) ≡ false
undo_full-behind who [] ds s h = h
undo_full-behind who (c ∷ cs) [] s h = refl
undo_full-behind who (c ∷ cs) (d ∷ ds) s h =
    let a : Story = added who (c ∷ cs) (cond (is_own who s.group) s (committed s)) in
    ap (λ v. not v && leb MAX_NODES (nodes_due a)) (eq-eqb who who refl)

-- no change is made
pub wholly-none : (who : ℕ) (old new : Story) (before after : List Shift) → new ≡ old → after ≡ before → IsWholly who [] old new before after
wholly-none who old new before after e f = record { story = e; shifts_are = f ∙ sym (append-nil before) }

pub partly-none : (who : ℕ) (cs : List Change) (old new : Story) (before after : List Shift) → new ≡ old → after ≡ before → IsPartly who cs old new before after
partly-none who cs old new before after e f = record { made = 0; story = e; shifts_are = f ∙ sym (append-nil before) }

-- all of some changes, and then all of others
pub wholly-then : (who : ℕ) (cs ds : List Change) (old mid new : Story) (before between after : List Shift) → IsWholly who cs old mid before between → IsWholly who ds mid new between after → IsWholly who (cs ++ ds) old new before after
wholly-then who cs ds old mid new before between after h k = record {
  story = k.story ∙ ap (edited who ds) h.story ∙ sym (edited-append who cs ds old);
  shifts_are = k.shifts_are ∙ ap₂ (λ x t. x ++ change_shifts t ds) h.shifts_are (ap (λ (s : Story). s.text) h.story ∙ edited-text who cs old) ∙ append_assoc before (change_shifts old.text cs) (change_shifts (all_changed old.text cs) ds) ∙ ap (λ x. before ++ x) (sym (shifts_of-append old.text cs ds));
}

-- all of them are some of them
pub wholly-partly : (who : ℕ) (cs : List Change) (old new : Story) (before after : List Shift) → IsWholly who cs old new before after → IsPartly who cs old new before after
wholly-partly who cs old new before after h =
    let all : take (length cs) cs ≡ cs = take-all cs in
    record {
      made = length cs;
      story = h.story ∙ ap (λ x. edited who x old) (sym all);
      shifts_are = h.shifts_are ∙ ap (λ x. before ++ change_shifts old.text x) (sym all);
    }
  where
    take-all : (xs : List Change) → take (length xs) xs ≡ xs
    take-all [] = refl
    take-all (x ∷ xs) = ap (λ t. x ∷ t) (take-all xs)

-- all of some changes, and then some of others
pub wholly-then_partly : (who : ℕ) (cs ds : List Change) (old mid new : Story) (before between after : List Shift) → IsWholly who cs old mid before between → IsPartly who ds mid new between after → IsPartly who (cs ++ ds) old new before after
wholly-then_partly who cs ds old mid new before between after h k =
    let some : take (length cs + k.made) (cs ++ ds) ≡ cs ++ take k.made ds = take-both cs ds k.made in
    let w : IsWholly who (cs ++ take k.made ds) old new before after = wholly-then who cs (take k.made ds) old mid new before between after h (record { story = k.story; shifts_are = k.shifts_are }) in
    record {
      made = length cs + k.made;
      story = w.story ∙ ap (λ x. edited who x old) (sym some);
      shifts_are = w.shifts_are ∙ ap (λ x. before ++ change_shifts old.text x) (sym some);
    }
  where
    take-both : (xs ys : List Change) (n : ℕ) → take (length xs + n) (xs ++ ys) ≡ xs ++ take n ys
    take-both [] ys n = let e : 0 + n ≡ n = omega arith in ap (λ m. take m ys) e
    take-both (x ∷ xs) ys n = let e : suc (length xs) + n ≡ suc (length xs + n) = omega arith in ap (λ m. take m (x ∷ xs ++ ys)) e ∙ ap (λ t. x ∷ t) (take-both xs ys n)

-- some of the first changes are some of all
pub partly-more : (who : ℕ) (cs ds : List Change) (old new : Story) (before after : List Shift) → IsPartly who cs old new before after → IsPartly who (cs ++ ds) old new before after
partly-more who cs ds old new before after h =
    let n : ℕ = min h.made (length cs) in
    let le : min h.made (length cs) ≤ length cs = omega arith in
    let same : take n (cs ++ ds) ≡ take h.made cs = take-append-le n cs ds le ∙ take_min h.made cs in
    record {
      made = n;
      story = h.story ∙ ap (λ x. edited who x old) (sym same);
      shifts_are = h.shifts_are ∙ ap (λ x. before ++ change_shifts old.text x) (sym same);
    }

-- the first of some steps
steps-take : (n : ℕ) (text : List ℕ) (cs : List Change) → AreSteps text cs → AreSteps text (take n cs)
steps-take zero text cs h = tt
steps-take (suc n) text [] h = tt
steps-take (suc n) text (c ∷ cs) h = (h.0, steps-take n (changed text c) cs h.1)

-- an edit of a buffer, by that of its history
pub edited-some : (who : ℕ) (r : Result (Unit {0}) BufferError) (ss : List Splice) (s new old : Story) (told : List Shift) → s ≡ old → IsErr r → AreSteps s.text (changes_of s.text ss) → IsPartly who (changes_of s.text ss) s new [] told
    → IsEdited who (changes_of old.text ss) r old new told
edited-some who r ss s new old told e failed steps h =
    let P : Story → Type 0 = λ b. IsEdited who (changes_of b.text ss) r b new told in
    subst P e (record {
      made = h.made;
      story = h.story;
      steps = steps-take h.made s.text (changes_of s.text ss) steps;
      shifts_are = h.shifts_are;
      all = never r (take h.made (changes_of s.text ss) ≡ changes_of s.text ss) failed;
    })
  where
    never : (r : Result (Unit {0}) BufferError) (P : Type 0) → IsErr r → OnOk r P
    never (Ok x) P h = absurd (let no : false ≡ true = h in cc)
    never (Err e) P h = tt

pub edited-all : (who : ℕ) (ss : List Splice) (s new old : Story) (told : List Shift) → s ≡ old → AreSteps s.text (changes_of s.text ss) → IsWholly who (changes_of s.text ss) s new [] told
    → IsEdited who (changes_of old.text ss) (Ok tt) old new told
edited-all who ss s new old told e steps w =
    let P : Story → Type 0 = λ b. IsEdited who (changes_of b.text ss) (Ok tt) b new told in
    let cs : List Change = changes_of s.text ss in
    subst P e (record {
      made = length cs;
      story = w.story ∙ ap (λ x. edited who x s) (sym (take-all cs));
      steps = steps-take (length cs) s.text cs steps;
      shifts_are = w.shifts_are ∙ ap (change_shifts s.text) (sym (take-all cs));
      all = take-all cs;
    })
  where
    take-all : (xs : List Change) → take (length xs) xs ≡ xs
    take-all [] = refl
    take-all (x ∷ xs) = ap (λ t. x ∷ t) (take-all xs)
