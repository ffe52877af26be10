-- A text that no change of a task leads to isn't one of that task.
use Rattle.std.proofs.Common.{◌≡◌, ℕ, zero, suc, true, false, List, [], ◌∷◌, take, refl, sym, ap, ◌∙◌, inl, inr, Some}
use Rattle.std.specs.Prelude.{◌==◌, unwrap_or, slice_index_or, length}
use Rattle.std.specs.declared.option.Option.{Option}
use Rattle.text_model.specs.Changes.{Change}
use Rattle.kak_world.specs.Flat.{Flat, shown_of, mode_of, opening}
use Rattle.kak_world.specs.Changing.{buffer_edited}
use Rattle.kak_world.specs.Events.{mode_left}
use Rattle.kak_engine.specs.Course.{Began, GoesNormal, GrantsLeave}
use Rattle.kak_engine.specs.Doing.{normal_again, granted}
use Rattle.step_texts.specs.Texts.{texts_of, texts_changed, HasSameTexts}
use Rattle.step_texts.specs.Makings.{IsWithinMaking, AreTextsWithin, nothing_made}
use Rattle.step_texts.specs.Courses.{GoThrough}
use Rattle.step_texts.specs.Examples.{typed, lines, holding}
use Rattle.step_texts.proofs.TextLemmas.{texts-unchanged, texts-own, texts-left}

take-none : (n : ℕ) → take {A = Change} n [] ≡ []
take-none zero = refl
take-none (suc n) = refl

-- how long the first text is
abbrev length-first : List (Option (List ℕ)) → ℕ
length-first texts = length (unwrap_or (slice_index_or texts 0 (Some [])) [])

abbrev one : Flat
one = holding (buffer_edited 7 (take 1 typed) lines)

apart : (texts_of one ≡ texts_of (holding lines)) → ⊥
apart e = absurd (let no : false ≡ true = ap (λ (t : List (Option (List ℕ))). length-first t == 4) e in cc)

none-of : IsWithinMaking 7 (nothing_made (holding lines)) one → ⊥
none-of (inl some) =
    apart (some.texts ∙ (ap (λ (cs : List Change). texts_changed (shown_of 7 (holding lines)) cs (texts_of (holding lines))) (take-none some.count) ∙ texts-unchanged (shown_of 7 (holding lines)) (texts_of (holding lines))))
none-of (inr same) = apart same

-- a client that comes to normal mode, and one that is granted to leave, leave the texts
again-texts : (who : ℕ) (flat : Flat) → HasSameTexts flat (normal_again who flat)
again-texts who flat = texts-own who _ (mode_left (mode_of who flat) who flat) ∙ texts-left (mode_of who flat) who flat

granted-texts : (who : ℕ) (flat : Flat) → HasSameTexts flat (granted who flat)
granted-texts who flat = texts-own who _ flat

pub nothing-made : AreTextsWithin GoesNormal 7 (holding lines) (holding lines)
nothing-made = inr (sym (again-texts 7 (holding lines)))

pub another-text : AreTextsWithin GoesNormal 7 (holding lines) one → ⊥
another-text (inl runs) = none-of runs.within
another-text (inr same) = apart (same ∙ again-texts 7 (holding lines))

pub goes-on : GoThrough (texts_of (holding lines)) (Began 7 GoesNormal (holding lines) ∷ Began 7 GrantsLeave (holding lines) ∷ []) (texts_of (holding lines))
goes-on = (refl, (sym (again-texts 7 (holding lines)), sym (granted-texts 7 (holding lines))))

pub breaks-off : (texts_of opening ≡ texts_of (holding lines)) → ⊥
breaks-off e = absurd (let no : false ≡ true = ap (λ (t : List (Option (List ℕ))). length-first t == 4) e in cc)
