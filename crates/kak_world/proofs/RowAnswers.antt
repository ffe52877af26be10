-- What an edit and a move answer, as their rows say.
use Rattle.std.proofs.Common.{◌≡◌, ℕ, ◌<◌, Bool, true, false, cond, List, [], ◌∷◌, length, take, refl, sym, ap, subst, ◌∙◌, None, Some, inl, inr, arith}
use Rattle.std.specs.Prelude.{◌⊎◌}
use Rattle.std.specs.declared.option.Option.{Option}
use Rattle.text_model.specs.Changes.{Change}
use Rattle.undo_model.specs.declared.travel.Travel.{Travel}
use Rattle.undo_model.specs.declared.travel.Travel.TheVariants.{Undo, Redo, Node}
use Rattle.undo_model.specs.Stories.{Story, is_undo_full}
use Rattle.undo_model.specs.Moves.{target_of, move_changes}
use Rattle.undo_model.specs.Edits.{Splice, is_too_long}
use Rattle.buffer_store.specs.declared.edits.Splice.{Splice as CodeSplice}
use Rattle.buffer_store.specs.declared.errors.BufferError.{BufferError}
use Rattle.buffer_store.specs.declared.errors.BufferError.TheVariants as edit
use Rattle.buffer_store.specs.declared.errors.MoveError.{MoveError}
use Rattle.buffer_store.specs.declared.errors.MoveError.TheVariants as move
use Rattle.buffer_store.specs.Buffers.{flat_splices, changes_of, refusal_of}
use Rattle.kak_world.specs.declared.ask.EditError.TheVariants.{UndoFull, TextFull}
use Rattle.list_shelf.specs.declared.holder.Holder.TheVariants.{Of}
use Rattle.kak_world.specs.Flat.{Buffer, Flat, shown_of, buffer_of, story_of, text_of}
use Rattle.kak_world.specs.Changing.{buffer_edited, buffer_traveled, changed_in, splice_changes_of, edited_by, traveled_by, buffer_broken_off, IsSomeEdited, IsCutMove, IsAfterSomeChanges, IsMoveCutIn}
use Rattle.kak_world.specs.Rows.{Row, Fails, does, fails, error_text, row_of}
use Rattle.kak_world.specs.Refusals.{of_edit, of_move}
use Rattle.kak_world.specs.Editing.{is_full_for, long_refusal, edit_row, travel_row, move_ends, move_refusal}
use Rattle.std.specs.Prelude.{IfSome}

false-by : (b : Bool) → (b ≡ true → ⊥) → b ≡ false
false-by true h = absurd (h refl)
false-by false h = refl

-- an edit that was made
pub edit-done : (splices : List Splice) (who : ℕ) (flat new : Flat) → new ≡ edited_by splices who flat → (is_undo_full who (splice_changes_of splices who flat) (story_of who flat) ≡ true → ⊥)
    → (is_undo_full who (splice_changes_of splices who flat) (story_of who flat) ≡ false → is_too_long (length (text_of who flat)) (text_of who flat) splices ≡ true → ⊥) → edit_row splices who flat ≡ does new
unfolding edit_row
edit-done splices who flat new e undo full =
    let no : is_undo_full who (splice_changes_of splices who flat) (story_of who flat) ≡ false = false-by _ undo in
    ap (λ t. cond t (fails UndoFull flat) (cond (is_too_long (length (text_of who flat)) (text_of who flat) splices) (fails TextFull flat) (does (edited_by splices who flat)))) no
    ∙ ap (λ t. cond t (fails TextFull flat) (does (edited_by splices who flat))) (false-by _ (full no))
    ∙ ap does (sym e)

-- an edit that was refused
pub edit-refused : (error : BufferError) (splices : List Splice) (who : ℕ) (flat new : Flat)
    → (error ≡ edit.UndoFull → (is_undo_full who (splice_changes_of splices who flat) (story_of who flat) ≡ true) × (new ≡ flat))
    → (error ≡ edit.TextFull → ((is_undo_full who (splice_changes_of splices who flat) (story_of who flat) ≡ false) × (is_too_long (length (text_of who flat)) (text_of who flat) splices ≡ true)) × (new ≡ flat))
    → IfSome (row_of (of_edit error)) (λ row. edit_row splices who flat ≡ record { world = new; row = row })
unfolding edit_row
edit-refused edit.UndoFull splices who flat new undo full =
    ap (λ t. cond t (fails UndoFull flat) (cond (is_too_long (length (text_of who flat)) (text_of who flat) splices) (fails TextFull flat) (does (edited_by splices who flat)))) (undo refl).0
    ∙ ap (fails UndoFull) (sym (undo refl).1)
edit-refused edit.TextFull splices who flat new undo full =
    ap (λ t. cond t (fails UndoFull flat) (cond (is_too_long (length (text_of who flat)) (text_of who flat) splices) (fails TextFull flat) (does (edited_by splices who flat)))) (full refl).0.0
    ∙ ap (λ t. cond t (fails TextFull flat) (does (edited_by splices who flat))) (full refl).0.1
    ∙ ap (fails TextFull) (sym (full refl).1)
edit-refused edit.NoMemory splices who flat new undo full = tt

-- an edit that makes a change and gives a text that is too long
pub edit-long : (splices : List Splice) (who : ℕ) (flat : Flat) → is_too_long (length (text_of who flat)) (text_of who flat) splices ≡ true → 0 < length (splice_changes_of splices who flat) → edit_row splices who flat ≡ fails (long_refusal who flat) flat
unfolding edit_row long_refusal
edit-long splices who flat long some =
    ap (λ t. cond (is_undo_full who (splice_changes_of splices who flat) (story_of who flat)) (fails UndoFull flat) (cond t (fails TextFull flat) (does (edited_by splices who flat)))) long
    ∙ by (splice_changes_of splices who flat) some
  where
    chosen : (t : Bool) → cond t (fails UndoFull flat) (fails TextFull flat) ≡ fails (cond t UndoFull TextFull) flat
    chosen true = refl
    chosen false = refl

    by : (cs : List Change) → 0 < length cs → cond (is_undo_full who cs (story_of who flat)) (fails UndoFull flat) (fails TextFull flat) ≡ fails (cond (is_full_for who (story_of who flat)) UndoFull TextFull) flat
    by [] h = absurd (omega arith)
    by (c ∷ cs) h = chosen (is_full_for who (story_of who flat))

-- a move that was made, and one that was refused
pub travel-done : (travel : Travel) (who : ℕ) (flat new : Flat) → new ≡ traveled_by travel who flat → (target_of travel (story_of who flat) ≡ None → ⊥) → travel_row travel who flat ≡ does new
unfolding travel_row
travel-done travel who flat new e some = by (target_of travel (story_of who flat)) some ∙ ap does (sym e)
  where
    by : (o : Option ℕ) → (o ≡ None → ⊥) → move_ends o travel (traveled_by travel who flat) ≡ does (traveled_by travel who flat)
    by None h = absurd (h refl)
    by (Some n) h = refl

of-refusal : (travel : Travel) → of_move (refusal_of travel) ≡ move_refusal travel
of-refusal Undo = refl
of-refusal Redo = refl
of-refusal (Node n) = refl

fails-row : (travel : Travel) → row_of (move_refusal travel) ≡ Some (Fails (error_text (move_refusal travel)))
fails-row Undo = refl
fails-row Redo = refl
fails-row (Node n) = refl

pub travel-refused : (error : MoveError) (travel : Travel) (who : ℕ) (flat new : Flat) → ((error ≡ move.NoMemory) ⊎ (target_of travel (story_of who flat) ≡ None)) → (target_of travel (story_of who flat) ≡ None → (error ≡ refusal_of travel) × (new ≡ traveled_by travel who flat))
    → IfSome (row_of (of_move error)) (λ row. travel_row travel who flat ≡ record { world = new; row = row })
unfolding travel_row
travel-refused error travel who flat new (inl e) refused = subst (λ x. IfSome (row_of (of_move x)) (λ row. travel_row travel who flat ≡ record { world = new; row = row })) (sym e) tt
travel-refused error travel who flat new (inr none) refused =
    let r = refused none in
    let P : Option Row → Type 0 = λ o. IfSome o (λ row. travel_row travel who flat ≡ record { world = new; row = row }) in
    subst P (sym (ap (λ x. row_of (of_move x)) r.0 ∙ ap row_of (of-refusal travel) ∙ fails-row travel))
    (ap (λ o. move_ends o travel (traveled_by travel who flat)) none ∙ ap (λ w. fails (move_refusal travel) w) (sym r.1))

-- the buffer that a client sees, and the world with it
pub edited-of : (ss : List CodeSplice) (who : ℕ) (flat new : Flat) (b to : Buffer) → b ≡ buffer_of who flat → to ≡ buffer_edited who (changes_of b.story.text ss) b → ((f : Buffer → Buffer) → to ≡ f b → new ≡ changed_in (shown_of who flat) f flat) → new ≡ edited_by (flat_splices (text_of who flat) ss) who flat
unfolding edited_by text_of
edited-of ss who flat new b to e t changed =
    changed (buffer_edited who (changes_of b.story.text ss)) t
    ∙ ap (λ (x : Buffer). changed_in (shown_of who flat) (buffer_edited who (changes_of x.story.text ss)) flat) e

pub traveled-of : (travel : Travel) (who : ℕ) (flat new : Flat) (b to : Buffer) → to ≡ buffer_traveled (Of who) travel b → ((f : Buffer → Buffer) → to ≡ f b → new ≡ changed_in (shown_of who flat) f flat) → new ≡ traveled_by travel who flat
unfolding traveled_by
traveled-of travel who flat new b to t changed = changed (buffer_traveled (Of who) travel) t

-- the same after some of the changes
pub some-edited : (who : ℕ) (cs ds : List Change) (flat new : Flat) (b to : Buffer) → cs ≡ ds → IsSomeEdited who cs b to → ((f : Buffer → Buffer) → to ≡ f b → new ≡ changed_in (shown_of who flat) f flat) → IsAfterSomeChanges who ds flat new
some-edited who cs ds flat new b to e s changed = record {
  made = s.made;
  is = changed (buffer_edited who (take s.made cs)) s.is ∙ ap (λ xs. changed_in (shown_of who flat) (buffer_edited who (take s.made xs)) flat) e;
}

pub some-cut : (who : ℕ) (travel : Travel) (flat new : Flat) (b to : Buffer) → b ≡ buffer_of who flat → IsCutMove (Of who) travel b to → ((f : Buffer → Buffer) → to ≡ f b → new ≡ changed_in (shown_of who flat) f flat) → IsMoveCutIn who travel flat new
unfolding story_of
some-cut who travel flat new b to e (inl s) changed = inl (record {
  made = s.made;
  is = changed (buffer_broken_off (take s.made (move_changes travel b.story))) s.is ∙ ap (λ (x : Buffer). changed_in (shown_of who flat) (buffer_broken_off (take s.made (move_changes travel x.story))) flat) e;
})
some-cut who travel flat new b to e (inr whole) changed = inr (traveled-of travel who flat new b to whole changed)

pub either-none : (error : MoveError) (travel : Travel) (s t : Story) → s ≡ t → ((error ≡ move.NoMemory) ⊎ (target_of travel s ≡ None)) → ((error ≡ move.NoMemory) ⊎ (target_of travel t ≡ None))
either-none error travel s t e h = subst (λ x. (error ≡ move.NoMemory) ⊎ (target_of travel x ≡ None)) e h
