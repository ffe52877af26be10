-- Edits that leave their client the list of what was put in.
use Rattle.std.proofs.Common.{◌≡◌, ℕ, suc, ◌+◌, List, [], ◌∷◌, length, refl, sym, ap, ap₂, subst, ◌∙◌, take_all, arith}
use Rattle.std.proofs.lemmas.List.{length-map}
use Rattle.std.specs.Prelude.{true}
use Rattle.text_model.specs.declared.coords.Coord.{Coord}
use Rattle.text_model.specs.declared.coords.Shift.{Shift}
use Rattle.text_model.specs.Texts.{IsStored, IsPlace, offset, coord_at, last_place}
use Rattle.text_model.specs.Changes.{Change}
use Rattle.text_model.proofs.PlaceLemmas.{coord_at-offset}
use Rattle.list_model.specs.Ranges.{Range, Selected}
use Rattle.selection_set.specs.Inside.{range_of}
use Rattle.selection_set.specs.Listing.{Listed, ranges_of}
use Rattle.selection_set.specs.Held.{selected, IsHeld}
use Rattle.undo_model.specs.Steps.{AreSteps}
use Rattle.undo_model.specs.Edits.{Splice}
use Rattle.buffer_store.specs.declared.edits.Splice.{Splice as CodeSplice}
use Rattle.buffer_store.specs.Stored.{change_shifts}
use Rattle.buffer_store.specs.Buffers.{flat_splice, flat_splices, AreSplicesOf, changes_of}
use Rattle.edit_ops.specs.Each.{each_from}
use Rattle.edit_ops.specs.declared.kinds.Indent.{Indent}
use Rattle.edit_ops.specs.Indenting.{indents}
use Rattle.edit_ops.specs.Leaving.{edited_text, list_left_by}
use Rattle.edit_ops.specs.Left.{IsOfEdit, IsLeftByEdit}
use Rattle.kak_world.specs.Flat.{Flat, is_joined, acts, text_of, tabstop_of, indentwidth_of, sels_of, shown_of, with_sels}
use Rattle.kak_world.specs.Rows.{does}
use Rattle.kak_world.specs.Changing.{buffer_edited, changed_in, splice_changes_of, edited_by, IsAfterSomeChanges}
use Rattle.kak_world.specs.Editing.{edit_row}
use Rattle.kak_world.proofs.WorldLaws.{text_edited, acts_edited}
use Rattle.key_rows.specs.Sequence.{then_row}
use Rattle.key_rows.specs.Edits.{leaving_row}

pub each-length : (f : ℕ → Range → Splice) (n : ℕ) (rs : List Range) → length (each_from f n rs) ≡ length rs
each-length f n [] = refl
each-length f n (r ∷ rs) = ap suc (each-length f (n + 1) rs)

-- replacements that are made one for each selection of a client are as many
pub one-each : (f : ℕ → Range → Splice) (who : ℕ) (flat : Flat) (lines : List ℕ) (list : Listed) (ss given : List CodeSplice) → sels_of who flat ≡ selected (text_of who flat) list → given ≡ ss
    → flat_splices lines ss ≡ each_from f 0 (ranges_of lines list.list) → length given ≡ length (sels_of who flat).list
one-each f who flat lines list ss given s g e =
    ap length g ∙ sym (length-map ss (flat_splice lines)) ∙ ap length e ∙ each-length f 0 (ranges_of lines list.list) ∙ length-map list.list (range_of lines)
    ∙ sym (ap (λ (x : Selected). length x.list) s ∙ length-map list.list (range_of (text_of who flat)))

-- what the code knows of an edit that was made
pub is-edit : (text lines : List ℕ) (last : Coord) (ss : List CodeSplice) (shifts given : List Shift) → lines ≡ text → IsPlace lines last → offset lines last ≡ last_place lines → IsStored lines → AreSplicesOf text ss
    → AreSteps text (changes_of text ss) → given ≡ shifts → shifts ≡ change_shifts text (changes_of text ss) → IsOfEdit text last ss given
is-edit text lines last ss shifts given l p o s a t g e = record {
  stored = subst IsStored l s;
  last_is = subst (λ t. last ≡ coord_at t (last_place t)) l (sym (coord_at-offset lines last p) ∙ ap (coord_at lines) o);
  are_splices = a;
  steps = t;
  shifts_are = g ∙ e;
}

-- the text behind an edit
pub text-behind : (who : ℕ) (flat mid : Flat) (ss : List Splice) → is_joined who flat ≡ true → mid ≡ edited_by ss who flat → text_of who mid ≡ edited_text (text_of who flat) ss
text-behind who flat mid ss j e = ap (text_of who) e ∙ text_edited ss who flat j

pub acts-behind : (who : ℕ) (flat mid : Flat) (ss : List Splice) → acts who flat ≡ true → mid ≡ edited_by ss who flat → acts who mid ≡ true
acts-behind who flat mid ss a e = ap (acts who) e ∙ acts_edited who ss who flat ∙ a

-- the list that is left is the client's
pub held-behind : (who : ℕ) (flat mid : Flat) (ss : List CodeSplice) (main : ℕ) (s : Listed) → text_of who mid ≡ edited_text (text_of who flat) (flat_splices (text_of who flat) ss) → IsLeftByEdit (text_of who flat) ss main s → IsHeld (text_of who mid) s
held-behind who flat mid ss main s t l = subst (λ x. IsHeld x s) (sym t) l.held

pub leaves-row : (who : ℕ) (flat mid new : Flat) (ss : List CodeSplice) (main : ℕ) (list s : Listed) → sels_of who flat ≡ selected (text_of who flat) list → main ≡ list.main
    → edit_row (flat_splices (text_of who flat) ss) who flat ≡ does mid → text_of who mid ≡ edited_text (text_of who flat) (flat_splices (text_of who flat) ss) → IsLeftByEdit (text_of who flat) ss main s
    → new ≡ with_sels who (selected (text_of who mid) s) mid → leaving_row (flat_splices (text_of who flat) ss) who flat ≡ does new
unfolding leaving_row
leaves-row who flat mid new ss main list s held m row t l n =
    ap (λ x. then_row x (λ w. does (with_sels who (list_left_by (text_of who flat) (flat_splices (text_of who flat) ss) (sels_of who flat).main) w))) row
    ∙ ap (λ k. does (with_sels who (list_left_by (text_of who flat) (flat_splices (text_of who flat) ss) k) mid)) (ap (λ (x : Selected). x.main) held ∙ sym m)
    ∙ ap (λ x. does (with_sels who x mid)) (sym l.left ∙ ap (λ x. selected x s) (sym t))
    ∙ ap does (sym n)

-- all changes were made
pub all-made : (who : ℕ) (flat mid : Flat) (ss : List Splice) → mid ≡ edited_by ss who flat → IsAfterSomeChanges who (splice_changes_of ss who flat) flat mid
unfolding edited_by
all-made who flat mid ss e =
    let cs : List Change = splice_changes_of ss who flat in
    record { made = length cs; is = e ∙ ap (λ xs. changed_in (shown_of who flat) (buffer_edited who xs) flat) (sym (take_all (length cs) cs (omega arith))) }

-- the code's replacements for lines that are indented
pub indents-are : (how : Indent) (width tabstop who : ℕ) (flat : Flat) (lines : List ℕ) (list : Listed) (ss given : List CodeSplice) → given ≡ ss → lines ≡ text_of who flat → sels_of who flat ≡ selected (text_of who flat) list → width ≡ indentwidth_of who flat → tabstop ≡ tabstop_of who flat
    → flat_splices lines ss ≡ indents lines how width tabstop (ranges_of lines list.list) → flat_splices (text_of who flat) given ≡ indents (text_of who flat) how (indentwidth_of who flat) (tabstop_of who flat) (sels_of who flat).list
indents-are how width tabstop who flat lines list ss given g l s w b e =
    ap₂ (λ t x. flat_splices t x) (sym l) g ∙ e ∙ ap (λ t. indents t how width tabstop (ranges_of t list.list)) l ∙ ap₂ (λ k n. indents (text_of who flat) how k n (ranges_of (text_of who flat) list.list)) w b
    ∙ ap (λ (x : Selected). indents (text_of who flat) how (indentwidth_of who flat) (tabstop_of who flat) x.list) (sym s)
