-- The strings that a register gives, the replacements that put them, and why there are none.
use Rattle.std.proofs.Common.{◌≡◌, ℕ, ◌<◌, Bool, true, false, List, length, map, sym, ap, ap₂, subst, ◌∙◌, refl, inl, inr}
use Rattle.std.proofs.lemmas.List.{length-map}
use Rattle.std.specs.Prelude.{Some, Ok, Err, if◌then◌else◌, IfSome, IfOk, IfErr}
use Rattle.std.specs.declared.result.Result.{Result}
use Rattle.std.specs.Str.{chars}
use Rattle.std.specs.declared.option.Option.{Option}
use Rattle.text_model.specs.declared.TheConstants.{MAX_CHARS}
use Rattle.text_model.specs.Texts.{IsStored}
use Rattle.list_model.specs.Ranges.{Selected}
use Rattle.selection_set.specs.Listing.{Listed, ranges_of}
use Rattle.selection_set.specs.Held.{selected, IsHeld}
use Rattle.undo_model.specs.Edits.{Splice, AreInOrder, is_too_long}
use Rattle.edit_ops.specs.declared.kinds.Put.{Put}
use Rattle.edit_ops.specs.Putting.{puts}
use Rattle.edit_ops.specs.Crowding.{put_together}
use Rattle.edit_ops.specs.Aligning.{shares_line, alignments}
use Rattle.edit_ops.proofs.AligningLemmas.{alignments-in_order}
use Rattle.edit_ops.specs.Leaving.{list_left_by}
use Rattle.edit_ops.proofs.CrowdingLemmas.{crowded-long, crowded-changes, puts-in_order}
use Rattle.buffer_store.specs.declared.edits.Splice.{Splice as CodeSplice}
use Rattle.buffer_store.specs.Buffers.{flat_splice, flat_splices, AreSplicesOf}
use Rattle.kak_registers.specs.Names.{is_settable}
use Rattle.kak_registers.specs.Contents.{strings_of}
use Rattle.kak_world.specs.declared.ask.EditError.{EditError}
use Rattle.kak_world.specs.declared.ask.EditError.TheVariants.{UndoFull, TextFull, SharedLine}
use Rattle.kak_world.specs.Flat.{Flat, text_of, tabstop_of, sels_of, story_of, registers_of, with_sels}
use Rattle.kak_world.specs.Rows.{RowEnd, Fails, does, fails, error_text, row_of}
use Rattle.kak_world.specs.Editing.{is_full_for, long_refusal, edit_row}
use Rattle.kak_world.proofs.RowAnswers.{edit-long}
use Rattle.key_rows.specs.Sequence.{then_row}
use Rattle.key_rows.specs.Reading.{strings_read}
use Rattle.key_rows.specs.Edits.{leaving_row, with_strings, puts_of, align_row}
use Rattle.key_rows.specs.Handing.{ArePuts, IsTooMuch, AreStringsRefused}
use Rattle.key_rows.proofs.LeavingLemmas.{each-length}

chosen : (t : Bool) (x y : Option (List (List ℕ))) → (t ≡ false → ⊥) → (if t then x else y) ≡ x
chosen true x y set = refl
chosen false x y set = absurd (set refl)

-- of a register that can be set
pub read-settable : (name who : ℕ) (flat : Flat) → (is_settable name ≡ false → ⊥) → strings_read name who flat ≡ Some (strings_of name (registers_of flat))
unfolding strings_read
read-settable name who flat set = chosen (is_settable name) _ _ set

-- what the code knows of replacements that put some strings
pub flat-puts : (how : Put) (who : ℕ) (flat : Flat) (lines : List ℕ) (list : Listed) (strings : List (List ℕ)) (ss : List CodeSplice) → lines ≡ text_of who flat → sels_of who flat ≡ selected (text_of who flat) list
    → flat_splices lines ss ≡ puts lines how (map (λ w. chars w) strings) (ranges_of lines list.list) → flat_splices (text_of who flat) ss ≡ puts_of how strings who flat
flat-puts how who flat lines list strings ss l s p =
    ap (λ t. flat_splices t ss) (sym l) ∙ p ∙ ap (λ t. puts t how (map (λ w. chars w) strings) (ranges_of t list.list)) l ∙ ap (λ (x : Selected). puts (text_of who flat) how (map (λ w. chars w) strings) x.list) (sym s)

-- so they are those of a register that has these
pub known-puts : (how : Put) (name who : ℕ) (flat : Flat) (strings given : List (List ℕ)) (ss : List CodeSplice) → strings_read name who flat ≡ Some strings → given ≡ strings
    → flat_splices (text_of who flat) ss ≡ puts_of how given who flat → AreSplicesOf (text_of who flat) ss → ArePuts how name who flat ss
known-puts how name who flat strings given ss r g p a = record {
  strings = strings;
  read = r;
  puts = p ∙ ap (λ x. puts_of how x who flat) g;
  places = a;
  one_each = sym (length-map ss (flat_splice (text_of who flat))) ∙ ap length p ∙ each-length _ 0 (sels_of who flat).list;
}

pub known-refusal : (how : Put) (name who : ℕ) (flat : Flat) (strings given : List (List ℕ)) (error : EditError) → strings_read name who flat ≡ Some strings → given ≡ strings
    → IsTooMuch error (puts_of how given who flat) who flat → AreStringsRefused error how name who flat
known-refusal how name who flat strings given error r g h = inr (inl (record { strings = strings; read = r; too_much = subst (λ x. IsTooMuch error (puts_of how x who flat) who flat) g h }))

-- an edit that puts in more than a text may have is refused
crowded-row : (ss : List Splice) (who : ℕ) (flat : Flat) → IsStored (text_of who flat) → AreInOrder 0 (length (text_of who flat)) ss → MAX_CHARS < put_together ss → edit_row ss who flat ≡ fails (long_refusal who flat) flat
crowded-row ss who flat t order m =
    let long : is_too_long (length (text_of who flat)) (text_of who flat) ss ≡ true = crowded-long (text_of who flat) ss t order m in
    edit-long ss who flat long (crowded-changes (text_of who flat) ss t long)

pub crowded-puts : (how : Put) (strings : List (List ℕ)) (who : ℕ) (flat : Flat) (lines : List ℕ) (list : Listed) → lines ≡ text_of who flat → sels_of who flat ≡ selected (text_of who flat) list → IsHeld (text_of who flat) list → IsStored lines
    → MAX_CHARS < put_together (puts lines how (map (λ w. chars w) strings) (ranges_of lines list.list)) → edit_row (puts_of how strings who flat) who flat ≡ fails (long_refusal who flat) flat
crowded-puts how strings who flat lines list l s h t m =
    let same : puts (text_of who flat) how (map (λ w. chars w) strings) (ranges_of (text_of who flat) list.list) ≡ puts_of how strings who flat = ap (λ (x : Selected). puts (text_of who flat) how (map (λ w. chars w) strings) x.list) (sym s) in
    let here : puts lines how (map (λ w. chars w) strings) (ranges_of lines list.list) ≡ puts_of how strings who flat = ap (λ t. puts t how (map (λ w. chars w) strings) (ranges_of t list.list)) l ∙ same in
    crowded-row (puts_of how strings who flat) who flat (subst IsStored l t) (subst (λ ss. AreInOrder 0 (length (text_of who flat)) ss) same (puts-in_order (text_of who flat) how (map (λ w. chars w) strings) list h)) (subst (λ ss. MAX_CHARS < put_together ss) here m)

pub crowded-aligns : (who : ℕ) (flat : Flat) (lines : List ℕ) (list : Listed) (tabstop : ℕ) → lines ≡ text_of who flat → sels_of who flat ≡ selected (text_of who flat) list → tabstop ≡ tabstop_of who flat → IsHeld (text_of who flat) list → IsStored lines
    → MAX_CHARS < put_together (alignments lines tabstop (ranges_of lines list.list)) → edit_row (alignments (text_of who flat) (tabstop_of who flat) (sels_of who flat).list) who flat ≡ fails (long_refusal who flat) flat
crowded-aligns who flat lines list tabstop l s b h t m =
    let same : alignments (text_of who flat) (tabstop_of who flat) (ranges_of (text_of who flat) list.list) ≡ alignments (text_of who flat) (tabstop_of who flat) (sels_of who flat).list = ap (λ (x : Selected). alignments (text_of who flat) (tabstop_of who flat) x.list) (sym s) in
    let here : alignments lines tabstop (ranges_of lines list.list) ≡ alignments (text_of who flat) (tabstop_of who flat) (sels_of who flat).list = ap₂ (λ t n. alignments t n (ranges_of t list.list)) l b ∙ same in
    crowded-row _ who flat (subst IsStored l t) (subst (λ ss. AreInOrder 0 (length (text_of who flat)) ss) same (alignments-in_order (text_of who flat) (tabstop_of who flat) list h)) (subst (λ ss. MAX_CHARS < put_together ss) here m)

-- the refusal as a row, where the edit goes on with the list that it leaves or not
long-text : (who : ℕ) (flat : Flat) → row_of (long_refusal who flat) ≡ Some (Fails (error_text (long_refusal who flat)))
unfolding long_refusal
long-text who flat = by (is_full_for who (story_of who flat))
  where
    by : (t : Bool) → row_of (if t then UndoFull else TextFull) ≡ Some (Fails (error_text (if t then UndoFull else TextFull)))
    by true = refl
    by false = refl

pub long-fails : (error : EditError) (who : ℕ) (flat : Flat) (end : RowEnd) → error ≡ long_refusal who flat → end ≡ fails (long_refusal who flat) flat → IfSome (row_of error) (λ row. end ≡ record { world = flat; row = row })
long-fails error who flat end e f = subst (λ o. IfSome o (λ row. end ≡ record { world = flat; row = row })) (sym (ap row_of e ∙ long-text who flat)) f

pub refused-row : (error : EditError) (how : Put) (name who : ℕ) (flat : Flat) (row : List (List ℕ) → Flat → RowEnd)
    → ((strings : List (List ℕ)) → edit_row (puts_of how strings who flat) who flat ≡ fails (long_refusal who flat) flat → row strings flat ≡ fails (long_refusal who flat) flat)
    → AreStringsRefused error how name who flat → IfSome (row_of error) (λ end. with_strings (strings_read name who flat) name row flat ≡ record { world = flat; row = end })
refused-row error how name who flat row k (inl u) =
    subst (λ x. IfSome (row_of x) (λ end. with_strings (strings_read name who flat) name row flat ≡ record { world = flat; row = end })) (sym u.0) (ap (λ o. with_strings o name row flat) u.1)
refused-row error how name who flat row k (inr (inl c)) = by c.too_much
  where
    by : IsTooMuch error (puts_of how c.strings who flat) who flat → IfSome (row_of error) (λ end. with_strings (strings_read name who flat) name row flat ≡ record { world = flat; row = end })
    by (inl h) = long-fails error who flat _ h.0 (ap (λ o. with_strings o name row flat) c.read ∙ k c.strings h.1)
    by (inr w) = subst (λ x. IfSome (row_of x) (λ end. with_strings (strings_read name who flat) name row flat ≡ record { world = flat; row = end })) (sym w) tt
refused-row error how name who flat row k (inr (inr w)) =
    subst (λ x. IfSome (row_of x) (λ end. with_strings (strings_read name who flat) name row flat ≡ record { world = flat; row = end })) (sym w) tt

pub leaving-fails : (ss : List Splice) (who : ℕ) (flat : Flat) → edit_row ss who flat ≡ fails (long_refusal who flat) flat → leaving_row ss who flat ≡ fails (long_refusal who flat) flat
unfolding leaving_row
leaving-fails ss who flat e = ap (λ x. then_row x (λ w. does (with_sels who (list_left_by (text_of who flat) ss (sels_of who flat).main) w))) e

pub align-fails : (who : ℕ) (flat : Flat) → shares_line (text_of who flat) (sels_of who flat).list ≡ false → edit_row (alignments (text_of who flat) (tabstop_of who flat) (sels_of who flat).list) who flat ≡ fails (long_refusal who flat) flat → align_row who flat ≡ fails (long_refusal who flat) flat
align-fails who flat apart e = ap (λ t. if t then fails SharedLine flat else edit_row (alignments (text_of who flat) (tabstop_of who flat) (sels_of who flat).list) who flat) apart ∙ e

pub false-by : (b : Bool) → (b ≡ true → ⊥) → b ≡ false
false-by true h = absurd (h refl)
false-by false h = refl

-- what holds of a result by two facts
pub both-ok : {T E : Type 0} (P Q R : T → Type 0) (r : Result T E) → ((t : T) → P t → Q t → R t) → IfOk r P → IfOk r Q → IfOk r R
both-ok P Q R (Ok t) f p q = f t p q
both-ok P Q R (Err e) f p q = p

pub each-err : {T E : Type 0} (P Q : E → Type 0) (r : Result T E) → ((e : E) → P e → Q e) → IfErr r P → IfErr r Q
each-err P Q (Ok t) f p = p
each-err P Q (Err e) f p = f e p
