-- The row of characters that go in before cursors, by what the code hands over.
use Rattle.std.proofs.Common.{◌≡◌, ℕ, List, map, ap, sym, ◌∙◌}
use Rattle.list_model.specs.Ranges.{Selected}
use Rattle.selection_set.specs.Listing.{Listed}
use Rattle.selection_set.specs.Held.{selected}
use Rattle.buffer_store.specs.declared.edits.Splice.{Splice as CodeSplice}
use Rattle.buffer_store.specs.Buffers.{flat_splices}
use Rattle.edit_ops.specs.Typing.{typed_before, splice_before}
use Rattle.edit_ops.proofs.TypingLemmas.{by-offsets}
use Rattle.kak_world.specs.Flat.{Flat, text_of, sels_of}
use Rattle.kak_world.specs.Editing.{edit_row}
use Rattle.insert_prompt.specs.Rows.{typed}

-- as replacements of the definition
pub typed-flat : (s : List ℕ) (who : ℕ) (flat : Flat) (list : Listed) (given : List CodeSplice) → sels_of who flat ≡ selected (text_of who flat) list → given ≡ map (splice_before s) list.list → flat_splices (text_of who flat) given ≡ map (typed_before s) (sels_of who flat).list
typed-flat s who flat list given e g = ap (flat_splices (text_of who flat)) g ∙ by-offsets (text_of who flat) s list.list ∙ ap (λ (x : Selected). map (typed_before s) x.list) (sym e)

pub typed-row : (s : List ℕ) (who : ℕ) (flat : Flat) (list : Listed) (given : List CodeSplice) → sels_of who flat ≡ selected (text_of who flat) list → given ≡ map (splice_before s) list.list → edit_row (flat_splices (text_of who flat) given) who flat ≡ typed s who flat
typed-row s who flat list given e g = ap (λ xs. edit_row xs who flat) (typed-flat s who flat list given e g)
