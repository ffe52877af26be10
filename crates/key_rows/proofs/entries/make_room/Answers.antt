use Rattle.std.proofs.Common.{◌≡◌, ℕ, List, [], ◌∷◌, true, length, ap, ap₂, sym, subst, ◌∙◌, inr}
use Rattle.std.specs.Prelude.{if◌then◌else◌}
use Rattle.list_model.specs.Ranges.{Selected}
use Rattle.selection_set.specs.Listing.{ranges_of}
use Rattle.undo_model.specs.Edits.{Splice}
use Rattle.buffer_store.specs.Buffers.{flat_splices}
use Rattle.edit_ops.specs.Putting.{put_in_at}
use Rattle.kak_world.specs.Flat.{text_of, sels_of}
use Rattle.key_rows.specs.Entering.{reaches_end}
use Rattle.key_rows.specs.Wanting.{IsPartWay}
use Rattle.key_rows.proofs.LeavingLemmas.{all-made}
use Rattle.key_rows.proofs.WantingLemmas.{some-made}
use Rattle.key_rows.proofs.entries.make_room.Goals as goal

pub returns-clause-made : goal.returns-clause-made
returns-clause-made g c =
    let flat = c.args.world.now.flat in
    let text : List ℕ = text_of c.args.who flat in
    let newline : List Splice = put_in_at (length text) (10 ∷ []) ∷ [] in
    let holds : reaches_end text (sels_of c.args.who flat).list ≡ true =
    ap (λ (x : Selected). reaches_end text x.list) c.sels.ensures.sels
    ∙ sym (subst (λ t. c.reaches_end.result ≡ reaches_end t (ranges_of t c.sels.result.now.list)) c.lines.ensures (c.reaches_end.ensures ∙ ap (λ xs. reaches_end c.lines.result.now (ranges_of c.lines.result.now xs)) c.as_slice.ensures.value))
    ∙ c.if-not-reaches_end.false in
    let made : flat_splices text c.as_slice-2.result.now ≡ newline =
    ap (flat_splices text) c.as_slice-2.ensures
    ∙ subst (λ t. flat_splices t (c.in_ok-newline_at_end.field-0 ∷ []) ≡ put_in_at (length t) (10 ∷ []) ∷ []) c.lines-2.ensures (ap (λ s. s ∷ []) c.in_ok-newline_at_end.ensures.puts) in
    subst (λ b. IsPartWay (if b then newline else []) c.args.who flat flat c.edit.new.self.flat) (sym holds)
    (some-made c.args.who flat c.edit.new.self.flat c.as_slice-2.result.now newline made (all-made c.args.who flat c.edit.new.self.flat _ c.in_ok-edit.ensures.edits))
