use Rattle.std.proofs.Common.{◌≡◌, [], ◌∷◌, map, Err, ap, sym, subst, ◌∙◌}
use Rattle.buffer_store.specs.Buffers.{AreSplicesOf}
use Rattle.edit_ops.specs.Typing.{splice_before}
use Rattle.edit_ops.proofs.TypingLemmas.{typing-places}
use Rattle.kak_world.specs.Flat.{text_of}
use Rattle.kak_world.specs.Rows.{RowEnd, row_of}
use Rattle.std.specs.Prelude.{IfSome}
use Rattle.kak_world.specs.declared.ask.EditError.TheVariants.{NoMemory}
use Rattle.kak_world.proofs.AnswerLemmas.{error-of}
use Rattle.key_rows.proofs.LeavingLemmas.{all-made}
use Rattle.key_rows.proofs.WantingLemmas.{some-made}
use Rattle.insert_prompt.proofs.TypedLemmas.{typed-flat, typed-row}
use Rattle.insert_prompt.proofs.inserts.type_in.Goals as goal

pub edit-requires-clause-splices : goal.edit-requires-clause-splices
edit-requires-clause-splices g c =
    let list = c.sels.result.now in
    subst (AreSplicesOf (text_of c.args.who c.args.world.now.flat)) (sym (c.as_slice-2.ensures.value ∙ c.in_ok-splices.ensures ∙ ap (map (splice_before (c.args.c ∷ []))) c.as_slice.ensures.value))
    (typing-places (text_of c.args.who c.args.world.now.flat) (c.args.c ∷ []) list c.sels.ensures.held)

pub returns-in-Ok-clause-row : goal.returns-in-Ok-clause-row
returns-in-Ok-clause-row g c =
    let given = c.as_slice-2.ensures.value ∙ c.in_ok-splices.ensures ∙ ap (map (splice_before (c.args.c ∷ []))) c.as_slice.ensures.value in
    sym (typed-row (c.args.c ∷ []) c.args.who c.args.world.now.flat c.sels.result.now _ c.sels.ensures.sels given) ∙ c.in-Ok.ensures.row

pub returns-in-Ok-clause-made : goal.returns-in-Ok-clause-made
returns-in-Ok-clause-made g c =
    let given = c.as_slice-2.ensures.value ∙ c.in_ok-splices.ensures ∙ ap (map (splice_before (c.args.c ∷ []))) c.as_slice.ensures.value in
    some-made c.args.who c.args.world.now.flat c.edit.new.self.flat c.as_slice-2.result.now _ (typed-flat (c.args.c ∷ []) c.args.who c.args.world.now.flat c.sels.result.now _ c.sels.ensures.sels given)
    (all-made c.args.who c.args.world.now.flat c.edit.new.self.flat _ c.in-Ok.ensures.edits)

pub returns : goal.returns
returns g c =
    let given = c.as_slice-2.ensures.value ∙ c.in_ok-splices.ensures ∙ ap (map (splice_before (c.args.c ∷ []))) c.as_slice.ensures.value in
    let P : RowEnd → Type 0 = λ end. IfSome (row_of c.in-Err.error) (λ row. end ≡ record { world = c.edit.new.self.flat; row = row }) in
    record {
      row = subst P (typed-row (c.args.c ∷ []) c.args.who c.args.world.now.flat c.sels.result.now _ c.sels.ensures.sels given) c.in-Err.ensures.row;
      made = tt;
      acts = tt;
      wanting = λ h. some-made c.args.who c.args.world.now.flat c.edit.new.self.flat c.as_slice-2.result.now _ (typed-flat (c.args.c ∷ []) c.args.who c.args.world.now.flat c.sels.result.now _ c.sels.ensures.sels given) (c.in-Err.ensures.wanting (ap Err (ap (error-of NoMemory) h)));
    }
