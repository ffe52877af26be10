use Rattle.std.proofs.Common.{◌≡◌, Err, ap, sym, subst, ◌∙◌}
use Rattle.std.proofs.lemmas.Result.{err_from_is_err_and}
use Rattle.std.specs.Prelude.{IfSome}
use Rattle.kak_world.specs.Rows.{RowEnd, row_of}
use Rattle.kak_world.specs.Editing.{edit_row}
use Rattle.key_rows.proofs.LeavingLemmas.{indents-are}
use Rattle.kak_world.specs.declared.ask.EditError.TheVariants.{NoMemory}
use Rattle.kak_world.proofs.AnswerLemmas.{error-of}
use Rattle.key_rows.proofs.WantingLemmas.{some-made}
use Rattle.key_rows.proofs.edits.indent.Goals as goal

pub returns-in_err-edit : goal.returns-in_err-edit
returns-in_err-edit g c =
    let p = err_from_is_err_and c.from_residual-in_err-edit.result c.from_residual-in_err-edit.ensures.1 in
    let made = indents-are c.args.how c.indentwidth.result c.tabstop.result.columns c.args.who c.args.world.now.flat c.lines.result.now c.sels.result.now c.in_ok-splices.splices.items c.as_slice.result.now c.as_slice.ensures.value c.lines.ensures c.sels.ensures.sels c.indentwidth.ensures.value c.tabstop.ensures.value c.in_ok-splices.ensures.indents in
    record {
      row = rw (p.1, p.2) (subst (λ (end : RowEnd). IfSome (row_of c.in_err-edit.field-0.0) (λ next. end ≡ record { world = c.edit.new.self.flat; row = next })) (ap (λ xs. edit_row xs c.args.who c.args.world.now.flat) made) c.in_err-edit.ensures.row);
      wanting = rw (p.1, p.2) (λ h. some-made c.args.who c.args.world.now.flat c.edit.new.self.flat c.as_slice.result.now _ made (c.in_err-edit.ensures.wanting (ap Err (ap (error-of NoMemory) h))));
    }

pub returns-clause-row : goal.returns-clause-row
returns-clause-row g c =
    let made = indents-are c.args.how c.indentwidth.result c.tabstop.result.columns c.args.who c.args.world.now.flat c.lines.result.now c.sels.result.now c.in_ok-splices.splices.items c.as_slice.result.now c.as_slice.ensures.value c.lines.ensures c.sels.ensures.sels c.indentwidth.ensures.value c.tabstop.ensures.value c.in_ok-splices.ensures.indents in
    sym (ap (λ xs. edit_row xs c.args.who c.args.world.now.flat) made) ∙ c.in_ok-edit.ensures.row
