use Rattle.key_rows.proofs.edits.edit_texts.Goals as goal

pub returns-in-Indent-clause-wanting : goal.returns-in-Indent-clause-wanting
returns-in-Indent-clause-wanting g c = rw c.in-Indent.is c.indent.ensures.wanting
