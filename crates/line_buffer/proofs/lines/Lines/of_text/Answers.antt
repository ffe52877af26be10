use Rattle.std.proofs.Common.{ap, sym, ◌∙◌, subst, refl}
use Rattle.text_model.specs.Texts.{IsStored, joined}
use Rattle.text_model.proofs.LineLemmas.{joined-lines_of}
use Rattle.line_buffer.proofs.BufferLemmas.{lines_of_buffer}
use Rattle.line_buffer.proofs.lines.Lines.of_text.Goals as goal

pub invariant_of-result : goal.invariant_of-result
invariant_of-result c =
    lines_of_buffer c.as_slice-chars.result.now c.of_vec.result _ (subst IsStored (sym c.as_slice-chars.ensures.value) c.as_slice-chars.ensures.valid) (c.of_vec.ensures ∙ c.in_ok-cut.ensures) refl

pub returns : goal.returns
returns c = ap joined (c.of_vec.ensures ∙ c.in_ok-cut.ensures) ∙ joined-lines_of c.as_slice-chars.result.now ∙ c.as_slice-chars.ensures.value
