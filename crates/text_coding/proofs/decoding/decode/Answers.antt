use Rattle.std.proofs.Common.{ap, ◌∙◌, sym, subst, length, IsUtf8}
use Rattle.text_coding.specs.Coding.{mark_of}
use Rattle.text_coding.proofs.LoadLemmas.{loaded-text, loaded-not}
use Rattle.text_coding.proofs.decoding.decode.Goals as goal

pub returns-in-Ok : goal.returns-in-Ok
returns-in-Ok c =
    let cases = c.in-Ok.ensures.cases in
    loaded-text c.args.bytes.now c.in-Ok.text.now c.bom_of-bom.result c.load_text.result (cases.0 ∙ c.body-body.ensures) (subst IsUtf8 (sym cases.0) cases.1) c.bom_of-bom.ensures c.load_text.ensures

pub returns-in-Err : goal.returns-in-Err
returns-in-Err c =
    loaded-not c.args.bytes.now c.body-body.result.now c.mark_len.result c.valid_up_to.result c.body-body.ensures c.in-Err.ensures.cases.0
    (c.mark_len.ensures ∙ ap (λ b. length (mark_of b)) c.bom_of-bom.ensures) (c.valid_up_to.ensures ∙ c.in-Err.ensures.valid_len)
