use Rattle.text_coding.proofs.FormLemmas.{survey-other, survey-plain, survey-joined}
use Rattle.text_coding.proofs.decoding.with_one.Goals as goal

pub returns-then-c-ne10 : goal.returns-then-c-ne10
returns-then-c-ne10 c = λ cs known. survey-other c.args.survey c.args.c cs c.if-c-ne10.true known

pub returns-then-survey-ne13 : goal.returns-then-survey-ne13
returns-then-survey-ne13 c = λ cs known. rw c.if-c-ne10.false (survey-plain c.args.survey cs c.if-survey-ne13.true known)

pub returns : goal.returns
returns c = λ cs known. rw c.if-c-ne10.false (survey-joined c.args.survey cs c.if-survey-ne13.false known)
