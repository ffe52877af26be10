use Rattle.std.proofs.Common.{◌≤◌, length, chars, sym, ◌∙◌, map-id, subst, arith}
use Rattle.std.proofs.lemmas.Iterator.{YieldsList-from_chars}
use Rattle.std.proofs.lemmas.Iterator.Consumers.{YieldsList-end, YieldsList-turn}
use Rattle.text_coding.specs.Surveying.{IsSurvey}
use Rattle.line_buffer.proofs.GrowingLemmas.{few_chars}
use Rattle.text_coding.proofs.FormLemmas.{short-le}
use Rattle.text_coding.proofs.decoding.survey_of.Goals as goal

pub with_one-survey-requires-clause-plain : goal.with_one-survey-requires-clause-plain
with_one-survey-requires-clause-plain c =
    let turn = YieldsList-turn (YieldsList-from_chars c.args.text.now c.utf8.text cc) c.loop-c.yielded _ c.loop-c.yielded_by _ _ c.in-Some.c c.in-Some.is c.next.ensures.steps in
    let few : length (chars c.args.text.now) ≤ length c.args.text.now = few_chars c.args.text.now c.utf8.text in
    omega (arith, turn.0, few, c.loop-c.invariant.plain)

pub with_one-survey-requires-clause-short : goal.with_one-survey-requires-clause-short
with_one-survey-requires-clause-short c =
    let turn = YieldsList-turn (YieldsList-from_chars c.args.text.now c.utf8.text cc) c.loop-c.yielded _ c.loop-c.yielded_by _ _ c.in-Some.c c.in-Some.is c.next.ensures.steps in
    let few : length (chars c.args.text.now) ≤ length c.args.text.now = few_chars c.args.text.now c.utf8.text in
    omega (arith, turn.0, few, c.loop-c.invariant.short, short-le c.loop-c.yielded)

pub returns : goal.returns
returns c =
    let end = YieldsList-end (YieldsList-from_chars c.args.text.now c.utf8.text cc) c.loop-c.yielded _ c.loop-c.yielded_by _ _ c.in-None.is c.next.ensures.steps in
    subst (λ cs. IsSurvey c.loop-c.survey cs) (sym (map-id c.loop-c.yielded) ∙ end.0) c.loop-c.invariant
