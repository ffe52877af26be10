use Rattle.text_coding.specs.Surveying.{IsSurvey}
use Rattle.text_coding.proofs.decoding.survey_of.Given as goal

abbrev pub invariant-loop-c : goal.invariant-loop-c
invariant-loop-c l = IsSurvey l.survey l.yielded
