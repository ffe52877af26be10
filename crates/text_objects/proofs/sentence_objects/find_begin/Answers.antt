use Rattle.std.proofs.Common.{sym, ◌∙◌}
use Rattle.text_model.specs.Texts.{offset}
use Rattle.text_objects.proofs.SentenceLemmas.{begin-back, begin-line}
use Rattle.text_objects.proofs.sentence_objects.find_begin.Goals as goal

pub loop-at-preserved : goal.loop-at-preserved
loop-at-preserved c = record {
  place = c.in-Some.ensures.prev.0;
  rest = begin-back c.args.lines.now (offset c.args.lines.now c.args.from) (offset c.args.lines.now c.loop-at.at) (offset c.args.lines.now c.in-Some.before) c.in-Some.ensures.prev.1 c.loop-at.invariant.rest (sym c.is_begin.ensures ∙ c.loop-at-test.true);
}

pub returns-clause-full : goal.returns-clause-full
returns-clause-full c = begin-line c.args.lines.now c.loop-at.at c.loop-at.invariant.place (sym c.is_begin.ensures ∙ c.loop-at-test.false)
