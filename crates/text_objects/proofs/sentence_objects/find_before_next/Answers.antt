use Rattle.std.proofs.Common.{sym, ◌∙◌, arith}
use Rattle.text_model.specs.Texts.{offset}
use Rattle.text_model.proofs.PlaceLemmas.{offset-below}
use Rattle.motion_keys.proofs.SearchLemmas.{next-fails}
use Rattle.text_objects.specs.Sentences.{is_begin}
use Rattle.text_objects.proofs.SentenceLemmas.{next-found}
use Rattle.text_objects.proofs.sentence_objects.find_before_next.Goals as goal

pub returns-then-is_begin-clause-value : goal.returns-then-is_begin-clause-value
returns-then-is_begin-clause-value c = next-found c.args.lines.now (offset c.args.lines.now c.args.begin) c.loop-next.at c.in-Some.next c.in-Some.ensures.next.0 c.in-Some.ensures.next.1 (sym c.is_begin.ensures ∙ c.if-is_begin.true) c.loop-next.invariant.rest

pub loop-next-smaller : goal.loop-next-smaller
loop-next-smaller c = omega (arith, c.in-Some.ensures.next.1, offset-below c.args.lines.now c.in-Some.next c.in-Some.ensures.next.0)

pub loop-next-preserved : goal.loop-next-preserved
loop-next-preserved c = record {
  place = c.in-Some.ensures.next.0;
  rest = sym (next-fails (is_begin c.args.lines.now) c.args.lines.now c.loop-next.at c.in-Some.next c.in-Some.ensures.next.0 c.in-Some.ensures.next.1 (sym c.is_begin.ensures ∙ c.if-is_begin.false)) ∙ c.loop-next.invariant.rest;
}
