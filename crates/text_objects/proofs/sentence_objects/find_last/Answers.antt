use Rattle.std.proofs.Common.{◌≡◌, ◌+◌, ◌-◌, ◌<◌, refl, sym, ◌∙◌, arith}
use Rattle.text_model.specs.Texts.{offset}
use Rattle.text_objects.specs.Sentences.{paragraph_end}
use Rattle.text_objects.proofs.SentenceLemmas.{end-ge, end-column, last-found, last-on, last-none}
use Rattle.text_objects.proofs.sentence_objects.find_last.Goals as goal

pub loop-at-smaller : goal.loop-at-smaller
loop-at-smaller c = omega (arith, c.in-Some.ensures.behind.next, end-ge c.args.lines.now c.loop-at.at c.loop-at.invariant.place, c.loop-at.invariant.end)

pub loop-at-preserved : goal.loop-at-preserved
loop-at-preserved c =
    let text = c.args.lines.now in
    let below : offset text c.loop-at.at < paragraph_end text (offset text c.args.begin) = omega (arith, end-ge text c.loop-at.at c.loop-at.invariant.place, c.loop-at.invariant.end) in
    record {
      place = c.in-Some.ensures.behind.place;
      full = c.in-Some.ensures.behind.full;
      end = c.in-Some.ensures.behind.same ∙ c.loop-at.invariant.end;
      rest = last-on text (offset text c.args.begin) (offset text c.loop-at.at) (offset text c.in-Some.next) c.in-Some.ensures.behind.next c.loop-at.invariant.rest below (sym c.is_end.ensures ∙ c.loop-at-test.true);
    }

pub overflow_sub-result : goal.overflow_sub-result
overflow_sub-result c = end-column c.args.lines.now c.loop-at.at c.loop-at.invariant.place c.loop-at.invariant.full (c.in-None.ensures.none.0 refl)

pub returns-in-None-clause-value : goal.returns-in-None-clause-value
returns-in-None-clause-value c =
    let text = c.args.lines.now in
    let last : offset text c.loop-at.at + 1 ≡ paragraph_end text (offset text c.loop-at.at) = c.in-None.ensures.none.0 refl in
    let some = end-column text c.loop-at.at c.loop-at.invariant.place c.loop-at.invariant.full last in
    let back : offset text (record { line = c.loop-at.at.line; column = c.loop-at.at.column - 1 }) ≡ offset text c.loop-at.at - 1 = omega (arith, some) in
    back ∙ last-none text (offset text c.args.begin) (offset text c.loop-at.at) (last ∙ c.loop-at.invariant.end) c.loop-at.invariant.rest (sym c.is_end.ensures ∙ c.loop-at-test.true)

pub returns-clause-value : goal.returns-clause-value
returns-clause-value c =
    let text = c.args.lines.now in
    let below : offset text c.loop-at.at < paragraph_end text (offset text c.args.begin) = omega (arith, end-ge text c.loop-at.at c.loop-at.invariant.place, c.loop-at.invariant.end) in
    last-found text (offset text c.args.begin) (offset text c.loop-at.at) c.loop-at.invariant.rest below (sym c.is_end.ensures ∙ c.loop-at-test.false)
