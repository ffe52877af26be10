use Rattle.std.proofs.Common.{◌≡◌, ◌≤◌, slice_index, true, false, refl, sym, ap, ◌∙◌, arith}
use Rattle.text_model.specs.Texts.{offset}
use Rattle.text_objects.specs.RunObjects.{is_gap}
use Rattle.text_objects.specs.Sentences.{paragraph_begin}
use Rattle.text_objects.proofs.SentenceLemmas.{begin-le, follows-found, follows-none, solid-on}
use Rattle.text_objects.proofs.sentence_marks.follows_end.Goals as goal

pub returns-then-not-is_char_of : goal.returns-then-not-is_char_of
returns-then-not-is_char_of c =
    let text = c.args.lines.now in
    let own : is_gap (slice_index text (offset text c.args.at)) ≡ false = ap is_gap (sym c.char_at.ensures) ∙ sym c.is_char_of.ensures ∙ c.if-is_char_of.false in
    let solid : is_gap (slice_index text (offset text c.in-Some.before)) ≡ false = ap is_gap (sym c.char_at-in-Some.ensures) ∙ sym c.is_char_of-in-Some.ensures ∙ c.if-not-is_char_of.true in
    let within : paragraph_begin text (offset text c.args.at) ≤ offset text c.in-Some.before = omega (arith, begin-le text c.in-Some.before c.in-Some.ensures.before.place, c.in-Some.ensures.before.same, c.loop-before.invariant.begin) in
    c.is_end.ensures ∙ sym (follows-found text (offset text c.args.at) (offset text c.loop-before.place) (offset text c.in-Some.before) own c.loop-before.invariant.rest c.in-Some.ensures.before.next solid within)

pub loop-before-preserved : goal.loop-before-preserved
loop-before-preserved c =
    let text = c.args.lines.now in
    let gap : is_gap (slice_index text (offset text c.in-Some.before)) ≡ true = ap is_gap (sym c.char_at-in-Some.ensures) ∙ sym c.is_char_of-in-Some.ensures ∙ c.if-not-is_char_of.false in
    record {
      place = c.in-Some.ensures.before.place;
      full = c.in-Some.ensures.before.full;
      begin = c.in-Some.ensures.before.same ∙ c.loop-before.invariant.begin;
      rest = solid-on text (offset text c.args.at) (offset text c.loop-before.place) (offset text c.in-Some.before) c.in-Some.ensures.before.next gap c.loop-before.invariant.rest;
    }

pub returns : goal.returns
returns c =
    let text = c.args.lines.now in
    let own : is_gap (slice_index text (offset text c.args.at)) ≡ false = ap is_gap (sym c.char_at.ensures) ∙ sym c.is_char_of.ensures ∙ c.if-is_char_of.false in
    sym (follows-none text (offset text c.args.at) (offset text c.loop-before.place) own c.loop-before.invariant.rest (c.in_default.ensures.none.0 refl ∙ c.loop-before.invariant.begin))
