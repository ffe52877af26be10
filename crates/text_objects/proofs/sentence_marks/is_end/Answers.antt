use Rattle.std.proofs.Common.{◌≡◌, ◌+◌, ◌<◌, slice_index, true, length, sym, ap, ◌∙◌, arith}
use Rattle.text_model.specs.Texts.{offset}
use Rattle.compact_chars.specs.Rows.{chars_of}
use Rattle.motion_keys.specs.Landmarks.{line_begin}
use Rattle.text_objects.specs.RunObjects.{is_gap}
use Rattle.text_objects.specs.Sentences.{is_stop}
use Rattle.text_objects.proofs.LineOfLemmas.{place-read, char-read}
use Rattle.text_objects.proofs.SentenceLemmas.{stop-inside, end-no_stop, end-stop}
use Rattle.text_objects.proofs.sentence_marks.is_end.Goals as goal

pub returns-then-not-is_stop : goal.returns-then-not-is_stop
returns-then-not-is_stop c =
    let text = c.args.lines.now in
    let read = place-read text c.args.at (chars_of c.line-line.result) c.at.result c.requires c.line-line.ensures.value c.at.ensures in
    sym (end-no_stop text (offset text c.args.at) (ap is_stop read ∙ sym c.is_stop.ensures ∙ c.if-not-is_stop.true))

pub returns : goal.returns
returns c =
    let text = c.args.lines.now in
    let stop : is_stop c.at.result ≡ true = sym c.is_stop.ensures ∙ c.if-not-is_stop.false in
    let read : slice_index text (offset text c.args.at) ≡ c.at.result = place-read text c.args.at (chars_of c.line-line.result) c.at.result c.requires c.line-line.ensures.value c.at.ensures in
    let column : c.args.at.column < length (chars_of c.line-line.result) = omega (arith, c.requires.in_line, ap length c.line-line.ensures.value) in
    let inside : c.args.at.column + 1 < length (chars_of c.line-line.result) = stop-inside (chars_of c.line-line.result) c.args.at.column c.at.result c.line-line.ensures.line column (sym c.at.ensures) stop in
    let at : offset text c.args.at + 1 ≡ line_begin text c.args.at.line + (c.args.at.column + 1) = omega arith in
    let next : slice_index text (offset text c.args.at + 1) ≡ c.at-2.result = ap (slice_index text) at ∙ char-read text c.args.at.line (c.args.at.column + 1) (chars_of c.line-line.result) c.at-2.result c.requires.on_line c.line-line.ensures.value inside c.at-2.ensures in
    c.is_char_of.ensures ∙ ap is_gap (sym next) ∙ sym (end-stop text (offset text c.args.at) (ap is_stop read ∙ stop))
