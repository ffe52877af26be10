use Rattle.std.proofs.Common.{◌≡◌, ◌<◌, ◌+◌, ◌++◌, length, get_or, [], string_bytes, encode_utf8_all, ap, ◌∙◌, arith}
use Rattle.std.proofs.lemmas.Result.{on_ok_weaker}
use Rattle.text_model.specs.Texts.{lines_of, offset, IsPlace}
use Rattle.text_model.proofs.PlaceLemmas.{start-more}
use Rattle.compact_chars.specs.Rows.{chars_of}
use Rattle.line_buffer.proofs.StepLemmas.{next_line_place}
use Rattle.line_buffer.proofs.FlatLemmas.{line-le-count, place_by_column, start-le-offset, ordered_lines, from-in-line, added-none-yet, added-line, added-part, added-all}
use Rattle.line_buffer.proofs.lines.Lines.push_slice.Goals as goal

pub loop-n-init : goal.loop-n-init
loop-n-init c = record {
  so_far = added-none-yet c.args.self.now (string_bytes c.args.text.now) (offset c.args.self.now c.args.from);
  after = omega arith;
  before = c.requires.ordered;
  inside = λ more. from-in-line c.args.self.now c.args.from c.args.to c.requires.from c.requires.to more;
}

pub loop-n-preserved : goal.loop-n-preserved
loop-n-preserved c =
    let text = c.args.self.now in
    let below : c.loop-n.n < length (lines_of text) = omega (arith, c.loop-n-test.true, line-le-count text c.args.to c.requires.to) in
    let inside : c.loop-n.start < length (get_or (lines_of text) c.loop-n.n []) = c.loop-n.invariant.inside c.loop-n-test.true in
    record {
      so_far = added-line text (string_bytes c.args.text.now) (string_bytes c.loop-n.text) _ (chars_of c.line.result) (offset text c.args.from) c.loop-n.n c.loop-n.start c.loop-n.invariant.so_far (c.in_ok-push_utf8.ensures ∙ ap (λ t. string_bytes c.loop-n.text ++ encode_utf8_all t) c.behind.ensures) c.line.ensures.value below inside c.loop-n.invariant.after;
      after = omega (arith, c.loop-n.invariant.after, start-more (lines_of text) c.loop-n.n below);
      before = start-le-offset text (c.loop-n.n + 1) c.args.to (omega (arith, c.loop-n-test.true));
      inside = λ more. (next_line_place text (c.loop-n.n + 1) c.line.ensures.valid (omega (arith, line-le-count text c.args.to c.requires.to))).in_line;
    }

pub returns-then-column-start : goal.returns-then-column-start
returns-then-column-start c =
    let text = c.args.self.now in
    let at_end : c.loop-n.n ≡ c.args.to.line = omega (arith, c.loop-n-test.false, c.loop-n.auto.n-end, ordered_lines text c.args.from c.args.to c.requires.from c.requires.to c.requires.ordered) in
    added-all text (string_bytes c.args.text.now) (string_bytes c.loop-n.text) (offset text c.args.from) c.loop-n.n c.loop-n.start c.args.to c.loop-n.invariant.so_far at_end (omega (arith, c.if-column-start.true)) c.loop-n.invariant.before

pub returns : goal.returns
returns c =
    let text = c.args.self.now in
    let at_end : c.loop-n.n ≡ c.args.to.line = omega (arith, c.loop-n-test.false, c.loop-n.auto.n-end, ordered_lines text c.args.from c.args.to c.requires.from c.requires.to c.requires.ordered) in
    let place : IsPlace text c.args.to = place_by_column text c.args.to c.requires.to (omega (arith, c.if-column-start.false)) in
    on_ok_weaker c.push_utf8-2.result (λ e.
    added-part text (string_bytes c.args.text.now) (string_bytes c.loop-n.text) _ (chars_of c.line-2.result) _ (offset text c.args.from) c.loop-n.n c.loop-n.start c.args.to c.loop-n.invariant.so_far e c.between.ensures c.line-2.ensures.value at_end place (omega (arith, c.if-column-start.false)) c.loop-n.invariant.after)
    c.push_utf8-2.ensures
