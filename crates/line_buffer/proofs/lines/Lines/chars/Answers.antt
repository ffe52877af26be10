use Rattle.std.proofs.Common.{◌≡◌, ◌<◌, ◌+◌, ◌++◌, length, get_or, [], ap, ◌∙◌, arith}
use Rattle.text_model.specs.Texts.{lines_of, offset, IsPlace}
use Rattle.text_model.proofs.PlaceLemmas.{start-more}
use Rattle.compact_chars.specs.Rows.{chars_of}
use Rattle.line_buffer.proofs.StepLemmas.{next_line_place}
use Rattle.line_buffer.proofs.FlatLemmas.{line-le-count, place_by_column, start-le-offset, sliced_line, sliced_part, sliced_none, ordered_lines}
use Rattle.line_buffer.proofs.lines.Lines.chars.Goals as goal
use Rattle.line_buffer.proofs.lines.Lines.chars.Goals.{then-start-to+in_ok-push_onto-2, else-start-to}

pub loop-n-preserved : goal.loop-n-preserved
loop-n-preserved c =
    let below : c.loop-n.n < length (lines_of c.args.self.now) = omega (arith, c.loop-n-test.true, line-le-count c.args.self.now c.args.to c.requires.to) in
    let inside : c.loop-n.start < length (get_or (lines_of c.args.self.now) c.loop-n.n []) = c.loop-n.invariant.inside c.loop-n-test.true in
    record {
      so_far = sliced_line c.args.self.now c.loop-n.chars.items _ (chars_of c.line.result) (offset c.args.self.now c.args.from) c.loop-n.n c.loop-n.start c.loop-n.invariant.so_far (c.in_ok-push_onto.ensures.ok ∙ ap (λ t. c.loop-n.chars.items ++ t) c.behind.ensures) c.line.ensures.value below inside c.loop-n.invariant.after;
      after = omega (arith, c.loop-n.invariant.after, start-more (lines_of c.args.self.now) c.loop-n.n below);
      before = start-le-offset c.args.self.now (c.loop-n.n + 1) c.args.to (omega (arith, c.loop-n-test.true));
      inside = λ more. (next_line_place c.args.self.now (c.loop-n.n + 1) c.line.ensures.valid (omega (arith, line-le-count c.args.self.now c.args.to c.requires.to))).in_line;
    }

pub returns : goal.returns
returns c =
    let at_end : c.loop-n.n ≡ c.args.to.line = omega (arith, c.loop-n-test.false, c.loop-n.auto.n-end, ordered_lines c.args.self.now c.args.from c.args.to c.requires.from c.requires.to c.requires.ordered) in
    elim c.if-start-to.branch [
      | then-start-to+in_ok-push_onto-2 w ↦ (let place : IsPlace c.args.self.now c.args.to = place_by_column c.args.self.now c.args.to c.requires.to (omega (arith, w.if-start-to.true)) in
          ap (λ v. v.items) w.chars-is ∙ sliced_part c.args.self.now c.loop-n.chars.items _ (chars_of w.line-then-start-to.result) (offset c.args.self.now c.args.from) c.loop-n.n c.loop-n.start c.args.to c.loop-n.invariant.so_far (w.in_ok-push_onto-2.ensures.ok ∙ ap (λ t. c.loop-n.chars.items ++ t) w.between.ensures) w.line-then-start-to.ensures.value at_end place (omega (arith, w.if-start-to.true)) c.loop-n.invariant.after)
      | else-start-to w ↦ ap (λ v. v.items) w.chars-is ∙ sliced_none c.args.self.now c.loop-n.chars.items (offset c.args.self.now c.args.from) c.loop-n.n c.loop-n.start c.args.to c.loop-n.invariant.so_far at_end (omega (arith, w.if-start-to.false)) c.loop-n.invariant.before
    ]
