use Rattle.std.proofs.Common.{◌<◌, sym, ◌∙◌, arith}
use Rattle.text_model.specs.Texts.{line_count}
use Rattle.text_objects.specs.LineKinds.{is_line_of}
use Rattle.text_objects.proofs.RunLemmas.{end-here, end-on}
use Rattle.text_objects.proofs.line_runs.line_behind.Goals as goal

pub returns-then-not-is_line_of-clause-value : goal.returns-then-not-is_line_of-clause-value
returns-then-not-is_line_of-clause-value c =
    let below : c.loop-n.n < line_count c.args.lines.now = omega (arith, c.loop-n-test.true, c.line_count-count.ensures.value) in
    sym (end-here (is_line_of c.args.kind c.args.lines.now) c.loop-n.n (line_count c.args.lines.now) below (sym c.is_line_of.ensures ∙ c.if-not-is_line_of.true)) ∙ c.loop-n.invariant.same

pub loop-n-preserved : goal.loop-n-preserved
loop-n-preserved c =
    let below : c.loop-n.n < line_count c.args.lines.now = omega (arith, c.loop-n-test.true, c.line_count-count.ensures.value) in
    record {
      behind = omega (arith, c.loop-n.invariant.behind);
      there = omega (arith, below);
      same = end-on (is_line_of c.args.kind c.args.lines.now) c.loop-n.n (line_count c.args.lines.now) below (sym c.is_line_of.ensures ∙ c.if-not-is_line_of.false) ∙ c.loop-n.invariant.same;
    }
