use Rattle.std.proofs.Common.{◌++◌, ◌<◌, ◌≤◌, length, ap₂, arith}
use Rattle.text_model.specs.Texts.{lines_of}
use Rattle.text_coding.specs.Coding.{mark_of}
use Rattle.text_coding.proofs.SaveLemmas.{line-more, lines-all, begun}
use Rattle.text_coding.proofs.encoding.encode.Goals as goal

pub loop-n-init : goal.loop-n-init
loop-n-init c = begun c.args.eol (mark_of c.args.bom) _ _ c.in_ok-extend_from_slice.ensures.items (ap₂ (λ x y. x ++ y) c.in_ok-bytes.ensures.items c.mark_of.ensures)

pub loop-n-preserved : goal.loop-n-preserved
loop-n-preserved c =
    let inside : c.loop-n.n < length (lines_of c.args.lines.now) = omega (arith, c.loop-n-test.true, c.line_count-n-end.ensures.value) in
    line-more c.args.eol (lines_of c.args.lines.now) c.loop-n.n _ (mark_of c.args.bom) _ _ inside c.line.ensures.value c.loop-n.invariant c.in_ok-bytes-2.ensures

pub returns : goal.returns
returns c =
    let all : length (lines_of c.args.lines.now) ≤ c.loop-n.n = omega (arith, c.loop-n-test.false, c.line_count-n-end.ensures.value) in
    lines-all c.args.eol c.args.lines.now (mark_of c.args.bom) c.loop-n.n _ all c.loop-n.invariant
