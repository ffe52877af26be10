use Rattle.std.proofs.Common.{◌≡◌, ◌++◌, ap₂, sym, ◌∙◌, subst, arith}
use Rattle.text_model.specs.Texts.{IsStored, lines_of}
use Rattle.line_buffer.proofs.FlatLemmas.{joined-more, joined-all}
use Rattle.line_buffer.proofs.lines.Lines.to_text.Goals as goal

pub loop-n-preserved : goal.loop-n-preserved
loop-n-preserved c =
    c.in_ok-push_onto.ensures.ok ∙ ap₂ (λ x y. x ++ y) c.loop-n.invariant c.line.ensures.value ∙ sym (joined-more (lines_of c.args.self.now) c.loop-n.n (omega (arith, c.loop-n-test.true, c.line_count-n-end.ensures.value)))

pub of_vec-requires : goal.of_vec-requires
of_vec-requires c =
    let whole : c.loop-n.all.items ≡ c.args.self.now = c.loop-n.invariant ∙ joined-all c.args.self.now c.loop-n.n (omega (arith, c.loop-n-test.false, c.line_count-n-end.ensures.value)) in
    subst IsStored (sym whole) c.len.ensures.valid

pub returns : goal.returns
returns c =
    c.of_vec.ensures ∙ c.loop-n.invariant ∙ joined-all c.args.self.now c.loop-n.n (omega (arith, c.loop-n-test.false, c.line_count-n-end.ensures.value))
