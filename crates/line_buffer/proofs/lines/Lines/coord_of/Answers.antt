use Rattle.std.proofs.Common.{length, ap, sym, ◌∙◌, arith, subst}
use Rattle.text_model.specs.declared.coords.Coord.{Coord}
use Rattle.text_model.specs.Texts.{lines_of, offset, IsPlace}
use Rattle.text_model.proofs.PlaceLemmas.{start-more, offset-coord_at, IsPlace-coord_at}
use Rattle.line_buffer.proofs.FlatLemmas.{coord_on_line, coord_behind}
use Rattle.line_buffer.proofs.lines.Lines.coord_of.Goals as goal

pub returns-then-rest-len-clause-value : goal.returns-then-rest-len-clause-value
returns-then-rest-len-clause-value c =
    coord_on_line c.args.self.now c.loop-n.n c.loop-n.rest c.args.place (omega (arith, c.loop-n-test.true, c.line_count-n-end.ensures.value)) (omega (arith, c.if-rest-len.true, ap length c.line.ensures.value)) c.loop-n.invariant

pub loop-n-preserved : goal.loop-n-preserved
loop-n-preserved c =
    omega (arith, c.loop-n.invariant, c.if-rest-len.false, ap length c.line.ensures.value, start-more (lines_of c.args.self.now) c.loop-n.n (omega (arith, c.loop-n-test.true, c.line_count-n-end.ensures.value)))

pub returns-clause-value : goal.returns-clause-value
returns-clause-value c =
    coord_behind c.args.self.now c.line_count.result c.loop-n.n c.loop-n.rest c.args.place c.line_count.ensures.valid c.line_count.ensures.value (omega (arith, c.loop-n-test.false, c.line_count-n-end.ensures.value)) c.requires c.loop-n.invariant

pub returns-clause-offset : goal.returns-clause-offset
returns-clause-offset c = ap (offset c.args.self.now) (returns-clause-value c) ∙ offset-coord_at c.args.self.now c.args.place c.requires

pub returns-clause-inside : goal.returns-clause-inside
returns-clause-inside c = λ lt. let P : Coord → Type 0 = IsPlace c.args.self.now in subst P (sym (returns-clause-value c)) (IsPlace-coord_at c.args.self.now c.args.place lt)
