use Rattle.std.proofs.Common.{arith}
use Rattle.text_model.specs.Texts.{lines_of}
use Rattle.line_painting.proofs.WindowLemmas.{lines-length}
use Rattle.line_painting.proofs.scene.part_in.Goals as goal

pub returns-clause-count : goal.returns-clause-count
returns-clause-count c =
    omega (arith, c.line_count-count.ensures.value, c.min-top.ensures, c.min.ensures, c.from.ensures, lines-length (lines_of c.args.lines.now) c.args.window.top c.args.window.rows)
