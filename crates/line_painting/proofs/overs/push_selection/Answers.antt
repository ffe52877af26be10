use Rattle.std.proofs.Common.{arith}
use Rattle.line_painting.proofs.OverLemmas.{selection-laid}
use Rattle.line_painting.proofs.overs.push_selection.Goals as goal

pub returns : goal.returns
returns c =
    selection-laid c.args.n c.args.len c.args.sel c.args.face c.args.overs.now.items c.push.new.self.items c.chars_before-from.result c.chars_before-to.result c.in_ok-push.ensures.items
    (λ text line inside. (
      c.chars_before-from.ensures.counts text line inside.low.on_line (omega (arith, inside.low.in_line)),
      omega (arith, c.chars_before-to.ensures.counts text line inside.high.on_line (omega (arith, inside.high.in_line))),
    ))
