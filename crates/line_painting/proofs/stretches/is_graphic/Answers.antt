use Rattle.std.proofs.Common.{◌<◌, ◌≤◌, true, rules}
use Rattle.line_painting.proofs.PlainLemmas.{ascii}
use Rattle.line_painting.proofs.stretches.is_graphic.Goals as goal

pub returns-in-33-to-126 : goal.returns-in-33-to-126
returns-in-33-to-126 c = λ e.
    let low : 0x21 ≤ c.args.c = search rules in
    let high : c.args.c < 0x7F = search rules in
    ascii.graphic true c.args.c low high
