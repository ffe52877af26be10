use Rattle.std.proofs.Common.{◌<◌, arith}
use Rattle.text_model.specs.Texts.{line_count}
use Rattle.text_model.proofs.PlaceLemmas.{nth_line_is_line}
use Rattle.motion_keys.proofs.place_moves.find_start.Goals as goal

pub returns-clause-place : goal.returns-clause-place
returns-clause-place c =
    let on : c.min-line.result < line_count c.args.lines.now = omega (arith, c.line_count-last.ensures.value, c.line_count-last.ensures.some, c.min-line.ensures) in
    record { on_line = on; in_line = (nth_line_is_line c.args.lines.now c.min-line.result c.line_count-last.ensures.valid.is_text on).some }
