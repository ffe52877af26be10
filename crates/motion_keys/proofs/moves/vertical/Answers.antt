use Rattle.std.proofs.Common.{Some, sym, ap, ◌∙◌}
use Rattle.motion_keys.proofs.VerticalLemmas.{vertical-line}
use Rattle.motion_keys.proofs.moves.vertical.Goals as goal

pub returns-in-None-clause-none : goal.returns-in-None-clause-none
returns-in-None-clause-none c = λ _.
    vertical-line c.args.lines.now c.args.sel.now c.args.by c.args.tabstop.columns c.cursor.result c.aim-target.result c.line_count.result _ c.requires.inside c.ranges.by c.cursor.ensures c.aim-target.ensures c.line_count.ensures.value c.in-None.ensures.gives

pub returns-in-Some-clause-some : goal.returns-in-Some-clause-some
returns-in-Some-clause-some c =
    vertical-line c.args.lines.now c.args.sel.now c.args.by c.args.tabstop.columns c.cursor.result c.aim-target.result c.line_count.result _ c.requires.inside c.ranges.by c.cursor.ensures c.aim-target.ensures c.line_count.ensures.value c.in-Some.ensures.gives
    ∙ ap Some (sym c.land.ensures.lands)
