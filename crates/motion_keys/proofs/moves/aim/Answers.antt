use Rattle.std.proofs.Common.{sym, ap, ◌∙◌}
use Rattle.kak_text.specs.Cells.{display_column}
use Rattle.motion_keys.proofs.VerticalLemmas.{aim-cursor}
use Rattle.motion_keys.proofs.moves.aim.Goals as goal

pub returns-in-None : goal.returns-in-None
returns-in-None c =
    c.cell_of.ensures.value
    ∙ ap (λ line. display_column line c.cursor-at.result.column c.args.tabstop.columns) c.line.ensures.value
    ∙ sym (aim-cursor c.args.lines.now c.args.sel.now c.cursor-at.result c.args.tabstop.columns c.requires.inside c.cursor-at.ensures c.in-None.is)
