use Rattle.std.proofs.Common.{ap, sym, ◌∙◌}
use Rattle.ui_board.specs.Told.{Refused, json_lines}
use Rattle.ui_board.proofs.ReportLemmas.{lines-grew}
use Rattle.ui_board.proofs.json.JsonUiUi.refuse.Goals as goal

pub invariant_of-self-2 : goal.invariant_of-self-2
invariant_of-self-2 c =
    c.in_ok-add_refusal.ensures.added
    ∙ lines-grew c.self.inside.lines.items c.self.inside.notes (Refused c.args.refusal) c.self.invariant
    ∙ ap json_lines (sym c.in_ok-add_refusal.ensures.noted)
