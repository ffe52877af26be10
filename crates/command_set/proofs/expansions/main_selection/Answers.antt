use Rattle.std.proofs.Common.{ap, sym, ◌∙◌}
use Rattle.selection_set.specs.Held.{main_of}
use Rattle.selection_set.proofs.HeldLemmas.{main-sel}
use Rattle.kak_world.specs.Flat.{text_of}
use Rattle.command_set.proofs.expansions.main_selection.Goals as goal

pub returns : goal.returns
returns g c =
    let main = main-sel (text_of c.args.who c.args.world.now.flat) c.sels-sels.result.now c.main.result c.at.result c.main.ensures.value c.at.ensures c.sels-sels.ensures.held in
    record { inside = main.inside; value = main.same ∙ ap main_of (sym c.sels-sels.ensures.sels) }
