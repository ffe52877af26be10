use Rattle.std.proofs.Common.{◌<◌, length, get_or, ap, ◌∙◌}
use Rattle.kak_world.specs.Flat.{text_of, sels_of}
use Rattle.selection_set.specs.declared.sel.Sel.{Sel}
use Rattle.draw_model.proofs.CursorLemmas.{main-cursor, main-place}
use Rattle.draw_model.proofs.drawing.cursor_at.Goals as goal

pub returns : goal.returns
returns g c =
    let l : c.sels-sels.result.now.main < length c.sels-sels.result.now.list = c.main.ensures.valid.main_is in
    let at = λ (d : Sel). c.at.ensures d ∙ ap (λ n. get_or c.sels-sels.result.now.list n d) c.main.ensures.value in
    record {
      value = main-cursor (text_of c.args.who c.args.world.now.flat) c.sels-sels.result.now (sels_of c.args.who c.args.world.now.flat) c.at.result c.cursor.result c.sels-sels.ensures.sels c.sels-sels.ensures.held l at c.cursor.ensures;
      place = main-place (text_of c.args.who c.args.world.now.flat) c.sels-sels.result.now c.at.result c.cursor.result c.sels-sels.ensures.held l at c.cursor.ensures;
    }
