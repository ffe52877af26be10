use Rattle.selection_set.proofs.HeldLemmas.{IsMain, main-sel, one-held, one-selected}
use Rattle.list_keys.proofs.main_selection.main_alone.Goals as goal

pub returns : goal.returns
returns c = record {
  held = λ text h. (let is : IsMain text c.args.sels.now c.at.result = main-sel text c.args.sels.now c.main.result c.at.result c.main.ensures.value c.at.ensures h in one-held text c.at.result c.one.result c.one.ensures is.inside);
  alone = λ text h. (let is : IsMain text c.args.sels.now c.at.result = main-sel text c.args.sels.now c.main.result c.at.result c.main.ensures.value c.at.ensures h in one-selected text c.at.result c.one.result _ c.one.ensures is.same);
}
