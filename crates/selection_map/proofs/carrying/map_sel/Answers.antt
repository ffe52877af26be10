use Rattle.selection_map.proofs.BothLemmas.{carries-both}
use Rattle.selection_map.proofs.carrying.map_sel.Goals as goal

pub returns-clause-carries : goal.returns-clause-carries
returns-clause-carries c = λ old new m f i. carries-both old new c.args.shift.now m c.args.sel c.map_one.result c.map_one-2.result f i (c.map_one.ensures.carries old new m f i.low) (c.map_one-2.ensures.carries old new m f i.high)
