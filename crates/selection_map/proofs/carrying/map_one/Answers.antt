use Rattle.std.proofs.Common.{sym, subst}
use Rattle.text_model.specs.declared.coords.Coord.{Coord}
use Rattle.selection_map.specs.Carrying.{Carries}
use Rattle.selection_map.proofs.CarryLemmas.{carries-mapped}
use Rattle.selection_map.proofs.carrying.map_one.Goals as goal

pub returns-clause-carries : goal.returns-clause-carries
returns-clause-carries c = λ old new m f p. let P : Coord → Type 0 = λ x. Carries old new m c.args.at x in subst P (sym c.map_coord.ensures) (carries-mapped old new c.args.shift.now m c.args.at f p)
