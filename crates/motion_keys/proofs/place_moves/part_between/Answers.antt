use Rattle.std.proofs.Common.{refl}
use Rattle.motion_keys.specs.Landmarks.{line_start, line_last}
use Rattle.motion_keys.proofs.PartLemmas.{part-between}
use Rattle.motion_keys.proofs.place_moves.part_between.Goals as goal

pub returns-in-ToStart : goal.returns-in-ToStart
returns-in-ToStart c = rw c.in-ToStart.is (part-between c.args.lines.now c.args.sel (line_start c.args.lines.now) c.cursor-anchor.result c.find_start-cursor.result _ c.requires c.cursor-anchor.ensures c.find_start-cursor.ensures.place c.find_start-cursor.ensures.value refl)

pub returns-in-ToEnd : goal.returns-in-ToEnd
returns-in-ToEnd c = rw c.in-ToEnd.is (part-between c.args.lines.now c.args.sel (line_last c.args.lines.now) c.cursor-anchor.result c.find_end-cursor.result _ c.requires c.cursor-anchor.ensures c.find_end-cursor.ensures.place c.find_end-cursor.ensures.value refl)
