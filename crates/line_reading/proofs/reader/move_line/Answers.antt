use Rattle.std.proofs.Common.{refl}
use Rattle.line_reading.proofs.PieceLemmas.{line-moved, all-moved}
use Rattle.line_reading.proofs.reader.move_line.Goals as goal

pub returns-in_ok-extend_from_slice-in-Some : goal.returns-in_ok-extend_from_slice-in-Some
returns-in_ok-extend_from_slice-in-Some c = line-moved _ _ c.as_slice-bytes.result.now _ _ c.in-Some.count c.in-Some.ensures.place c.as_slice-bytes.ensures c.in_ok-extend_from_slice-in-Some.ensures.items c.skip.ensures

pub returns-in_ok-extend_from_slice-in-None : goal.returns-in_ok-extend_from_slice-in-None
returns-in_ok-extend_from_slice-in-None c = all-moved _ _ c.as_slice-bytes.result.now _ _ _ c.in-None.ensures.place c.as_slice-bytes.ensures c.in_ok-extend_from_slice-in-None.ensures.items refl c.skip-in-None.ensures
