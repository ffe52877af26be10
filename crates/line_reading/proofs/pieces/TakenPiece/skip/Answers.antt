use Rattle.line_reading.proofs.PieceLemmas.{part-skipped}
use Rattle.line_reading.proofs.pieces.TakenPiece.skip.Goals as goal

pub returns : goal.returns
returns c = part-skipped c.self.inside.bytes _ c.self.inside.from c.self.inside.to c.args.count c.self.view_is c.requires
