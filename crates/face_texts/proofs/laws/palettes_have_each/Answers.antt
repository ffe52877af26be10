use Rattle.face_texts.proofs.NameLemmas.{palette-each, palette-start}
use Rattle.face_texts.proofs.laws.palettes_have_each.Goals as goal

pub returns : goal.returns
returns c = record { each = palette-each; at_start = palette-start }
