use Rattle.face_texts.specs.Palettes.{palette_of}
use Rattle.face_texts.proofs.palette.palette_of.Goals as goal

pub returns : goal.returns
unfolding palette_of
returns c = cc
