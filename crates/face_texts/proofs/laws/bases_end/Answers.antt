use Rattle.face_texts.proofs.CycleLemmas.{chains-end, word-is-face}
use Rattle.face_texts.proofs.laws.bases_end.Goals as goal

pub returns : goal.returns
returns c = record { chains_end = chains-end; word_is_face = word-is-face }
