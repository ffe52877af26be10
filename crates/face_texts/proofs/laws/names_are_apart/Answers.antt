use Rattle.face_texts.proofs.NameLemmas.{set-same, set-other, unset-same, unset-other}
use Rattle.face_texts.proofs.laws.names_are_apart.Goals as goal

pub returns : goal.returns
returns c = record { set_name = set-same; other_set = set-other; unset_name = unset-same; other_unset = unset-other }
