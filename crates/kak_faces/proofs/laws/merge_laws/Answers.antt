use Rattle.kak_faces.proofs.FaceLemmas.{merged-default_over, merged-default_below, merged-itself}
use Rattle.kak_faces.proofs.laws.merge_laws.Goals as goal

pub returns-clause-default_over : goal.returns-clause-default_over
returns-clause-default_over c = merged-default_over c.args.face

pub returns-clause-default_below : goal.returns-clause-default_below
returns-clause-default_below c = merged-default_below c.args.face

pub returns-clause-itself : goal.returns-clause-itself
returns-clause-itself c = merged-itself c.args.face
