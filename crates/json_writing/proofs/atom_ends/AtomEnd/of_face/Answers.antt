use Rattle.std.proofs.Common.{sym, ap, ◌∙◌}
use Rattle.json_writing.specs.Drawings.{atom_end}
use Rattle.json_writing.proofs.SameFaces.{equal_faces}
use Rattle.json_writing.proofs.atom_ends.AtomEnd.of_face.Goals as goal

pub returns-then-is_same : goal.returns-then-is_same
returns-then-is_same c =
    c.as_slice.ensures.value ∙ c.args.self.now.is ∙ ap atom_end (equal_faces c.args.self.now.face c.args.face (sym c.is_same.ensures ∙ c.if-is_same.true))
