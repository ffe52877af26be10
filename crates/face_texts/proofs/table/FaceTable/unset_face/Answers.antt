use Rattle.std.proofs.Common.{not, ap, ◌∙◌, rules}
use Rattle.std.proofs.lemmas.Fn.{filter_same}
use Rattle.face_texts.specs.declared.rows.NamedFace.{NamedFace}
use Rattle.face_texts.specs.Tables.{is_named, face_unset_in}
use Rattle.face_texts.proofs.table.FaceTable.unset_face.Goals as goal

pub returns : goal.returns
returns c =
    filter_same _ (λ (r : NamedFace). not (is_named c.args.name.now r)) _ (λ x b f' k. search rules) _ _ c.retain.ensures.filtered
    ∙ ap (face_unset_in c.args.name.now) c.self.view_is
