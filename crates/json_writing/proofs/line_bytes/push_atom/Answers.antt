use Rattle.std.proofs.Common.{◌++◌, ap, ◌∙◌}
use Rattle.std.specs.Prelude.{codes}
use Rattle.json_writing.specs.JsonText.{all_escaped}
use Rattle.json_writing.specs.Drawings.{atom_end}
use Rattle.json_writing.proofs.Bytes.{grows_then, written_three}
use Rattle.json_writing.proofs.Parts.{atom_text-parts}
use Rattle.json_writing.proofs.line_bytes.push_atom.Goals as goal

pub returns-clause-ok : goal.returns-clause-ok
returns-clause-ok c =
    let old = c.args.out.now.items in
    let atom = c.args.atom.now in
    let contents = c.in_ok-push_characters.ensures.ok ∙ ap (λ cs. c.push_text.new.out.items ++ all_escaped cs) c.as_slice.ensures in
    written_three old c.push_text.new.out.items c.push_characters.new.out.items c.push.new.out.items
    (codes "{\"contents\":\"") (all_escaped atom.contents) (atom_end atom.face)
    c.in_ok-push_text.ensures.ok contents c.in_ok-push.ensures.ok
    ∙ ap (λ b. old ++ b) (atom_text-parts atom)

pub returns-clause-grows : goal.returns-clause-grows
returns-clause-grows c =
    grows_then _ _ _ c.in_ok-push_text.ensures.grows (grows_then _ _ _ c.in_ok-push_characters.ensures.grows c.in_ok-push.ensures.grows)
