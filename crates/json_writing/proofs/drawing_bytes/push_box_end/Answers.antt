use Rattle.std.specs.Prelude.{codes}
use Rattle.json_writing.specs.Drawings.{face_text}
use Rattle.json_writing.proofs.Bytes.{written_three}
use Rattle.json_writing.proofs.drawing_bytes.push_box_end.Goals as goal

pub returns-clause-ok : goal.returns-clause-ok
returns-clause-ok c =
    written_three c.args.out.now.items c.push_text.new.out.items c.push_face.new.out.items c.push_text-2.new.out.items (codes ",{\"column\":0,\"line\":0},") (face_text c.args.face.now) (codes ",\"prompt\"]}\n")
    c.in_ok-push_text.ensures.ok c.in_ok-push_face.ensures.ok c.in_ok-push_text-2.ensures.ok
