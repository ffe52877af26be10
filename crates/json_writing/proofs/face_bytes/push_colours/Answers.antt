use Rattle.std.proofs.Common.{◌++◌}
use Rattle.std.specs.Prelude.{codes}
use Rattle.json_writing.specs.Drawings.{colour_text}
use Rattle.json_writing.proofs.Bytes.{written_four}
use Rattle.json_writing.proofs.face_bytes.push_colours.Goals as goal

pub returns-clause-ok : goal.returns-clause-ok
returns-clause-ok c =
    written_four c.args.out.now.items c.push_colour_behind.new.out.items c.push_colour_behind-2.new.out.items c.push_colour_behind-3.new.out.items c.push_text.new.out.items
    (codes "],\"bg\":\"" ++ colour_text c.args.face.now.bg) (codes "\",\"fg\":\"" ++ colour_text c.args.face.now.fg) (codes "\",\"underline\":\"" ++ colour_text c.args.face.now.underline) (codes "\"}")
    c.in_ok-push_colour_behind.ensures.ok c.in_ok-push_colour_behind-2.ensures.ok c.in_ok-push_colour_behind-3.ensures.ok c.in_ok-push_text.ensures.ok
