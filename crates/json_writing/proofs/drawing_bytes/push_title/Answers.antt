use Rattle.std.specs.Prelude.{codes}
use Rattle.json_writing.specs.Drawings.{line_text}
use Rattle.json_writing.proofs.Bytes.{written_two}
use Rattle.json_writing.proofs.drawing_bytes.push_title.Goals as goal

pub returns-clause-ok : goal.returns-clause-ok
returns-clause-ok c =
    written_two c.args.out.now.items c.push_text.new.out.items c.push_line.new.out.items (codes "{\"jsonrpc\":\"2.0\",\"method\":\"info_show\",\"params\":[") (line_text c.args.title.now)
    c.in_ok-push_text.ensures.ok c.in_ok-push_line.ensures.ok
