use Rattle.std.proofs.Common.{◌++◌, ap, ◌∙◌}
use Rattle.std.specs.Prelude.{codes}
use Rattle.json_writing.specs.Drawings.{cursor_word}
use Rattle.json_writing.proofs.Bytes.{written_two}
use Rattle.json_writing.proofs.drawing_bytes.push_cursor_word.Goals as goal

pub returns-clause-ok : goal.returns-clause-ok
returns-clause-ok c =
    written_two c.args.out.now.items c.push_text.new.out.items c.push_text-2.new.out.items (codes "{\"jsonrpc\":\"2.0\",\"method\":\"set_cursor\",\"params\":[\"") (cursor_word c.args.prompt)
    c.in_ok-push_text.ensures.ok (c.in_ok-push_text-2.ensures.ok ∙ ap (λ w. c.push_text.new.out.items ++ w) c.cursor_word.ensures)
