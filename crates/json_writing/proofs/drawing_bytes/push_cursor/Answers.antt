use Rattle.std.proofs.Common.{◌++◌, ap, ◌∙◌}
use Rattle.std.specs.Prelude.{codes}
use Rattle.json_writing.specs.Drawings.{cursor_word, place_text}
use Rattle.json_writing.proofs.Bytes.{grows_then, written_four}
use Rattle.json_writing.proofs.Parts.{cursor_lines-parts}
use Rattle.json_writing.proofs.drawing_bytes.push_cursor.Goals as goal

pub returns-clause-ok : goal.returns-clause-ok
returns-clause-ok c =
    let old = c.args.out.now.items in
    written_four old c.push_cursor_word.new.out.items c.push_text.new.out.items c.push_place.new.out.items c.push_text-2.new.out.items
    (codes "{\"jsonrpc\":\"2.0\",\"method\":\"set_cursor\",\"params\":[\"" ++ cursor_word c.args.cursor.prompt) (codes "\",") (place_text c.args.cursor.line c.args.cursor.column) (codes "]}\n")
    c.in_ok-push_cursor_word.ensures.ok c.in_ok-push_text.ensures.ok c.in_ok-push_place.ensures.ok c.in_ok-push_text-2.ensures.ok
    ∙ ap (λ b. old ++ b) (cursor_lines-parts c.args.cursor)

pub returns-clause-grows : goal.returns-clause-grows
returns-clause-grows c =
    grows_then _ _ _ c.in_ok-push_cursor_word.ensures.grows (grows_then _ _ _ c.in_ok-push_text.ensures.grows (grows_then _ _ _ c.in_ok-push_place.ensures.grows (c.in_ok-push_text-2.ensures.grows)))
