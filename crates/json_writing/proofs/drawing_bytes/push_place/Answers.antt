use Rattle.std.proofs.Common.{◌++◌, ◌∷◌, [], ap, ◌∙◌}
use Rattle.std.specs.Prelude.{codes, decimal}
use Rattle.json_writing.proofs.Bytes.{grows_then, written_four}
use Rattle.json_writing.proofs.Parts.{place_text-parts}
use Rattle.json_writing.proofs.drawing_bytes.push_place.Goals as goal

pub returns-clause-ok : goal.returns-clause-ok
returns-clause-ok c =
    let old = c.args.out.now.items in
    written_four old c.push_column.new.out.items c.push_text.new.out.items c.push_number.new.out.items c.push_byte.new.out.items
    (codes "{\"column\":" ++ decimal c.args.column) (codes ",\"line\":") (decimal c.args.line) (125 ∷ [])
    c.in_ok-push_column.ensures.ok c.in_ok-push_text.ensures.ok c.in_ok-push_number.ensures.ok c.in_ok-push_byte.ensures.ok
    ∙ ap (λ b. old ++ b) (place_text-parts c.args.line c.args.column)

pub returns-clause-grows : goal.returns-clause-grows
returns-clause-grows c =
    grows_then _ _ _ c.in_ok-push_column.ensures.grows (grows_then _ _ _ c.in_ok-push_text.ensures.grows (grows_then _ _ _ c.in_ok-push_number.ensures.grows (c.in_ok-push_byte.ensures.grows)))
