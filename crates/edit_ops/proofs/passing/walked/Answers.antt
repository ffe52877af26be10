use Rattle.std.proofs.Common.{◌≡◌, get_or, ap, ap₂, sym, ◌∙◌, arith}
use Rattle.std.proofs.lemmas.List.{get_or_read}
use Rattle.text_model.specs.declared.coords.Coord.{Coord}
use Rattle.text_model.specs.Coords.{after}
use Rattle.line_buffer.proofs.InsertLemmas.{reached-push, after-line-le, after-column-le}
use Rattle.edit_ops.proofs.passing.walked.Goals as goal

pub loop-c-preserved : goal.loop-c-preserved
loop-c-preserved c =
    let here : c.c-item.result ≡ get_or c.args.chars.now c.loop-c.c-index 0 = get_or_read c.args.chars.now c.loop-c.c-index c.c-item.result c.loop-c-test.true c.c-item.is 0 in
    record {
      so_far = c.stepped-at.ensures ∙ ap₂ after c.loop-c.invariant.so_far here ∙ sym (reached-push c.args.from c.args.chars.now c.loop-c.c-index c.loop-c-test.true);
      line = omega (arith, ap (λ (x : Coord). x.line) c.stepped-at.ensures, after-line-le c.loop-c.at c.c-item.result, c.loop-c.invariant.line);
      column = omega (arith, ap (λ (x : Coord). x.column) c.stepped-at.ensures, after-column-le c.loop-c.at c.c-item.result, c.loop-c.invariant.column);
    }
