use Rattle.std.proofs.Common.{◌+◌, ◌<◌, ℕ, List, length, get_or, ap, ◌∙◌, arith}
use Rattle.std.proofs.lemmas.List.{length_push}
use Rattle.selection_set.specs.Inside.{range_of}
use Rattle.edit_ops.specs.Reading.{text_of_range}
use Rattle.edit_ops.proofs.EachLemmas.{no_sel}
use Rattle.edit_ops.proofs.ReadingLemmas.{texts-next}
use Rattle.edit_ops.proofs.reading.texts.Goals as goal

pub loop-sel-preserved : goal.loop-sel-preserved
loop-sel-preserved c =
    let text : List ℕ = c.args.lines.now in
    let i : ℕ = c.loop-sel.sel-index in
    let here : i < length c.args.sels.now.list = omega (arith, ap length c.as_slice-sel-items.ensures.value) in
    let pushed = c.push_reserved.ensures.items in
    record {
      so_far = pushed ∙ texts-next text c.args.sels.now.list c.loop-sel.texts.items c.in_ok-text_of.field-0 no_sel i here c.loop-sel.invariant.so_far
          (c.in_ok-text_of.ensures ∙ ap (λ sels. text_of_range text (range_of text (get_or sels i no_sel))) c.as_slice-sel-items.ensures.value);
      count = ap length pushed ∙ length_push c.loop-sel.texts.items c.in_ok-text_of.field-0 ∙ ap (λ n. n + 1) c.loop-sel.invariant.count;
      reserved = omega (arith, c.push_reserved.ensures.capacity, c.loop-sel.invariant.reserved);
    }
