use Rattle.std.proofs.Common.{◌+◌, ◌<◌, [], ◌∷◌, ℕ, List, length, get_or, map, ap, ◌∙◌, arith}
use Rattle.std.specs.Prelude.{string_bytes, encode_utf8_all}
use Rattle.std.proofs.lemmas.List.{length_push, map-append}
use Rattle.selection_set.specs.Inside.{range_of}
use Rattle.edit_ops.specs.Reading.{text_of_range}
use Rattle.edit_ops.proofs.EachLemmas.{no_sel}
use Rattle.edit_ops.proofs.ReadingLemmas.{texts-more}
use Rattle.edit_ops.proofs.reading.strings.Goals as goal

pub loop-sel-preserved : goal.loop-sel-preserved
loop-sel-preserved c =
    let text : List ℕ = c.args.lines.now in
    let i : ℕ = c.loop-sel.sel-index in
    let here : i < length c.args.sels.now.list = omega (arith, ap length c.as_slice-sel-items.ensures.value) in
    let pushed = c.push_reserved.ensures.items in
    record {
      so_far = ap (map (λ s. string_bytes s)) pushed ∙ map-append (λ s. string_bytes s) c.loop-sel.strings.items (c.in_ok-string_of.field-0 ∷ [])
          ∙ texts-more (λ s. encode_utf8_all s) text c.args.sels.now.list (map (λ s. string_bytes s) c.loop-sel.strings.items) (string_bytes c.in_ok-string_of.field-0) no_sel i here c.loop-sel.invariant.so_far
          (c.in_ok-string_of.ensures ∙ ap (λ sels. encode_utf8_all (text_of_range text (range_of text (get_or sels i no_sel)))) c.as_slice-sel-items.ensures.value);
      count = ap length pushed ∙ length_push c.loop-sel.strings.items c.in_ok-string_of.field-0 ∙ ap (λ n. n + 1) c.loop-sel.invariant.count;
      reserved = omega (arith, c.push_reserved.ensures.capacity, c.loop-sel.invariant.reserved);
    }
