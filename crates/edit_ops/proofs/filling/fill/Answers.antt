use Rattle.std.proofs.Common.{◌≡◌, ◌+◌, ◌-◌, ◌<◌, ℕ, List, length, get_or, ap, ◌∙◌, arith, take_all, take, subst, sym}
use Rattle.std.specs.Prelude.{replicate}
use Rattle.std.specs.List.{AllByRecursion}
use Rattle.std.proofs.lemmas.List.{length_push}
use Rattle.selection_set.specs.declared.sel.Sel.{Sel}
use Rattle.selection_set.specs.Inside.{IsInside, range_of}
use Rattle.selection_set.specs.Listing.{ranges_of}
use Rattle.buffer_store.specs.Buffers.{flat_splices, IsSpliceOf}
use Rattle.edit_ops.specs.Putting.{put_over}
use Rattle.edit_ops.specs.Filling.{filling_at, fillings}
use Rattle.edit_ops.proofs.EachLemmas.{each-more, ends-more, held-splices, inside-at, no_sel}
use Rattle.edit_ops.proofs.ReadingLemmas.{length-text_of}
use Rattle.edit_ops.proofs.RotatingLemmas.{over-keeps}
use Rattle.edit_ops.proofs.filling.fill.Goals as goal

pub loop-sel-preserved : goal.loop-sel-preserved
loop-sel-preserved c =
    let text : List ℕ = c.args.lines.now in
    let i : ℕ = c.loop-sel.sel-index in
    let here : i < length c.args.sels.now.list = omega (arith, ap length c.as_slice-sel-items.ensures.value) in
    let at : get_or c.as_slice-sel-items.result.now i no_sel ≡ get_or c.args.sels.now.list i no_sel = ap (λ xs. get_or xs i no_sel) c.as_slice-sel-items.ensures.value in
    let sel : Sel = get_or c.as_slice-sel-items.result.now i no_sel in
    let inside : IsInside text sel = subst (IsInside text) (sym at) (inside-at text c.args.sels.now.list i no_sel c.requires.inside here) in
    let count : length c.in_ok-text.text ≡ (range_of text sel).high + 1 - (range_of text sel).low = ap length c.in_ok-text.ensures ∙ length-text_of text sel inside in
    let pushed = c.push_reserved.ensures.items in
    record {
      so_far = ap (flat_splices text) pushed ∙ each-more (λ n r. filling_at c.args.c r) text c.args.sels.now.list c.loop-sel.splices.items c.put_over.result sel no_sel i here
          at c.loop-sel.invariant.so_far (c.put_over.ensures.puts ∙ ap (λ s. put_over s (range_of text sel)) (c.in_ok-filled.ensures ∙ ap (λ n. replicate n c.args.c) (c.len-in-loop-sel.ensures ∙ count)));
      ends = subst (AllByRecursion (IsSpliceOf text)) (sym pushed) (ends-more text c.loop-sel.splices.items c.put_over.result c.loop-sel.invariant.ends c.put_over.ensures.ends);
      count = ap length pushed ∙ length_push c.loop-sel.splices.items c.put_over.result ∙ ap (λ n. n + 1) c.loop-sel.invariant.count;
      reserved = omega (arith, c.push_reserved.ensures.capacity, c.loop-sel.invariant.reserved);
    }

pub returns-clause-splices : goal.returns-clause-splices
returns-clause-splices c =
    let all : take c.loop-sel.sel-index c.args.sels.now.list ≡ c.args.sels.now.list = take_all c.loop-sel.sel-index c.args.sels.now.list (omega (arith, ap length c.as_slice-sel-items.ensures.value)) in
    held-splices (λ n r. filling_at c.args.c r) c.args.lines.now c.args.sels.now c.loop-sel.splices.items c.requires (over-keeps (length c.args.lines.now) (λ n r. replicate (r.high + 1 - r.low) c.args.c))
    (c.loop-sel.invariant.so_far ∙ ap (λ sels. fillings c.args.c (ranges_of c.args.lines.now sels)) all) c.loop-sel.invariant.ends
