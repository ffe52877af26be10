use Rattle.std.proofs.Common.{◌≡◌, ◌+◌, ◌<◌, ℕ, List, length, get_or, ap, ◌∙◌, arith, take_all, take, subst, sym}
use Rattle.std.specs.List.{AllByRecursion}
use Rattle.std.proofs.lemmas.List.{length_push}
use Rattle.selection_set.specs.Listing.{ranges_of}
use Rattle.buffer_store.specs.Buffers.{flat_splices, IsSpliceOf}
use Rattle.edit_ops.specs.Erasing.{erasure_at, erasures}
use Rattle.edit_ops.proofs.EachLemmas.{each-more, ends-more, held-splices, no_sel}
use Rattle.edit_ops.proofs.ErasingLemmas.{erasures-keep}
use Rattle.edit_ops.proofs.erasing.erase.Goals as goal

pub loop-sel-preserved : goal.loop-sel-preserved
loop-sel-preserved c =
    let text : List ℕ = c.args.lines.now in
    let i : ℕ = c.loop-sel.sel-index in
    let here : i < length c.args.sels.now.list = omega (arith, ap length c.as_slice-sel-items.ensures.value) in
    let pushed = c.push_reserved.ensures.items in
    record {
      so_far = ap (flat_splices text) pushed ∙ each-more (λ n r. erasure_at c.args.what r) text c.args.sels.now.list c.loop-sel.splices.items c.erasure_at.result (get_or c.as_slice-sel-items.result.now i no_sel) no_sel i here
          (ap (λ xs. get_or xs i no_sel) c.as_slice-sel-items.ensures.value) c.loop-sel.invariant.so_far c.erasure_at.ensures.erases;
      ends = subst (AllByRecursion (IsSpliceOf text)) (sym pushed) (ends-more text c.loop-sel.splices.items c.erasure_at.result c.loop-sel.invariant.ends c.erasure_at.ensures.ends);
      count = ap length pushed ∙ length_push c.loop-sel.splices.items c.erasure_at.result ∙ ap (λ n. n + 1) c.loop-sel.invariant.count;
      reserved = omega (arith, c.push_reserved.ensures.capacity, c.loop-sel.invariant.reserved);
    }

pub returns-clause-splices : goal.returns-clause-splices
returns-clause-splices c =
    let all : take c.loop-sel.sel-index c.args.sels.now.list ≡ c.args.sels.now.list = take_all c.loop-sel.sel-index c.args.sels.now.list (omega (arith, ap length c.as_slice-sel-items.ensures.value)) in
    held-splices (λ n r. erasure_at c.args.what r) c.args.lines.now c.args.sels.now c.loop-sel.splices.items c.requires (erasures-keep (length c.args.lines.now) c.args.what)
    (c.loop-sel.invariant.so_far ∙ ap (λ sels. erasures c.args.what (ranges_of c.args.lines.now sels)) all) c.loop-sel.invariant.ends
