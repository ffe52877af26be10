use Rattle.std.proofs.Common.{◌≡◌, ◌+◌, ◌<◌, [], ◌∷◌, ℕ, List, length, get_or, ap, ap₂, ◌∙◌, arith, take_all, take, subst, sym}
use Rattle.std.specs.List.{AllByRecursion}
use Rattle.std.proofs.lemmas.List.{length_push}
use Rattle.selection_set.specs.declared.sel.Sel.{Sel}
use Rattle.selection_set.specs.Listing.{ranges_of}
use Rattle.buffer_store.specs.Buffers.{flat_splice, flat_splices, IsSpliceOf}
use Rattle.edit_ops.specs.Putting.{put_in_at}
use Rattle.edit_ops.specs.Opening.{opened_from, opens}
use Rattle.edit_ops.proofs.EachLemmas.{each-more, ends-more, held-splices, no_sel}
use Rattle.edit_ops.proofs.OpeningLemmas.{opens-keep}
use Rattle.edit_ops.proofs.opening.open.Goals as goal

pub loop-sel-preserved : goal.loop-sel-preserved
loop-sel-preserved c =
    let text : List ℕ = c.args.lines.now in
    let i : ℕ = c.loop-sel.sel-index in
    let here : i < length c.args.sels.now.list = omega (arith, ap length c.as_slice-sel-items.ensures.value) in
    let sel : Sel = get_or c.as_slice-sel-items.result.now i no_sel in
    let pushed = c.push_reserved.ensures.items in
    record {
      so_far = ap (flat_splices text) pushed ∙ each-more (λ n r. put_in_at (opened_from text c.args.direction r) (10 ∷ [])) text c.args.sels.now.list c.loop-sel.splices.items c.put_in_at.result sel no_sel i here
          (ap (λ xs. get_or xs i no_sel) c.as_slice-sel-items.ensures.value) c.loop-sel.invariant.so_far (ap (flat_splice text) c.put_in_at.ensures ∙ ap₂ put_in_at c.opened_from.ensures.value c.in_ok-newline.ensures);
      ends = subst (AllByRecursion (IsSpliceOf text)) (sym pushed) (ends-more text c.loop-sel.splices.items c.put_in_at.result c.loop-sel.invariant.ends
          (subst (IsSpliceOf text) (sym c.put_in_at.ensures) (record { from = c.opened_from.ensures.place; «to» = c.opened_from.ensures.place })));
      count = ap length pushed ∙ length_push c.loop-sel.splices.items c.put_in_at.result ∙ ap (λ n. n + 1) c.loop-sel.invariant.count;
      reserved = omega (arith, c.push_reserved.ensures.capacity, c.loop-sel.invariant.reserved);
    }

pub returns-clause-splices : goal.returns-clause-splices
returns-clause-splices c =
    let all : take c.loop-sel.sel-index c.args.sels.now.list ≡ c.args.sels.now.list = take_all c.loop-sel.sel-index c.args.sels.now.list (omega (arith, ap length c.as_slice-sel-items.ensures.value)) in
    held-splices (λ n r. put_in_at (opened_from c.args.lines.now c.args.direction r) (10 ∷ [])) c.args.lines.now c.args.sels.now c.loop-sel.splices.items c.requires (opens-keep c.args.lines.now c.args.direction (10 ∷ []))
    (c.loop-sel.invariant.so_far ∙ ap (λ sels. opens c.args.lines.now c.args.direction (ranges_of c.args.lines.now sels)) all) c.loop-sel.invariant.ends
