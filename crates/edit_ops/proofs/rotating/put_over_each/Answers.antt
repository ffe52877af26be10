use Rattle.std.proofs.Common.{◌≡◌, ◌+◌, ◌<◌, ◌++◌, ◌∷◌, [], ℕ, List, length, get_or, ap, ◌∙◌, arith, take_all, take, subst, sym, append_assoc, length-append}
use Rattle.std.specs.List.{AllByRecursion}
use Rattle.std.specs.Prelude.{slice_index_or}
use Rattle.std.specs.Vec.Iter.{into_iter_items}
use Rattle.std.proofs.lemmas.List.{length_push}
use Rattle.selection_set.specs.declared.sel.Sel.{Sel}
use Rattle.selection_set.specs.Inside.{IsInside, range_of}
use Rattle.selection_set.specs.Listing.{ranges_of}
use Rattle.buffer_store.specs.Buffers.{flat_splices, IsSpliceOf}
use Rattle.edit_ops.specs.Putting.{put_over}
use Rattle.edit_ops.specs.Rotating.{put_over_each}
use Rattle.edit_ops.proofs.EachLemmas.{each-more, ends-more, held-splices, inside-at, no_sel}
use Rattle.edit_ops.proofs.RotatingLemmas.{over-keeps, text-next}
use Rattle.edit_ops.proofs.rotating.put_over_each.Goals as goal

pub put_over-requires : goal.put_over-requires
put_over-requires c =
    let sels : List Sel = c.args.sels.now.list in
    let n : ℕ = c.len-in-loop-text.result in
    let steps : into_iter_items c.loop-text.text-iterator ≡ c.in-Some.text ∷ into_iter_items c.next.new.self = c.in-Some.ensures.steps.0 in
    let here : n < length sels =
    omega (arith, c.loop-text.splices.ok.0, c.len-in-loop-text.ensures, c.loop-text.invariant.count, ap length c.loop-text.invariant.all, length-append c.loop-text.yielded (into_iter_items c.loop-text.text-iterator), ap length steps, c.requires.one_each) in
    subst (IsInside c.args.lines.now) (sym (c.at-sel.ensures no_sel)) (inside-at c.args.lines.now sels n no_sel c.requires.held.inside here)

pub loop-text-preserved : goal.loop-text-preserved
loop-text-preserved c =
    let text : List ℕ = c.args.lines.now in
    let sels : List Sel = c.args.sels.now.list in
    let texts : List (List ℕ) = c.args.texts.items in
    let was = c.loop-text.invariant in
    let done : List (List ℕ) = c.loop-text.yielded in
    let rest : List (List ℕ) = into_iter_items c.next.new.self in
    let steps : into_iter_items c.loop-text.text-iterator ≡ c.in-Some.text ∷ rest = c.in-Some.ensures.steps.0 in
    let parts : done ++ c.in-Some.text ∷ rest ≡ texts = ap (λ ts. done ++ ts) (sym steps) ∙ was.all in
    let here : length done < length sels = omega (arith, ap length parts, length-append done (c.in-Some.text ∷ rest), c.requires.one_each) in
    let number : c.len-in-loop-text.result ≡ length done = omega (arith, c.loop-text.splices.ok.0, c.len-in-loop-text.ensures, was.count) in
    let pushed = c.push_reserved.ensures.items in
    record {
      all = append_assoc done (c.in-Some.text ∷ []) rest ∙ parts;
      left = omega (arith, was.left, ap length steps, c.in-Some.ensures.steps.1);
      so_far = ap (flat_splices text) pushed ∙ each-more (λ n r. put_over (slice_index_or texts n []) r) text sels c.loop-text.splices.items c.put_over.result c.at-sel.result no_sel (length done) here
          (c.at-sel.ensures no_sel ∙ ap (λ n. get_or sels n no_sel) number) was.so_far (c.put_over.ensures.puts ∙ ap (λ s. put_over s (range_of text c.at-sel.result)) (text-next done rest texts c.in-Some.text parts))
          ∙ ap (λ n. put_over_each texts (ranges_of text (take n sels))) (sym (length_push done c.in-Some.text));
      ends = subst (AllByRecursion (IsSpliceOf text)) (sym pushed) (ends-more text c.loop-text.splices.items c.put_over.result was.ends c.put_over.ensures.ends);
      count = ap length pushed ∙ length_push c.loop-text.splices.items c.put_over.result ∙ ap (λ n. n + 1) was.count ∙ sym (length_push done c.in-Some.text);
      reserved = omega (arith, c.push_reserved.ensures.capacity, was.reserved);
    }

pub returns-clause-splices : goal.returns-clause-splices
returns-clause-splices c =
    let text : List ℕ = c.args.lines.now in
    let sels : List Sel = c.args.sels.now.list in
    let texts : List (List ℕ) = c.args.texts.items in
    let was = c.loop-text.invariant in
    let done : List (List ℕ) = c.loop-text.yielded in
    let none : length (into_iter_items c.loop-text.text-iterator) ≡ 0 = sym was.left ∙ c.in-None.ensures.steps.0 in
    let all : take (length done) sels ≡ sels = take_all (length done) sels (omega (arith, ap length was.all, length-append done (into_iter_items c.loop-text.text-iterator), none, c.requires.one_each)) in
    held-splices (λ n r. put_over (slice_index_or texts n []) r) text c.args.sels.now c.loop-text.splices.items c.requires.held (over-keeps (length text) (λ n r. slice_index_or texts n []))
    (was.so_far ∙ ap (λ rs. put_over_each texts (ranges_of text rs)) all) was.ends
