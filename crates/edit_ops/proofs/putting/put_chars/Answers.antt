use Rattle.std.proofs.Common.{◌≡◌, ◌+◌, ◌<◌, ℕ, List, length, ap, ap₂, ◌∙◌, sym, subst, arith, take, take_all}
use Rattle.std.specs.List.{AllByRecursion}
use Rattle.std.proofs.lemmas.List.{length_push}
use Rattle.selection_set.specs.Inside.{IsInside, range_of}
use Rattle.selection_set.specs.Listing.{ranges_of}
use Rattle.buffer_store.specs.Buffers.{flat_splices, IsSpliceOf}
use Rattle.edit_ops.specs.Putting.{nth_string, some_is_line, put_at, puts}
use Rattle.edit_ops.proofs.EachLemmas.{each-more, ends-more, held-splices, inside-at, no_sel}
use Rattle.edit_ops.proofs.PuttingLemmas.{puts-keep}
use Rattle.edit_ops.proofs.putting.put_chars.Goals as goal

pub put_at-requires : goal.put_at-requires
put_at-requires c =
    let here : c.loop-n.n < length c.args.sels.now.list = omega (arith, c.len-n-end.ensures.value) in
    subst (IsInside c.args.lines.now) (sym (c.at.ensures no_sel)) (inside-at c.args.lines.now c.args.sels.now.list c.loop-n.n no_sel c.requires.inside here)

pub loop-n-preserved : goal.loop-n-preserved
loop-n-preserved c =
    let text : List ℕ = c.args.lines.now in
    let strings : List (List ℕ) = c.args.strings.now in
    let here : c.loop-n.n < length c.args.sels.now.list = omega (arith, c.len-n-end.ensures.value) in
    let pushed = c.push_reserved.ensures.items in
    record {
      so_far = ap (flat_splices text) pushed ∙ each-more (λ n r. put_at text (some_is_line strings) c.args.how (nth_string strings n) r) text c.args.sels.now.list c.loop-n.splices.items c.put_at.result c.at.result no_sel c.loop-n.n here
          (c.at.ensures no_sel) c.loop-n.invariant.so_far (c.put_at.ensures.puts ∙ ap₂ (λ whole s. put_at text whole c.args.how s (range_of text c.at.result)) c.some_is_line-whole.ensures c.in_ok-text.ensures);
      ends = subst (AllByRecursion (IsSpliceOf text)) (sym pushed) (ends-more text c.loop-n.splices.items c.put_at.result c.loop-n.invariant.ends c.put_at.ensures.ends);
      count = ap length pushed ∙ length_push c.loop-n.splices.items c.put_at.result ∙ ap (λ n. n + 1) c.loop-n.invariant.count;
      reserved = omega (arith, c.push_reserved.ensures.capacity, c.loop-n.invariant.reserved);
    }

pub returns-clause-splices : goal.returns-clause-splices
returns-clause-splices c =
    let strings : List (List ℕ) = c.args.strings.now in
    let all : take c.loop-n.n c.args.sels.now.list ≡ c.args.sels.now.list = take_all c.loop-n.n c.args.sels.now.list (omega (arith, c.len-n-end.ensures.value)) in
    held-splices (λ n r. put_at c.args.lines.now (some_is_line strings) c.args.how (nth_string strings n) r) c.args.lines.now c.args.sels.now c.loop-n.splices.items c.requires
    (puts-keep c.args.lines.now (some_is_line strings) c.args.how (nth_string strings))
    (c.loop-n.invariant.so_far ∙ ap (λ sels. puts c.args.lines.now c.args.how strings (ranges_of c.args.lines.now sels)) all) c.loop-n.invariant.ends
