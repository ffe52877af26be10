use Rattle.std.proofs.Common.{◌≡◌, ℕ, ◌+◌, ◌<◌, ◌∙◌, List, length, get_or, set, ap, subst, sym, arith}
use Rattle.selection_set.specs.declared.sel.Sel.{Sel}
use Rattle.selection_set.specs.Listing.{Listed}
use Rattle.selection_set.proofs.HeldLemmas.{all-at, zero_sel}
use Rattle.selection_map.specs.Carrying.{AreSmall}
use Rattle.selection_map.specs.Rebasing.{mapped_sel}
use Rattle.selection_map.proofs.FrontLemmas.{mapped_front, front-length, front-at, front-step, front-all}
use Rattle.selection_map.proofs.ListLemmas.{lists-settle}
use Rattle.selection_map.proofs.lists.map_sels.Goals as goal

-- the element at the loop's place is the one that was there at first
same_at : (f : Sel → Sel) (list now : List Sel) (n : ℕ) (at : Sel) → now ≡ mapped_front n f list → ((d : Sel) → at ≡ get_or now n d) → at ≡ get_or list n zero_sel
same_at f list now n at e g = g zero_sel ∙ ap (λ l. get_or l n zero_sel) e ∙ front-at n f list zero_sel

pub map_sel-moved-requires : goal.map_sel-moved-requires
map_sel-moved-requires c =
    let P : Sel → Type 0 = λ s. AreSmall s c.args.shift.now in
    subst P (sym (same_at (mapped_sel c.args.shift.now) c.args.sels.now.list c.loop-n.sels.list c.loop-n.n c.at.result c.loop-n.invariant.front c.at.ensures))
    (all-at P c.args.sels.now.list c.loop-n.n zero_sel (omega (arith, c.loop-n-test.true, c.len-n-end.ensures.value)) c.requires)

pub loop-n-preserved : goal.loop-n-preserved
loop-n-preserved c =
    let f : Sel → Sel = mapped_sel c.args.shift.now in
    let before : List Sel = c.args.sels.now.list in
    let below : c.loop-n.n < length before = omega (arith, c.loop-n-test.true, c.len-n-end.ensures.value) in
    let moved : c.map_sel-moved.result ≡ f (get_or before c.loop-n.n zero_sel) = c.map_sel-moved.ensures.mapped ∙ ap f (same_at f before c.loop-n.sels.list c.loop-n.n c.at.result c.loop-n.invariant.front c.at.ensures) in
    let front : c.put.new.self.list ≡ mapped_front (c.loop-n.n + 1) f before = ap (λ (s : Listed). s.list) c.put.ensures ∙ ap (λ l. set l c.loop-n.n c.map_sel-moved.result) c.loop-n.invariant.front ∙ front-step c.loop-n.n f before c.map_sel-moved.result zero_sel below moved in
    record {
      front = front;
      count = ap length front ∙ front-length (c.loop-n.n + 1) f before;
      main = ap (λ (s : Listed). s.main) c.put.ensures ∙ c.loop-n.invariant.main;
    }

pub returns : goal.returns
returns c = record {
  settles = λ old new m f i o. lists-settle old new c.args.shift.now m c.args.sels.now c.loop-n.sels c.settle.new.self
      (c.loop-n.invariant.front ∙ front-all c.loop-n.n (mapped_sel c.args.shift.now) c.args.sels.now.list (omega (arith, c.loop-n-test.false, c.len-n-end.ensures.value)))
      c.loop-n.invariant.main c.settle.ensures.settles f i o;
}
