use Rattle.std.proofs.Common.{◌+◌, ◌≤◌, ◌∷◌, [], length, sym, ap, subst, ◌∙◌, length-append}
use Rattle.window_view.specs.Views.{window_seen}
use Rattle.selection_set.specs.Inside.{IsInside}
use Rattle.selection_set.specs.Listing.{AreInside, ranges_of}
use Rattle.selection_set.proofs.HeldLemmas.{zero_sel, all-at}
use Rattle.key_rows.specs.Each.{each_range}
use Rattle.key_rows.proofs.ListLemmas.{inside-more}
use Rattle.key_rows.proofs.EachLemmas.{moved-step}
use Rattle.key_rows.proofs.each.changed_list.Goals as goal

pub changed-requires : goal.changed-requires
changed-requires c = record { inside = all-at (IsInside c.args.lines.now) c.args.sels.now c.loop-sel.sel-index zero_sel c.loop-sel-test.true c.requires.inside }

pub loop-sel-preserved : goal.loop-sel-preserved
loop-sel-preserved c = record {
  changes =
      ap (ranges_of c.args.lines.now) c.push_reserved.ensures.items
      ∙ moved-step c.args.lines.now (each_range c.args.change (window_seen c.args.window.now) c.args.tabstop.columns c.args.lines.now) c.loop-sel.list.items c.args.sels.now c.changed.result c.loop-sel.sel-index c.loop-sel-test.true c.changed.ensures.changes c.loop-sel.invariant.changes;
  inside = subst (AreInside c.args.lines.now) (sym c.push_reserved.ensures.items) (inside-more c.args.lines.now c.loop-sel.list.items c.changed.result c.loop-sel.invariant.inside c.changed.ensures.inside);
  count = ap length c.push_reserved.ensures.items ∙ length-append c.loop-sel.list.items (c.changed.result ∷ []) ∙ ap (λ k. k + 1) c.loop-sel.invariant.count;
  room = subst (λ k. length c.args.sels.now ≤ k) (sym c.push_reserved.ensures.capacity) c.loop-sel.invariant.room;
}
