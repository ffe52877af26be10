use Rattle.std.proofs.Common.{◌<◌, ◌≤◌, ℕ, map, sym, arith, lt-ltb, le-ltb}
use Rattle.text_model.specs.declared.TheConstants.{MAX_CHARS}
use Rattle.selection_set.specs.Listing.{ranges_of}
use Rattle.selection_set.proofs.HeldLemmas.{zero_sel}
use Rattle.edit_ops.specs.Aligning.{cursor_column, lacking}
use Rattle.edit_ops.proofs.AligningLemmas.{lacking-next, lacking-none}
use Rattle.edit_ops.proofs.aligning.lack_too_much.Goals as goal

pub returns-then-room-count : goal.returns-then-room-count
returns-then-room-count c =
    let all : ℕ = lacking c.args.last (map (cursor_column c.args.lines.now c.args.tabstop.columns) (ranges_of c.args.lines.now c.args.sels.now)) in
    let long : MAX_CHARS < all =
    omega (
      arith,
      c.loop-sel.invariant,
      lacking-next c.args.lines.now c.args.tabstop.columns c.args.last c.args.sels.now c.loop-sel.sel-index zero_sel c.loop-sel-test.true,
      c.lacking_before-count.ensures,
      c.if-room-count.true,
    ) in
    sym (lt-ltb MAX_CHARS all long)

pub loop-sel-preserved : goal.loop-sel-preserved
loop-sel-preserved c =
    omega (
      arith,
      c.loop-sel.invariant,
      lacking-next c.args.lines.now c.args.tabstop.columns c.args.last c.args.sels.now c.loop-sel.sel-index zero_sel c.loop-sel-test.true,
      c.lacking_before-count.ensures,
      c.if-room-count.false,
    )

pub returns : goal.returns
returns c =
    let all : ℕ = lacking c.args.last (map (cursor_column c.args.lines.now c.args.tabstop.columns) (ranges_of c.args.lines.now c.args.sels.now)) in
    let short : all ≤ MAX_CHARS = omega (arith, c.loop-sel.invariant, lacking-none c.args.lines.now c.args.tabstop.columns c.args.last c.args.sels.now c.loop-sel.sel-index c.loop-sel-test.false) in
    sym (le-ltb MAX_CHARS all short)
