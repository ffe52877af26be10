use Rattle.std.proofs.Common.{◌≡◌, ◌<◌, ◌≤◌, length, get_or, set, ap, ◌∙◌, arith}
use Rattle.selection_map.proofs.FrontLemmas.{front-step, front-all}
use Rattle.list_shelf.specs.declared.rows.ShelfRow.{ShelfRow}
use Rattle.list_shelf.specs.Lagging.{renewed}
use Rattle.list_shelf.specs.Shelves.{with_lag}
use Rattle.list_shelf.proofs.CodeLemmas.{row-lags, front-row}
use Rattle.list_shelf.proofs.rows.renew_all.Goals as goal

pub renew_row-requires : goal.renew_row-requires
renew_row-requires c =
    let below : c.loop-n.n < length c.args.rows.now.items = omega (arith, c.loop-n-test.true, c.len-n-end.ensures, c.args.rows.now.ok.0) in
    row-lags c.args.log.now c.args.rows.now.items c.loop-n.n c.index_mut-row.result.now c.requires below
    (front-row c.loop-n.n (with_lag (renewed c.args.log.now)) c.args.rows.now.items c.loop-n.rows.items c.index_mut-row.result.now c.loop-n.invariant c.index_mut-row.ensures.value)

pub loop-n-preserved : goal.loop-n-preserved
loop-n-preserved c =
    let f : ShelfRow → ShelfRow = with_lag (renewed c.args.log.now) in
    let below : c.loop-n.n < length c.args.rows.now.items = omega (arith, c.loop-n-test.true, c.len-n-end.ensures, c.args.rows.now.ok.0) in
    let first : c.index_mut-row.result.now ≡ get_or c.args.rows.now.items c.loop-n.n c.index_mut-row.result.now = front-row c.loop-n.n f c.args.rows.now.items c.loop-n.rows.items c.index_mut-row.result.now c.loop-n.invariant c.index_mut-row.ensures.value in
    ap (λ l. set l c.loop-n.n c.renew_row.new.row) c.loop-n.invariant
    ∙ front-step c.loop-n.n f c.args.rows.now.items c.renew_row.new.row c.index_mut-row.result.now below (c.renew_row.ensures ∙ ap f first)

pub returns : goal.returns
returns c =
    let past : length c.args.rows.now.items ≤ c.loop-n.n = omega (arith, c.loop-n-test.false, c.len-n-end.ensures, c.args.rows.now.ok.0) in
    c.loop-n.invariant ∙ front-all c.loop-n.n (with_lag (renewed c.args.log.now)) c.args.rows.now.items past
