use Rattle.std.proofs.Common.{◌<◌, ◌≤◌, length, ap, ◌∙◌, arith}
use Rattle.tables.specs.Tables.{place_where}
use Rattle.list_shelf.specs.Lagging.{up_to_date}
use Rattle.list_shelf.specs.Shelves.{is_of, with_lag}
use Rattle.list_shelf.proofs.CodeLemmas.{row-lags, place-set, none-set}
use Rattle.list_shelf.proofs.rows.bring_up.Goals as goal

pub returns-then-at-len : goal.returns-then-at-len
returns-then-at-len c =
    let past : length c.args.rows.now.items ≤ c.place-at.result = omega (arith, c.if-at-len.true, c.len.ensures, c.args.rows.now.ok.0) in
    none-set (is_of c.args.holder) (with_lag (up_to_date c.args.log.now)) c.args.rows.now.items c.place-at.result (c.place-at.ensures ∙ ap (place_where (is_of c.args.holder)) c.as_slice.ensures.value) past

pub bring_row_up-requires : goal.bring_row_up-requires
bring_row_up-requires c =
    let below : c.place-at.result < length c.args.rows.now.items = omega (arith, c.if-at-len.false, c.len.ensures, c.args.rows.now.ok.0) in
    row-lags c.args.log.now c.args.rows.now.items c.place-at.result c.index_mut-row.result.now c.requires below c.index_mut-row.ensures.value

pub returns : goal.returns
returns c =
    let below : c.place-at.result < length c.args.rows.now.items = omega (arith, c.if-at-len.false, c.len.ensures, c.args.rows.now.ok.0) in
    place-set (is_of c.args.holder) (with_lag (up_to_date c.args.log.now)) c.args.rows.now.items c.place-at.result c.index_mut-row.result.now c.bring_row_up.new.row
    (c.place-at.ensures ∙ ap (place_where (is_of c.args.holder)) c.as_slice.ensures.value) below c.index_mut-row.ensures.value c.bring_row_up.ensures
