use Rattle.std.proofs.Common.{◌<◌, ◌≤◌, length, refl, ap, ◌∙◌, arith}
use Rattle.tables.specs.Tables.{place_where}
use Rattle.tables.proofs.TableLemmas.{put-at, put-past}
use Rattle.face_texts.specs.Tables.{is_named}
use Rattle.face_texts.proofs.rows.put.Goals as goal

pub returns-then-at-len-clause-ok : goal.returns-then-at-len-clause-ok
returns-then-at-len-clause-ok c =
    let found = c.place-at.ensures ∙ ap (λ name. place_where (is_named name) c.as_slice.result.now) c.as_str.ensures ∙ ap (place_where (is_named c.args.row.name)) c.as_slice.ensures.value in
    let inside : c.place-at.result < length c.args.rows.now.items = omega arith in
    put-at (is_named c.args.row.name) c.args.row c.args.rows.now.items c.args.rows.now.items c.place-at.result refl found inside

pub returns-clause-ok : goal.returns-clause-ok
returns-clause-ok c =
    let found = c.place-at.ensures ∙ ap (λ name. place_where (is_named name) c.as_slice.result.now) c.as_str.ensures ∙ ap (place_where (is_named c.args.row.name)) c.as_slice.ensures.value in
    let past : length c.args.rows.now.items ≤ c.place-at.result = omega arith in
    c.in_ok-push.ensures.items ∙ put-past (is_named c.args.row.name) c.args.row c.args.rows.now.items c.args.rows.now.items c.place-at.result refl found past
