use Rattle.std.proofs.Common.{◌<◌, ◌≤◌, length, ap, ◌∙◌, arith}
use Rattle.tables.specs.Tables.{place_where}
use Rattle.tables.proofs.TableLemmas.{put-at, put-past}
use Rattle.scope_options.specs.Settings.{is_at}
use Rattle.scope_options.proofs.options.Options.put.Goals as goal

pub returns-then-at-len-clause-ok : goal.returns-then-at-len-clause-ok
returns-then-at-len-clause-ok c =
    let found = c.place-at.ensures ∙ ap (λ name. place_where (is_at c.args.row.scope name) c.as_slice.result.now) c.as_str.ensures ∙ ap (place_where (is_at c.args.row.scope c.args.row.name)) c.as_slice.ensures.value in
    let inside : c.place-at.result < length c.self.inside.rows.items = omega arith in
    put-at (is_at c.args.row.scope c.args.row.name) c.args.row c.self.inside.rows.items c.args.self.now c.place-at.result c.self.view_is found inside

pub returns-clause-ok : goal.returns-clause-ok
returns-clause-ok c =
    let found = c.place-at.ensures ∙ ap (λ name. place_where (is_at c.args.row.scope name) c.as_slice.result.now) c.as_str.ensures ∙ ap (place_where (is_at c.args.row.scope c.args.row.name)) c.as_slice.ensures.value in
    let past : length c.self.inside.rows.items ≤ c.place-at.result = omega arith in
    c.in_ok-push.ensures.items ∙ put-past (is_at c.args.row.scope c.args.row.name) c.args.row c.self.inside.rows.items c.args.self.now c.place-at.result c.self.view_is found past
