use Rattle.std.proofs.Common.{◌<◌, ◌≤◌, length, ap, ◌∙◌, arith}
use Rattle.tables.specs.Tables.{place_where}
use Rattle.tables.proofs.TableLemmas.{put-at, put-past}
use Rattle.highlight_paint.specs.Painters.{Highlighter}
use Rattle.highlight_paint.specs.Highlighters.{is_highlighter}
use Rattle.highlight_paint.proofs.highlighters.Highlighters.put.Goals as goal

pub returns-then-at-len-clause-ok : goal.returns-then-at-len-clause-ok
returns-then-at-len-clause-ok g c =
    let found = c.highlighter_place-at.ensures ∙ ap (λ path. place_where (is_highlighter c.row.inside.scope path) c.as_slice.result.now) c.as_str.ensures
    ∙ ap (λ (r : Highlighter). place_where (is_highlighter r.scope r.path) c.as_slice.result.now) c.row.view_is ∙ ap (place_where (is_highlighter c.args.row.scope c.args.row.path)) c.as_slice.ensures.value in
    let inside : c.highlighter_place-at.result < length c.self.inside.rows.items = omega arith in
    put-at (is_highlighter c.args.row.scope c.args.row.path) c.args.row c.self.inside.rows.items c.args.self.now c.highlighter_place-at.result c.self.view_is found inside

pub returns-clause-ok : goal.returns-clause-ok
returns-clause-ok g c =
    let found = c.highlighter_place-at.ensures ∙ ap (λ path. place_where (is_highlighter c.row.inside.scope path) c.as_slice.result.now) c.as_str.ensures
    ∙ ap (λ (r : Highlighter). place_where (is_highlighter r.scope r.path) c.as_slice.result.now) c.row.view_is ∙ ap (place_where (is_highlighter c.args.row.scope c.args.row.path)) c.as_slice.ensures.value in
    let past : length c.self.inside.rows.items ≤ c.highlighter_place-at.result = omega arith in
    c.in_ok-push.ensures.items ∙ put-past (is_highlighter c.args.row.scope c.args.row.path) c.args.row c.self.inside.rows.items c.args.self.now c.highlighter_place-at.result c.self.view_is found past
