use Rattle.std.proofs.Common.{◌<◌, ◌≤◌, length, refl, ap, ◌∙◌, arith}
use Rattle.tables.specs.Tables.{place_where}
use Rattle.tables.proofs.TableLemmas.{put-at, put-past}
use Rattle.scope_tables.specs.Definitions.{is_definition_of, with_definition}
use Rattle.scope_tables.proofs.ChangeLemmas.{with-definitions}
use Rattle.scope_tables.proofs.session_tables.Tables.put_definition.Goals as goal

pub returns-then-at-len-clause-ok : goal.returns-then-at-len-clause-ok
returns-then-at-len-clause-ok g c =
    let rows = c.self.inside.definitions.items in
    let found = c.definition_place-at.ensures ∙ ap (λ name. place_where (is_definition_of name) c.as_slice.result.now) c.as_str.ensures ∙ ap (place_where (is_definition_of c.args.row.name)) c.as_slice.ensures.value in
    let inside : c.definition_place-at.result < length c.self.inside.definitions.items = omega arith in
    with-definitions _ _ (with_definition c.args.row.name c.args.row.allowed c.args.row.commands) _ c.self.view_is (put-at (is_definition_of c.args.row.name) c.args.row rows rows c.definition_place-at.result refl found inside)

pub returns-clause-ok : goal.returns-clause-ok
returns-clause-ok g c =
    let rows = c.self.inside.definitions.items in
    let found = c.definition_place-at.ensures ∙ ap (λ name. place_where (is_definition_of name) c.as_slice.result.now) c.as_str.ensures ∙ ap (place_where (is_definition_of c.args.row.name)) c.as_slice.ensures.value in
    let past : length c.self.inside.definitions.items ≤ c.definition_place-at.result = omega arith in
    with-definitions _ _ (with_definition c.args.row.name c.args.row.allowed c.args.row.commands) _ c.self.view_is (c.in_ok-push.ensures.items ∙ put-past (is_definition_of c.args.row.name) c.args.row rows rows c.definition_place-at.result refl found past)
