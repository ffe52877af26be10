use Rattle.std.proofs.Common.{◌<◌, ◌≤◌, length, refl, ap, ◌∙◌, arith}
use Rattle.tables.specs.Tables.{place_where}
use Rattle.tables.proofs.TableLemmas.{put-at, put-past}
use Rattle.scope_tables.specs.Aliases.{is_alias, with_alias}
use Rattle.scope_tables.proofs.ChangeLemmas.{with-aliases}
use Rattle.scope_tables.proofs.session_tables.Tables.put_alias.Goals as goal

pub returns-then-at-len-clause-ok : goal.returns-then-at-len-clause-ok
returns-then-at-len-clause-ok g c =
    let rows = c.self.inside.aliases.items in
    let found = c.alias_place-at.ensures ∙ ap (λ word. place_where (is_alias c.args.alias.scope word) c.as_slice.result.now) c.as_str.ensures ∙ ap (place_where (is_alias c.args.alias.scope c.args.alias.word)) c.as_slice.ensures.value in
    let inside : c.alias_place-at.result < length c.self.inside.aliases.items = omega arith in
    with-aliases _ _ (with_alias c.args.alias.scope c.args.alias.word c.args.alias.command) _ c.self.view_is (put-at (is_alias c.args.alias.scope c.args.alias.word) c.args.alias rows rows c.alias_place-at.result refl found inside)

pub returns-clause-ok : goal.returns-clause-ok
returns-clause-ok g c =
    let rows = c.self.inside.aliases.items in
    let found = c.alias_place-at.ensures ∙ ap (λ word. place_where (is_alias c.args.alias.scope word) c.as_slice.result.now) c.as_str.ensures ∙ ap (place_where (is_alias c.args.alias.scope c.args.alias.word)) c.as_slice.ensures.value in
    let past : length c.self.inside.aliases.items ≤ c.alias_place-at.result = omega arith in
    with-aliases _ _ (with_alias c.args.alias.scope c.args.alias.word c.args.alias.command) _ c.self.view_is (c.in_ok-push.ensures.items ∙ put-past (is_alias c.args.alias.scope c.args.alias.word) c.args.alias rows rows c.alias_place-at.result refl found past)
