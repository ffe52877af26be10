use Rattle.std.proofs.Common.{not, rules}
use Rattle.std.proofs.lemmas.Fn.{filter_same}
use Rattle.scope_tables.specs.declared.aliases.Alias.{Alias}
use Rattle.scope_tables.specs.Aliases.{is_alias, without_alias}
use Rattle.scope_tables.proofs.ChangeLemmas.{with-aliases}
use Rattle.scope_tables.proofs.session_tables.Tables.unset_alias.Goals as goal

pub returns : goal.returns
returns g c =
    with-aliases _ _ (without_alias c.args.scope c.args.word.now) _ c.self.view_is
    (filter_same _ (λ (x : Alias). not (is_alias c.args.scope c.args.word.now x)) _ (λ x b f' k. search rules) _ _ c.retain.ensures.filtered)
