use Rattle.std.proofs.Common.{not, rules}
use Rattle.std.proofs.lemmas.Fn.{filter_same}
use Rattle.scope_tables.specs.Hooks.{NumberedHook}
use Rattle.scope_tables.specs.Hooks.{is_grouped, without_group}
use Rattle.scope_tables.proofs.ChangeLemmas.{with-hooks}
use Rattle.scope_tables.proofs.session_tables.Tables.remove_hooks.Goals as goal

pub returns : goal.returns
returns g c =
    with-hooks _ _ (without_group c.args.scope c.args.group.now) _ c.self.view_is
    (filter_same _ (λ (x : NumberedHook). not (is_grouped c.args.scope c.args.group.now x)) _ (λ x b f' k. search rules) _ _ c.retain.ensures.filtered)
