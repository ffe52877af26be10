use Rattle.std.proofs.Common.{◌&&◌, not, rules}
use Rattle.std.proofs.lemmas.Fn.{filter_same}
use Rattle.scope_tables.specs.Hooks.{NumberedHook}
use Rattle.scope_tables.specs.Hooks.{is_ref, without_once}
use Rattle.scope_tables.proofs.ChangeLemmas.{with-hooks}
use Rattle.scope_tables.proofs.session_tables.Tables.drop_once.Goals as goal

pub returns : goal.returns
returns g c =
    with-hooks _ _ (without_once c.args.at) _ c.self.view_is
    (filter_same _ (λ (x : NumberedHook). not (is_ref c.args.at x && x.hook.once)) _ (λ x b f' k. search rules) _ _ c.retain.ensures.filtered)
