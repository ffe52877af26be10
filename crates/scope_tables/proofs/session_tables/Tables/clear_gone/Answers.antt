use Rattle.std.proofs.Common.{not, rules}
use Rattle.std.proofs.lemmas.Fn.{filter_same}
use Rattle.scope_tables.specs.declared.aliases.Alias.{Alias}
use Rattle.scope_tables.specs.declared.maps.KeyMap.{KeyMap}
use Rattle.scope_tables.specs.Hooks.{NumberedHook}
use Rattle.scope_tables.specs.Gone.{is_gone}
use Rattle.scope_tables.proofs.ChangeLemmas.{without-all}
use Rattle.scope_tables.proofs.session_tables.Tables.clear_gone.Goals as goal

pub returns : goal.returns
returns g c =
    without-all _ _ (is_gone c.args.gone) _ _ _ c.self.view_is
    (filter_same _ (λ (x : NumberedHook). not (is_gone c.args.gone x.scope)) _ (λ x b f' k. search rules) _ _ c.retain.ensures.filtered)
    (filter_same _ (λ (x : KeyMap). not (is_gone c.args.gone x.scope)) _ (λ x b f' k. search rules) _ _ c.retain-2.ensures.filtered)
    (filter_same _ (λ (x : Alias). not (is_gone c.args.gone x.scope)) _ (λ x b f' k. search rules) _ _ c.retain-3.ensures.filtered)
