use Rattle.std.proofs.Common.{not, rules}
use Rattle.std.proofs.lemmas.Fn.{filter_same}
use Rattle.scope_tables.specs.declared.maps.KeyMap.{KeyMap}
use Rattle.scope_tables.specs.Maps.{is_map, without_map}
use Rattle.scope_tables.proofs.ChangeLemmas.{with-maps}
use Rattle.scope_tables.proofs.session_tables.Tables.unmap_key.Goals as goal

pub returns : goal.returns
returns g c =
    with-maps _ _ (without_map c.args.scope c.args.mode c.args.key) _ c.self.view_is
    (filter_same _ (λ (x : KeyMap). not (is_map c.args.scope c.args.mode c.args.key x)) _ (λ x b f' k. search rules) _ _ c.retain.ensures.filtered)
