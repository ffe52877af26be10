use Rattle.std.proofs.Common.{refl}
use Rattle.scope_tables.proofs.laws.worked_examples.Goals as goal

pub returns : goal.returns
returns c = record {
  a_name = refl;
  no_name = refl;
  limit = refl;
  not_full = refl;
  none_is_left = refl;
  found = refl;
  of_another_scope = refl;
  without_a_group = refl;
  of_a_group = refl;
  awaited = refl;
  not_awaited = refl;
  other_character = refl;
  other_modifier = refl;
  function_keys = refl;
  named_key = refl;
  in_window = refl;
  in_buffer = refl;
  globally = refl;
  in_another_mode = refl;
  unmapped = refl;
  alias_in_window = refl;
  alias_in_buffer = refl;
  alias_globally = refl;
  no_alias = refl;
  redefined = refl;
  too_few = refl;
  just_enough = refl;
  too_many = refl;
  client_hooks = refl;
  buffer_hooks = refl;
  buffer_maps = refl;
  buffer_aliases = refl;
  window_alias = refl;
}
