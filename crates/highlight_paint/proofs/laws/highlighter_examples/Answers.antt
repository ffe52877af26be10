use Rattle.std.proofs.Common.{refl}
use Rattle.highlight_paint.proofs.laws.highlighter_examples.Goals as goal

pub returns : goal.returns
returns c = record {
  below = refl;
  far_below = refl;
  longer_name = refl;
  not_below_itself = refl;
  child = refl;
  no_child = refl;
  one_name = refl;
  in_group = refl;
  no_group = refl;
  other_kind = refl;
  other_scope = refl;
  grandchild = refl;
  taken = refl;
  taken_elsewhere = refl;
  replaces = refl;
  at_the_end = refl;
  in_its_place = refl;
  group_by_group = refl;
  removed = refl;
  at_its_scope = refl;
  client_gone = refl;
  buffer_gone = refl;
}
