use Rattle.std.proofs.Common.{refl}
use Rattle.regex.specs.Patterns.{find_str, slot_of}
use Rattle.regex.proofs.OnLiterals.{regex_on_literals}
use Rattle.regex_hir.specs.Find.{first_from, matches_from}
use Rattle.regex_hir.specs.Re.{attempt, rounds}
use Rattle.regex_hir.specs.Text.{is_boundary, has_bytes_at}
use Rattle.scope_tables.proofs.laws.hook_examples.Goals as goal

pub returns : goal.returns
unfolding regex_on_literals find_str slot_of first_from matches_from attempt rounds is_boundary has_bytes_at
returns c = record {
  outermost_first = refl;
  other_client = refl;
  other_buffer = refl;
  a_part = refl;
  other_name = refl;
  removed = refl;
  number_is_new = refl;
  once_goes = refl;
  others_stay = refl;
}
