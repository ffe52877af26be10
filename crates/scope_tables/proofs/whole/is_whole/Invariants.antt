use Rattle.std.proofs.Common.{◌≡◌, drop}
use Rattle.std.specs.List.{list_any}
use Rattle.scope_tables.specs.Whole.{is_all}
use Rattle.scope_tables.proofs.whole.is_whole.Given as goal

-- one of the matches that are left is the whole text exactly where one of all is
abbrev pub invariant-loop-span : goal.invariant-loop-span
invariant-loop-span g l = list_any (is_all l.end) (drop l.span-index l.span-items) ≡ list_any (is_all l.end) l.span-items
