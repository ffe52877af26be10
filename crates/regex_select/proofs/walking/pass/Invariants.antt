-- the bytes so far are those of the characters so far, of which the last begins before the byte
use Rattle.std.proofs.Common.{◌≡◌, ◌+◌, ◌-◌, ◌*◌, ◌<◌, ◌≤◌}
use Rattle.compact_chars.specs.Rows.{chars_of}
use Rattle.regex_select.specs.Walks.{bytes_of_first}
use Rattle.regex_select.proofs.walking.pass.Given as goal

abbrev pub invariant-loop-i : goal.invariant-loop-i
invariant-loop-i l = record {
  bytes : l.bytes ≡ l.from + bytes_of_first (chars_of l.run) l.i;
  begun : 0 < l.i → l.from + bytes_of_first (chars_of l.run) (l.i - 1) < l.byte;
  small : l.bytes ≤ l.from + 4 * l.i;
}
