use Rattle.std.proofs.Common.{◌≡◌, ◌≤◌, ◌<◌, ◌++◌, length, slice_range, encode_utf8_all}
use Rattle.text_model.specs.Texts.{offset, nth_line}
use Rattle.regex_select.proofs.writing.with_part.Given as goal

-- the characters up to where the next line or the last part begins were added
abbrev pub invariant-loop-n : goal.invariant-loop-n
invariant-loop-n l = record {
  so_far : l.all ≡ l.fn.gathered ++ encode_utf8_all (slice_range l.lines (offset l.lines l.fn.from) (offset l.lines (record { line = l.n; column = l.start })));
  after : offset l.lines l.fn.from ≤ offset l.lines (record { line = l.n; column = l.start });
  before : offset l.lines (record { line = l.n; column = l.start }) ≤ offset l.lines l.fn.to;
  inside : l.n < l.fn.to.line → l.start < length (nth_line l.lines l.n);
}
