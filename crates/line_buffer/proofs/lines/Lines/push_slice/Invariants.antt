use Rattle.std.proofs.Common.{◌≡◌, ◌≤◌, ◌<◌, ◌++◌, length, slice_range, string_bytes, encode_utf8_all}
use Rattle.text_model.specs.Texts.{offset, nth_line}
use Rattle.line_buffer.proofs.lines.Lines.push_slice.Given as goal

-- the characters up to where the next line or the last part begins were added
abbrev pub invariant-loop-n : goal.invariant-loop-n
invariant-loop-n l = record {
  so_far : string_bytes l.text ≡ string_bytes l.fn.text ++ encode_utf8_all (slice_range l.self (offset l.self l.fn.from) (offset l.self (record { line = l.n; column = l.start })));
  after : offset l.self l.fn.from ≤ offset l.self (record { line = l.n; column = l.start });
  before : offset l.self (record { line = l.n; column = l.start }) ≤ offset l.self l.fn.to;
  inside : l.n < l.fn.to.line → l.start < length (nth_line l.self l.n);
}
