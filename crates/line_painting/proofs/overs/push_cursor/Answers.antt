use Rattle.std.proofs.Common.{length, arith}
use Rattle.compact_chars.specs.Rows.{chars_of}
use Rattle.line_painting.proofs.OverLemmas.{cursor-laid, cursor-off, long-line}
use Rattle.line_painting.proofs.overs.push_cursor.Goals as goal

pub at-requires : goal.at-requires
at-requires c = omega (arith, c.if-from-to.false, c.chars_before-to.ensures.few, c.len-2.ensures)

pub returns-then-from-to : goal.returns-then-from-to
returns-then-from-to c =
    cursor-off c.args.palette.now c.args.n (chars_of c.args.line) c.args.at c.args.main c.args.overs.now.items c.chars_before-from.result c.chars_before-to.result (omega (arith, c.if-from-to.true))
    (λ text long place. (
      omega (arith, c.len.ensures, c.chars_before-from.ensures.counts text (long-line text c.args.n (length (chars_of c.args.line)) c.len.result c.len.ensures long) place.on_line (omega (arith, place.in_line))),
      omega (arith, c.len-2.ensures, c.chars_before-to.ensures.counts text (long-line text c.args.n (length (chars_of c.args.line)) c.len-2.result c.len-2.ensures long) place.on_line (omega (arith, place.in_line))),
    ))

pub returns : goal.returns
returns c =
    cursor-laid c.args.palette.now c.args.n (chars_of c.args.line) c.args.at c.args.main c.args.overs.now.items c.push.new.self.items c.chars_before-from.result c.chars_before-to.result c.at.result c.cursor_face-face.result
    c.in_ok-push.ensures.items c.cursor_face-face.ensures c.at.ensures
    (λ text long place. (
      omega (arith, c.len.ensures, c.chars_before-from.ensures.counts text (long-line text c.args.n (length (chars_of c.args.line)) c.len.result c.len.ensures long) place.on_line (omega (arith, place.in_line))),
      omega (arith, c.len-2.ensures, c.chars_before-to.ensures.counts text (long-line text c.args.n (length (chars_of c.args.line)) c.len-2.result c.len-2.ensures long) place.on_line (omega (arith, place.in_line))),
    ))
