use Rattle.std.proofs.Common.{◌≡◌, ◌+◌, length, ap, ◌∙◌, arith}
use Rattle.text_model.specs.Texts.{offset}
use Rattle.text_model.proofs.PlaceLemmas.{offset-below}
use Rattle.regex_select.specs.Walks.{bytes_of_first}
use Rattle.regex_select.proofs.WalkLemmas.{own-length}
use Rattle.regex_select.proofs.SpanLemmas.{bytes-of-take, written-before, written-all, byte-inside}
use Rattle.regex_select.proofs.seeking.written_around.Goals as goal

pub with_part-requires-2-clause-ordered : goal.with_part-requires-2-clause-ordered
with_part-requires-2-clause-ordered c =
    let text = c.args.lines.now in
    let whole : offset text c.whole-sel.result.high + 1 ≡ length text = omega (arith, own-length text c.whole-sel.result c.whole-sel.ensures.inside, ap length c.whole-sel.ensures.chars, c.whole-sel.ensures.low) in
    omega (arith, c.behind.ensures.offset, whole, offset-below text c.args.at c.requires)

pub returns-clause-bytes : goal.returns-clause-bytes
returns-clause-bytes c =
    let text = c.args.lines.now in
    let whole : offset text c.whole-sel.result.high + 1 ≡ length text = omega (arith, own-length text c.whole-sel.result c.whole-sel.ensures.inside, ap length c.whole-sel.ensures.chars, c.whole-sel.ensures.low) in
    c.in_ok-finish.ensures ∙ written-all text _ _ (offset text c.args.at) (offset text c.behind.result) (written-before text _ _ (offset text c.whole-sel.result.low) (offset text c.args.at) c.in_ok-none.ensures c.whole-sel.ensures.low c.in_ok-before.ensures) c.in_ok-all.ensures (c.behind.ensures.offset ∙ whole)

pub returns-clause-byte : goal.returns-clause-byte
returns-clause-byte c =
    let text = c.args.lines.now in
    let long : length c.in_ok-before.before ≡ bytes_of_first text (offset text c.args.at) = ap length (written-before text _ _ (offset text c.whole-sel.result.low) (offset text c.args.at) c.in_ok-none.ensures c.whole-sel.ensures.low c.in_ok-before.ensures) ∙ bytes-of-take text (offset text c.args.at) in
    omega (arith, long, c.len-byte.ensures)

pub returns-clause-inside : goal.returns-clause-inside
returns-clause-inside c =
    let text = c.args.lines.now in
    let long : length c.in_ok-before.before ≡ bytes_of_first text (offset text c.args.at) = ap length (written-before text _ _ (offset text c.whole-sel.result.low) (offset text c.args.at) c.in_ok-none.ensures c.whole-sel.ensures.low c.in_ok-before.ensures) ∙ bytes-of-take text (offset text c.args.at) in
    omega (arith, long, c.len-byte.ensures, byte-inside text (offset text c.args.at) (offset-below text c.args.at c.requires))
