use Rattle.std.proofs.Common.{◌<◌, length, string_bytes, arith, ap, ◌∙◌, ◌++◌}
use Rattle.kak_words.proofs.ExpandingLemmas.{joined-begin}
use Rattle.kak_words.proofs.expanding.push_joined.Goals as goal

pub loop-n-init : goal.loop-n-init
loop-n-init c =
    let some : 0 < length c.args.strings.now = omega arith in
    joined-begin c.args.strings.now (string_bytes c.args.out.now) (string_bytes c.push_str.new.self) some (c.in_ok-push_str.ensures.bytes ∙ ap (λ t. string_bytes c.args.out.now ++ t) c.get.ensures)
