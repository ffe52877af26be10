use Rattle.std.proofs.Common.{◌≡◌, ◌+◌, ◌-◌, ◌++◌, length, replicate, ap₂, rules}
use Rattle.std.specs.Prelude.{decimal}
use Rattle.std.proofs.lemmas.Result.{on_ok_weaker}
use Rattle.highlight_paint.specs.Numbers.{number_chars}
use Rattle.line_painting.proofs.RunLemmas.{number-grown}
use Rattle.line_painting.proofs.numbers.push_number.Goals as goal

pub returns : goal.returns
returns c =
    let digits : c.as_bytes.result.now ≡ decimal (c.args.n + 1) = search rules in
    let count : c.saturating_sub.result ≡ length (decimal c.args.lines) - length (decimal (c.args.n + 1)) = search rules in
    let all : replicate c.saturating_sub.result 32 ++ (c.as_bytes.result.now ++ c.args.separator.now) ≡ number_chars c.args.lines c.args.n c.args.separator.now =
    ap₂ (λ k ds. replicate k 32 ++ (ds ++ c.args.separator.now)) count digits in
    on_ok_weaker c.push_chars-2.result
    (λ e. number-grown c.args.atoms.now c.set_face.new.self c.push_spaces.new.self c.push_chars.new.self c.push_chars-2.new.self c.args.face (replicate c.saturating_sub.result 32) c.as_bytes.result.now c.args.separator.now
    (number_chars c.args.lines c.args.n c.args.separator.now) c.in_ok-set_face.ensures c.in_ok-push_spaces.ensures c.in_ok-push_chars.ensures e all)
    c.push_chars-2.ensures
