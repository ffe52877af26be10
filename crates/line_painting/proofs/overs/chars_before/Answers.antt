use Rattle.std.proofs.Common.{ℕ, ◌+◌, List, ◌≡◌, length, take, ap, arith}
use Rattle.text_model.specs.Texts.{lines_of, joined}
use Rattle.text_model.proofs.PlaceLemmas.{start-more, start-le}
use Rattle.line_painting.proofs.overs.chars_before.Goals as goal

pub returns-then-line-n-clause-counts : goal.returns-then-line-n-clause-counts
returns-then-line-n-clause-counts c text part on_line in_line =
    let ls : List (List ℕ) = lines_of text in
    omega (arith, start-more ls c.args.n part.there, start-le ls (c.args.n + 1) c.args.line (omega arith), part.long)

pub returns-then-line-n-2-clause-counts : goal.returns-then-line-n-2-clause-counts
returns-then-line-n-2-clause-counts c text part on_line in_line =
    let ls : List (List ℕ) = lines_of text in
    omega (arith, start-more ls c.args.line on_line, start-le ls (c.args.line + 1) c.args.n (omega arith))

pub returns-clause-counts : goal.returns-clause-counts
returns-clause-counts c text part on_line in_line =
    let same : c.args.line ≡ c.args.n = omega arith in
    let start : length (joined (take c.args.line (lines_of text))) ≡ length (joined (take c.args.n (lines_of text))) = ap (λ n. length (joined (take n (lines_of text)))) same in
    omega arith
