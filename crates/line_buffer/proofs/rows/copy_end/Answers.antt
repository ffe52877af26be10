use Rattle.std.proofs.Common.{◌≡◌, ◌-◌, ◌++◌, length, take, drop, ap, ◌∙◌, arith, take_all, length-drop}
use Rattle.std.proofs.lemmas.Result.{IfOk-weaker}
use Rattle.text_model.specs.Texts.{lines_of}
use Rattle.compact_chars.specs.Rows.{chars_of}
use Rattle.line_buffer.proofs.SplitLemmas.{alone, with_end}
use Rattle.line_buffer.proofs.rows.copy_end.Goals as goal

pub returns-then-end-eq0-clause-lines : goal.returns-then-end-eq0-clause-lines
returns-then-end-eq0-clause-lines c =
    let same : take (length c.args.chars.now - c.last_end-end.result) (drop c.last_end-end.result c.args.chars.now) ≡ drop c.last_end-end.result c.args.chars.now =
    take_all (length c.args.chars.now - c.last_end-end.result) (drop c.last_end-end.result c.args.chars.now) (omega (arith, length-drop c.last_end-end.result c.args.chars.now)) in
    let behind : lines_of (c.args.chars.now ++ chars_of c.rest.result) ≡ lines_of (c.args.chars.now ++ drop c.args.column c.args.line.now) = ap (λ t. lines_of (c.args.chars.now ++ t)) c.rest.ensures.value in
    IfOk-weaker c.one.result _ _
    (λ lines e. e ∙ alone c.args.chars.now (chars_of c.rest.result) c.in_ok-last.last c.last_end-end.result c.if-end-eq0.true c.last_end-end.ensures.rest c.rest.ensures.line (c.in_ok-last.ensures ∙ ap (λ t. t ++ chars_of c.rest.result) same) ∙ behind)
    c.one.ensures

pub returns-clause-lines : goal.returns-clause-lines
returns-clause-lines c =
    let same : take (length c.args.chars.now - c.last_end-end.result) (drop c.last_end-end.result c.args.chars.now) ≡ drop c.last_end-end.result c.args.chars.now =
    take_all (length c.args.chars.now - c.last_end-end.result) (drop c.last_end-end.result c.args.chars.now) (omega (arith, length-drop c.last_end-end.result c.args.chars.now)) in
    with_end c.args.chars.now (chars_of c.rest.result) c.in_ok-last.last c.last_end-end.result c.in_ok-lines.lines.items _ (c.last_end-end.ensures.lines (omega (arith, c.if-end-eq0.false))) c.last_end-end.ensures.rest c.rest.ensures.line (c.in_ok-last.ensures ∙ ap (λ t. t ++ chars_of c.rest.result) same) c.in_ok-lines.ensures c.in_ok-push.ensures.items
    ∙ ap (λ t. lines_of (c.args.chars.now ++ t)) c.rest.ensures.value
