use Rattle.std.proofs.Common.{rules, refl, ap, ◌≡◌, ◌<◌, ◌∷◌, ◌++◌, [], length, chars, ◌∙◌, arith}
use Rattle.std.proofs.lemmas.Result.{err_from_is_err_and}
use Rattle.std.proofs.lemmas.List.{length-append}
use Rattle.text_model.specs.Changes.{ended}
use Rattle.line_buffer.specs.declared.lines.LinesError.TheVariants.{TextFull}
use Rattle.text_coding.proofs.FillLemmas.{whole-alone, closed-alone, closed-behind}
use Rattle.text_coding.proofs.LineLemmas.{chars-some, none-chars, same-error}
use Rattle.text_coding.proofs.lines.closed.Goals as goal
use Rattle.text_coding.proofs.lines.closed.Goals.{else-is_empty-via-then-is_empty+else-len-gt0, else-is_empty-via-else-is_empty}

pub returns-then-len-gt0-clause-text : goal.returns-then-len-gt0-clause-text
returns-then-len-gt0-clause-text c =
    let empty : length c.args.rest.now ≡ 0 = search rules in
    let some : 0 < length c.args.lines = search rules in
    whole-alone c.args.lines (chars c.args.rest.now) c.finish.result (none-chars c.args.rest.now empty) (c.requires.whole some) c.finish.ensures

pub returns-clause-text : goal.returns-clause-text
returns-clause-text c =
    let text : c.finish-2.result ≡ c.args.lines ++ (chars c.args.rest.now ++ 10 ∷ []) = c.finish-2.ensures ∙ c.in_ok-push_run.ensures.ok in
    elim c.else-is_empty.branch [
      | else-is_empty-via-then-is_empty+else-len-gt0 w ↦ closed-alone c.args.lines (chars c.args.rest.now) c.finish-2.result (omega (arith, w.if-len-gt0.false, w.len.ensures)) c.requires.open text
      | else-is_empty-via-else-is_empty w ↦ (let some : 0 < length c.args.rest.now = search rules in
          closed-behind c.args.lines (chars c.args.rest.now) c.finish-2.result (chars-some c.args.rest.now c.utf8.rest some) c.requires.open text)
    ]

pub returns-in_err-push_run-clause-full : goal.returns-in_err-push_run-clause-full
returns-in_err-push_run-clause-full c =
    let rest = chars c.args.rest.now in
    let same : c.args.lines ++ (rest ++ 10 ∷ []) ≡ ended (c.args.lines ++ rest) =
    elim c.else-is_empty.branch [
      | else-is_empty-via-then-is_empty+else-len-gt0 w ↦ closed-alone c.args.lines rest (c.args.lines ++ (rest ++ 10 ∷ [])) (omega (arith, w.if-len-gt0.false, w.len.ensures)) c.requires.open refl
      | else-is_empty-via-else-is_empty w ↦ (let some : 0 < length c.args.rest.now = search rules in
          closed-behind c.args.lines rest (c.args.lines ++ (rest ++ 10 ∷ [])) (chars-some c.args.rest.now c.utf8.rest some) c.requires.open refl)
    ] in
    let p = err_from_is_err_and c.from_residual.result c.from_residual.ensures.1 in
    rw (p.1, p.2) (λ e. omega (arith, c.in_err-push_run.ensures.full (same-error c.in_err-push_run.field-0.0 TextFull e), ap length same, length-append c.args.lines (rest ++ 10 ∷ [])))
