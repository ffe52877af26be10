use Rattle.std.proofs.Common.{◌∙◌, List, ℕ, map, refl, sym}
use Rattle.std.specs.Prelude.{chars}
use Rattle.std.proofs.lemmas.Result.{err_from_is_err_and}
use Rattle.edit_ops.proofs.CrowdingLemmas.{crowd-is, crowd-not}
use Rattle.edit_ops.proofs.putting.put.Goals as goal

pub returns-then-are_crowded-clause-long : goal.returns-then-are_crowded-clause-long
returns-then-are_crowded-clause-long c =
    let strings : List (List ℕ) = map (λ w. chars w) c.args.strings.now in
    (λ _. crowd-is c.args.lines.now c.args.how strings c.args.sels.now.list c.len.result c.len.ensures.value (sym c.are_crowded.ensures ∙ c.if-are_crowded.true), λ _. refl)

pub returns-in_err-strings-clause-long : goal.returns-in_err-strings-clause-long
returns-in_err-strings-clause-long c =
    let strings : List (List ℕ) = map (λ w. chars w) c.args.strings.now in
    let p = err_from_is_err_and c.from_residual.result c.from_residual.ensures.1 in (
      λ e. absurd (let two = sym p.1 ∙ e in cc (p.2)),
      λ over. absurd (crowd-not c.args.lines.now c.args.how strings c.args.sels.now.list c.len.result c.len.ensures.value (sym c.are_crowded.ensures ∙ c.if-are_crowded.false) over),
    )

pub returns-in_err-put_chars-clause-long : goal.returns-in_err-put_chars-clause-long
returns-in_err-put_chars-clause-long c =
    let strings : List (List ℕ) = map (λ w. chars w) c.args.strings.now in
    let p = err_from_is_err_and c.from_residual-in_err-put_chars.result c.from_residual-in_err-put_chars.ensures.1 in (
      λ e. absurd (let two = sym p.1 ∙ e in cc (p.2)),
      λ over. absurd (crowd-not c.args.lines.now c.args.how strings c.args.sels.now.list c.len.result c.len.ensures.value (sym c.are_crowded.ensures ∙ c.if-are_crowded.false) over),
    )

pub returns-clause-long : goal.returns-clause-long
returns-clause-long c =
    let strings : List (List ℕ) = map (λ w. chars w) c.args.strings.now in (
      λ e. absurd (cc (e)),
      λ over. absurd (crowd-not c.args.lines.now c.args.how strings c.args.sels.now.list c.len.result c.len.ensures.value (sym c.are_crowded.ensures ∙ c.if-are_crowded.false) over),
    )
