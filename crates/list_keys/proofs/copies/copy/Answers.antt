use Rattle.std.proofs.Common.{◌<◌, sym, subst, ◌∙◌, arith}
use Rattle.text_model.specs.declared.coords.Coord.{Coord}
use Rattle.text_model.specs.Texts.{line_count}
use Rattle.list_keys.proofs.CopyLemmas.{IsNear, spans, near-lines, copy-start, high-reaches, low-line, copy-inside, copy-found, copy-later-low, copy-later-high, copy-over}
use Rattle.list_keys.proofs.copies.copy.Goals as goal
use Rattle.list_keys.proofs.copies.copy.Goals.{else-has_place-via-then-has_place+else-has_place-2, else-has_place-via-else-has_place}

pub loop-by-init : goal.loop-by-init
loop-by-init c = copy-start c.args.lines.now c.args.direction c.args.sel c.requires

pub away-high-requires-clause-reaches : goal.away-high-requires-clause-reaches
away-high-requires-clause-reaches c =
    let near : IsNear c.args.lines.now c.args.direction c.args.sel c.loop-by.by = near-lines c.args.lines.now c.args.direction c.args.sel c.loop-by.by c.lines_beside-limit.result c.requires (spans c.args.lines.now c.args.sel c.requires) c.lines_beside-limit.ensures.ahead c.lines_beside-limit.ensures.behind c.loop-by-test.true in
    high-reaches c.args.lines.now c.args.direction c.args.sel c.loop-by.by near

pub has_place-requires : goal.has_place-requires
has_place-requires c =
    let near : IsNear c.args.lines.now c.args.direction c.args.sel c.loop-by.by = near-lines c.args.lines.now c.args.direction c.args.sel c.loop-by.by c.lines_beside-limit.result c.requires (spans c.args.lines.now c.args.sel c.requires) c.lines_beside-limit.ensures.ahead c.lines_beside-limit.ensures.behind c.loop-by-test.true in
    subst (λ (at : Coord). at.line < line_count c.args.lines.now) (sym c.away-low.ensures) (low-line c.args.lines.now c.args.direction c.args.sel c.loop-by.by near)

pub returns-then-has_place-2-clause-inside : goal.returns-then-has_place-2-clause-inside
returns-then-has_place-2-clause-inside c =
    let near : IsNear c.args.lines.now c.args.direction c.args.sel c.loop-by.by = near-lines c.args.lines.now c.args.direction c.args.sel c.loop-by.by c.lines_beside-limit.result c.requires (spans c.args.lines.now c.args.sel c.requires) c.lines_beside-limit.ensures.ahead c.lines_beside-limit.ensures.behind c.loop-by-test.true in
    copy-inside c.args.lines.now c.args.direction c.args.sel c.loop-by.by c.away-low.result c.away-high.result c.requires near c.away-low.ensures c.away-high.ensures (sym c.has_place.ensures ∙ c.if-has_place.true) (sym c.has_place-then-has_place.ensures ∙ c.if-has_place-2.true)

pub returns-then-has_place-2-clause-copies : goal.returns-then-has_place-2-clause-copies
returns-then-has_place-2-clause-copies c =
    let near : IsNear c.args.lines.now c.args.direction c.args.sel c.loop-by.by = near-lines c.args.lines.now c.args.direction c.args.sel c.loop-by.by c.lines_beside-limit.result c.requires (spans c.args.lines.now c.args.sel c.requires) c.lines_beside-limit.ensures.ahead c.lines_beside-limit.ensures.behind c.loop-by-test.true in
    sym (copy-found c.args.lines.now c.args.direction c.args.sel c.loop-by.by c.away-low.result c.away-high.result _ near c.away-low.ensures c.away-high.ensures (sym c.has_place.ensures ∙ c.if-has_place.true) (sym c.has_place-then-has_place.ensures ∙ c.if-has_place-2.true) c.loop-by.invariant)

pub loop-by-preserved : goal.loop-by-preserved
loop-by-preserved c =
    let near : IsNear c.args.lines.now c.args.direction c.args.sel c.loop-by.by = near-lines c.args.lines.now c.args.direction c.args.sel c.loop-by.by c.lines_beside-limit.result c.requires (spans c.args.lines.now c.args.sel c.requires) c.lines_beside-limit.ensures.ahead c.lines_beside-limit.ensures.behind c.loop-by-test.true in
    elim c.else-has_place.branch [
      | else-has_place-via-then-has_place+else-has_place-2 w ↦ copy-later-high c.args.lines.now c.args.direction c.args.sel c.loop-by.by c.away-high.result _ near c.away-high.ensures (sym w.has_place-then-has_place.ensures ∙ w.if-has_place-2.false) c.loop-by.invariant
      | else-has_place-via-else-has_place w ↦ copy-later-low c.args.lines.now c.args.direction c.args.sel c.loop-by.by c.away-low.result _ near c.away-low.ensures (sym c.has_place.ensures ∙ w.if-has_place.false) c.loop-by.invariant
    ]

pub returns-clause-copies : goal.returns-clause-copies
returns-clause-copies c = sym (copy-over c.args.lines.now c.args.direction c.args.sel c.loop-by.by c.lines_beside-limit.result _ c.lines_beside-limit.ensures.ahead c.lines_beside-limit.ensures.behind (omega (arith, c.loop-by-test.false)) c.loop-by.invariant)

pub overflow_sub-by : goal.overflow_sub-by
overflow_sub-by c = spans c.args.lines.now c.args.sel c.requires
