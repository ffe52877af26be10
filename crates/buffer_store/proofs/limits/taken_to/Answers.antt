use Rattle.std.proofs.Common.{◌≡◌, ◌-◌, true, false, length, ap, sym, ◌∙◌, arith}
use Rattle.text_model.specs.Texts.{IsPlace, offset, end_coord}
use Rattle.text_model.specs.Changes.{begins_line}
use Rattle.text_model.proofs.PlaceLemmas.{offset-below, offset-end}
use Rattle.text_model.proofs.ChangeLemmas.{taken_end-inside}
use Rattle.line_buffer.proofs.InsertLemmas.{place_by_line, end_by_line}
use Rattle.line_buffer.proofs.EraseLemmas.{begins_line-at, taken_end-whole, taken_end-kept}
use Rattle.buffer_store.proofs.limits.taken_to.Goals as goal

pub returns-then-to-line_count-clause-value : goal.returns-then-to-line_count-clause-value
returns-then-to-line_count-clause-value c =
    let place : IsPlace c.args.lines.now c.args.to = place_by_line c.args.lines.now c.args.to c.requires.to (omega (arith, c.if-to-line_count.true, c.line_count.ensures.value)) in
    sym (taken_end-inside c.args.lines.now (offset c.args.lines.now c.args.from) (offset c.args.lines.now c.args.to) (offset-below c.args.lines.now c.args.to place))

pub returns-then-line_begins-clause-value : goal.returns-then-line_begins-clause-value
returns-then-line_begins-clause-value c =
    let begins : begins_line c.args.lines.now (offset c.args.lines.now c.args.from) ≡ true = begins_line-at c.args.lines.now c.args.from c.line_count.ensures.valid.is_text c.requires.from ∙ sym c.line_begins.ensures ∙ c.if-line_begins.true in
    sym (taken_end-whole c.args.lines.now (offset c.args.lines.now c.args.from) (offset c.args.lines.now c.args.to) begins)

pub returns-clause-value : goal.returns-clause-value
returns-clause-value c =
    let bottom : c.args.to ≡ end_coord c.args.lines.now = end_by_line c.args.lines.now c.args.to c.requires.to (omega (arith, c.if-to-line_count.false, c.line_count.ensures.value)) in
    let at : offset c.args.lines.now c.args.to ≡ length c.args.lines.now = ap (offset c.args.lines.now) bottom ∙ offset-end c.args.lines.now in
    let begins : begins_line c.args.lines.now (offset c.args.lines.now c.args.from) ≡ false = begins_line-at c.args.lines.now c.args.from c.line_count.ensures.valid.is_text c.requires.from ∙ sym c.line_begins.ensures ∙ c.if-line_begins.false in
    c.last_place.ensures.last ∙ ap (λ n. n - 1) (sym at) ∙ sym (taken_end-kept c.args.lines.now (offset c.args.lines.now c.args.from) (offset c.args.lines.now c.args.to) at begins)
