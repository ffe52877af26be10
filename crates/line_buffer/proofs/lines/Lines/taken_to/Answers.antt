use Rattle.std.proofs.Common.{◌≡◌, ◌-◌, true, false, length, ap, sym, ◌∙◌, arith}
use Rattle.text_model.specs.Texts.{IsPlace, offset, end_coord}
use Rattle.text_model.specs.Changes.{begins_line}
use Rattle.text_model.proofs.PlaceLemmas.{offset-below, offset-end}
use Rattle.text_model.proofs.ChangeLemmas.{taken_end-inside, taken_end-within}
use Rattle.line_buffer.proofs.InsertLemmas.{place_by_line, end_by_line}
use Rattle.line_buffer.proofs.EraseLemmas.{begins_line-at, taken_end-whole, taken_end-kept}
use Rattle.line_buffer.proofs.lines.Lines.taken_to.Goals as goal

pub returns-then-to-lines-clause-value : goal.returns-then-to-lines-clause-value
returns-then-to-lines-clause-value c =
    let place : IsPlace c.args.self.now c.args.to = place_by_line c.args.self.now c.args.to c.requires.to (omega (arith, c.if-to-lines.true, c.line_count-lines.ensures.value)) in
    sym (taken_end-inside c.args.self.now (offset c.args.self.now c.args.from) (offset c.args.self.now c.args.to) (offset-below c.args.self.now c.args.to place))

pub returns-then-begins_later_line-clause-value : goal.returns-then-begins_later_line-clause-value
returns-then-begins_later_line-clause-value c =
    let begins : begins_line c.args.self.now (offset c.args.self.now c.args.from) ≡ true = begins_line-at c.args.self.now c.args.from c.line_count-lines.ensures.valid.is_text c.requires.from ∙ sym c.begins_later_line.ensures ∙ c.if-begins_later_line.true in
    sym (taken_end-whole c.args.self.now (offset c.args.self.now c.args.from) (offset c.args.self.now c.args.to) begins)

pub returns-clause-value : goal.returns-clause-value
returns-clause-value c =
    let bottom : c.args.to ≡ end_coord c.args.self.now = end_by_line c.args.self.now c.args.to c.requires.to (omega (arith, c.if-to-lines.false, c.line_count-lines.ensures.value)) in
    let at : offset c.args.self.now c.args.to ≡ length c.args.self.now = ap (offset c.args.self.now) bottom ∙ offset-end c.args.self.now in
    let begins : begins_line c.args.self.now (offset c.args.self.now c.args.from) ≡ false = begins_line-at c.args.self.now c.args.from c.line_count-lines.ensures.valid.is_text c.requires.from ∙ sym c.begins_later_line.ensures ∙ c.if-begins_later_line.false in
    c.last_place.ensures.last ∙ ap (λ n. n - 1) (sym at) ∙ sym (taken_end-kept c.args.self.now (offset c.args.self.now c.args.from) (offset c.args.self.now c.args.to) at begins)

pub returns-clause-after : goal.returns-clause-after
returns-clause-after c =
    let bottom : c.args.to ≡ end_coord c.args.self.now = end_by_line c.args.self.now c.args.to c.requires.to (omega (arith, c.if-to-lines.false, c.line_count-lines.ensures.value)) in
    let at : offset c.args.self.now c.args.to ≡ length c.args.self.now = ap (offset c.args.self.now) bottom ∙ offset-end c.args.self.now in
    omega (arith, returns-clause-value c, (taken_end-within c.args.self.now (offset c.args.self.now c.args.from) (offset c.args.self.now c.args.to) c.line_count-lines.ensures.valid.is_text c.requires.ordered (omega (arith, at))).0)
