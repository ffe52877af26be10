use Rattle.std.proofs.Common.{◌≡◌, ◌+◌, ◌-◌, ◌≤◌, Bool, eqb, ◌||◌, length, ap, ap₂, sym, subst, ◌∙◌, arith, eq-eqb, ne_eqb}
use Rattle.text_model.specs.declared.TheConstants.{MAX_CHARS}
use Rattle.text_model.specs.Texts.{lines_of, offset}
use Rattle.buffer_store.specs.declared.limits.PassedText.{PassedText}
use Rattle.buffer_store.specs.Limits.{added, begins_behind, IsPassed}
use Rattle.buffer_store.proofs.LimitLemmas.{added-le}
use Rattle.buffer_store.proofs.PassLemmas.{Passes, passes, next_text, begins_there}
use Rattle.buffer_store.proofs.limits.pass.Goals as goal
use Rattle.buffer_store.proofs.limits.pass.Goals.{then-at_end, else-at_end}

pub overflow_sub-kept : goal.overflow_sub-kept
overflow_sub-kept c =
    let k : Passes c.args.lines.now c.requires.now c.args.at c.args.splice.now = passes c.args.lines.now c.requires.now c.requires.f c.args.at c.args.splice.now c.requires.stored c.requires.passed c.requires.from c.requires.to c.requires.behind c.requires.ordered in
    omega (arith, k.taken, c.count.ensures, c.requires.passed.chars_is)

pub returns-then-chars-room : goal.returns-then-chars-room
returns-then-chars-room c = λ now f h le.
    let k : Passes c.args.lines.now now c.args.at c.args.splice.now = passes c.args.lines.now now f c.args.at c.args.splice.now c.requires.stored h c.requires.from c.requires.to le c.requires.ordered in
    omega (arith, k.taken, k.long, c.count.ensures, h.chars_is, c.if-chars-room.true, ap length c.as_slice-chars.ensures, added-le c.args.splice.now.text (eqb c.args.splice.now.to.line (length (lines_of c.args.lines.now))) (begins_there c.args.at c.args.splice.now))

pub returns-then-more-room : goal.returns-then-more-room
returns-then-more-room c = λ now f h le.
    let k : Passes c.args.lines.now now c.args.at c.args.splice.now = passes c.args.lines.now now f c.args.at c.args.splice.now c.requires.stored h c.requires.from c.requires.to le c.requires.ordered in
    let added-is : c.added-more.result ≡ added c.args.splice.now.text (eqb c.args.splice.now.to.line (length (lines_of c.args.lines.now))) (begins_there c.args.at c.args.splice.now) = c.added-more.ensures ∙ ap (λ s. added s (eqb c.args.splice.now.to.line c.line_count.result) c.begins_at-begins.result) c.as_slice-chars.ensures ∙ ap₂ (λ n v. added c.args.splice.now.text (eqb c.args.splice.now.to.line n) v) c.line_count.ensures.value c.begins_at-begins.ensures in
    omega (arith, k.taken, k.long, c.count.ensures, h.chars_is, c.if-more-room.true)

pub returns : goal.returns
returns c = λ now f h le.
    let k : Passes c.args.lines.now now c.args.at c.args.splice.now = passes c.args.lines.now now f c.args.at c.args.splice.now c.requires.stored h c.requires.from c.requires.to le c.requires.ordered in
    let added-is : c.added-more.result ≡ added c.args.splice.now.text (eqb c.args.splice.now.to.line (length (lines_of c.args.lines.now))) (begins_there c.args.at c.args.splice.now) = c.added-more.ensures ∙ ap (λ s. added s (eqb c.args.splice.now.to.line c.line_count.result) c.begins_at-begins.result) c.as_slice-chars.ensures ∙ ap₂ (λ n v. added c.args.splice.now.text (eqb c.args.splice.now.to.line n) v) c.line_count.ensures.value c.begins_at-begins.ensures in
    let chars : c.args.at.chars - c.count.result + c.added-more.result ≡ length (next_text c.args.lines.now now c.args.splice.now) = omega (arith, k.taken, k.long, c.count.ensures, h.chars_is) in
    let small : length (next_text c.args.lines.now now c.args.splice.now) ≤ MAX_CHARS = omega (arith, k.taken, k.long, c.count.ensures, h.chars_is, h.stored.small, c.if-more-room.false) in
    let begins : c.if-at_end.result ≡ eqb c.args.splice.now.to.line (length (lines_of c.args.lines.now)) || begins_behind c.args.splice.now.text (begins_there c.args.at c.args.splice.now) =
    elim c.if-at_end.branch [
      | then-at_end w ↦ w.result-is ∙ eq-eqb c.args.splice.now.to.line c.line_count.result w.if-at_end.true ∙ sym (ap (λ v. v || begins_behind c.args.splice.now.text (begins_there c.args.at c.args.splice.now)) (eq-eqb c.args.splice.now.to.line (length (lines_of c.args.lines.now)) (w.if-at_end.true ∙ c.line_count.ensures.value)))
      | else-at_end w ↦ w.result-is ∙ w.begins_behind.ensures ∙ ap₂ begins_behind c.as_slice-chars.ensures c.begins_at-begins.ensures ∙ sym (ap (λ v. v || begins_behind c.args.splice.now.text (begins_there c.args.at c.args.splice.now)) (ne_eqb c.args.splice.now.to.line (length (lines_of c.args.lines.now)) (λ e. w.if-at_end.false (e ∙ sym c.line_count.ensures.value))))
    ] in
    let P : Bool → Type 0 = λ v. IsPassed c.args.lines.now (next_text c.args.lines.now now c.args.splice.now) (offset c.args.lines.now c.args.splice.now.to) (let x : PassedText = record { behind = c.args.splice.now.to; begins = v; chars = c.args.at.chars - c.count.result + c.added-more.result } in x) in
    (small, subst P (sym begins) (k.next (c.args.at.chars - c.count.result + c.added-more.result) small chars))
