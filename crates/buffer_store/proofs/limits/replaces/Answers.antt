use Rattle.std.proofs.Common.{◌≡◌, ℕ, List, ◌<◌, ◌≤◌, true, false, not, ltb, ◌&&◌, length, ap, sym, ◌∙◌, arith, eqb-true, lt-ltb, inl, leb}
use Rattle.std.proofs.lemmas.Bool.{eqb-false}
use Rattle.text_model.specs.Texts.{offset, ends_in_newline, lines_of, end_coord}
use Rattle.text_model.specs.Changes.{exchange, replacement}
use Rattle.text_model.proofs.PlaceLemmas.{is_at_most-offset, offset-end, offset-below}
use Rattle.line_buffer.proofs.InsertLemmas.{end_by_line, place_by_line}
use Rattle.line_buffer.proofs.FlatLemmas.{line-le-count}
use Rattle.buffer_store.proofs.ReplacingLemmas.{IsEndKept, end-kept, end-plain, inside-plain}
use Rattle.buffer_store.proofs.LimitLemmas.{different, kept-more, kept-one, plain-more, plain-none}
use Rattle.buffer_store.proofs.limits.replaces.Goals as goal
use Rattle.buffer_store.proofs.limits.replaces.Goals.{then-chars-gt1, else-chars-gt1, else-splice-line_count-via-then-splice-line_count+else-keeps_newline, else-splice-line_count-via-else-splice-line_count}

pub returns-then-keeps_newline : goal.returns-then-keeps_newline
returns-then-keeps_newline c =
    let t : List ℕ = c.args.lines.now in
    let s : List ℕ = c.args.splice.now.text in
    let p : ℕ = offset t c.args.splice.now.from in
    let q : ℕ = offset t c.args.splice.now.to in
    let at : c.args.splice.now.to ≡ end_coord t = end_by_line t c.args.splice.now.to c.requires.ends.to (omega (arith, c.if-splice-line_count.true, c.line_count.ensures.value)) in
    let off : q ≡ length t = ap (offset t) at ∙ offset-end t in
    let keeps : ltb c.args.splice.now.from.line c.args.splice.now.to.line && ends_in_newline s ≡ true = ap (λ x. ltb c.args.splice.now.from.line c.args.splice.now.to.line && ends_in_newline x) (sym c.as_slice-chars.ensures) ∙ sym c.keeps_newline.ensures ∙ c.if-keeps_newline.true in
    let kept : IsEndKept t c.args.splice.now.from c.last_place-last.result s = end-kept t c.args.splice.now.from c.args.splice.now.to c.last_place-last.result s c.requires.ends.from at c.last_place-last.ensures.last keeps in
    elim c.if-chars-gt1.branch [
      | then-chars-gt1 w ↦ (let more : 1 < length s = omega (arith, w.if-chars-gt1.true, ap length c.as_slice-chars.ensures) in
          w.result-is ∙ lt-ltb 1 (length c.as_slice-chars.result.now) w.if-chars-gt1.true ∙ sym (kept-more t c.args.splice.now.from c.args.splice.now.to c.last_place-last.result s kept off more))
      | else-chars-gt1 w ↦ (let one : length s ≤ 1 = omega (arith, w.if-chars-gt1.false, ap length c.as_slice-chars.ensures) in
          w.result-is ∙ ap not (w.is_at_most.ensures ∙ is_at_most-offset t c.last_place-last.result c.args.splice.now.from (inl c.last_place-last.ensures.place) c.requires.ends.from) ∙ sym (kept-one t c.args.splice.now.from c.args.splice.now.to c.last_place-last.result s c.last_place-last.ensures.valid.is_text kept off c.last_place-last.ensures.last one))
    ]

pub returns-then-not-is_empty : goal.returns-then-not-is_empty
returns-then-not-is_empty c =
    let t : List ℕ = c.args.lines.now in
    let s : List ℕ = c.args.splice.now.text in
    let p : ℕ = offset t c.args.splice.now.from in
    let q : ℕ = offset t c.args.splice.now.to in
    let same : replacement t p q s ≡ exchange t p q s = elim c.else-splice-line_count.branch [
      | else-splice-line_count-via-then-splice-line_count+else-keeps_newline w ↦ (let at : c.args.splice.now.to ≡ end_coord t = end_by_line t c.args.splice.now.to c.requires.ends.to (omega (arith, w.if-splice-line_count.true, c.line_count.ensures.value)) in
          let keeps : ltb c.args.splice.now.from.line c.args.splice.now.to.line && ends_in_newline s ≡ false = ap (λ x. ltb c.args.splice.now.from.line c.args.splice.now.to.line && ends_in_newline x) (sym c.as_slice-chars.ensures) ∙ sym w.keeps_newline.ensures ∙ w.if-keeps_newline.false in
          ap (λ n. replacement t p n s) (ap (offset t) at ∙ offset-end t) ∙ end-plain t c.args.splice.now.from c.args.splice.now.to s c.requires.ends.from at keeps)
      | else-splice-line_count-via-else-splice-line_count w ↦ (let inside : c.args.splice.now.to.line < length (lines_of t) = omega (arith, line-le-count t c.args.splice.now.to c.requires.ends.to, different c.args.splice.now.to.line c.line_count.result w.if-splice-line_count.false, c.line_count.ensures.value) in
          inside-plain t p q s (offset-below t c.args.splice.now.to (place_by_line t c.args.splice.now.to c.requires.ends.to inside)))
    ] in
    let more : 0 < length s = omega (arith, eqb-false (length c.as_slice-chars.result.now) 0 (sym c.is_empty.ensures ∙ c.if-not-is_empty.true), ap length c.as_slice-chars.ensures) in
    ap not c.if-not-is_empty.true ∙ sym (plain-more t p q s same more)

pub returns-else-not-is_empty : goal.returns-else-not-is_empty
returns-else-not-is_empty c =
    let t : List ℕ = c.args.lines.now in
    let s : List ℕ = c.args.splice.now.text in
    let p : ℕ = offset t c.args.splice.now.from in
    let q : ℕ = offset t c.args.splice.now.to in
    let same : replacement t p q s ≡ exchange t p q s = elim c.else-splice-line_count.branch [
      | else-splice-line_count-via-then-splice-line_count+else-keeps_newline w ↦ (let at : c.args.splice.now.to ≡ end_coord t = end_by_line t c.args.splice.now.to c.requires.ends.to (omega (arith, w.if-splice-line_count.true, c.line_count.ensures.value)) in
          let keeps : ltb c.args.splice.now.from.line c.args.splice.now.to.line && ends_in_newline s ≡ false = ap (λ x. ltb c.args.splice.now.from.line c.args.splice.now.to.line && ends_in_newline x) (sym c.as_slice-chars.ensures) ∙ sym w.keeps_newline.ensures ∙ w.if-keeps_newline.false in
          ap (λ n. replacement t p n s) (ap (offset t) at ∙ offset-end t) ∙ end-plain t c.args.splice.now.from c.args.splice.now.to s c.requires.ends.from at keeps)
      | else-splice-line_count-via-else-splice-line_count w ↦ (let inside : c.args.splice.now.to.line < length (lines_of t) = omega (arith, line-le-count t c.args.splice.now.to c.requires.ends.to, different c.args.splice.now.to.line c.line_count.result w.if-splice-line_count.false, c.line_count.ensures.value) in
          inside-plain t p q s (offset-below t c.args.splice.now.to (place_by_line t c.args.splice.now.to c.requires.ends.to inside)))
    ] in
    let none : length s ≡ 0 = omega (arith, eqb-true (length c.as_slice-chars.result.now) 0 (sym c.is_empty.ensures ∙ c.if-not-is_empty.false), ap length c.as_slice-chars.ensures) in
    ap not (c.is_at_most-else-not-is_empty.ensures ∙ is_at_most-offset t c.taken_to.result c.args.splice.now.from c.taken_to.ensures.place c.requires.ends.from ∙ ap (λ n. leb n p) c.taken_to.ensures.value) ∙ sym (plain-none t p q s same none)
