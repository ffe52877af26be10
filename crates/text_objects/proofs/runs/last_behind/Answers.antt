use Rattle.std.proofs.Common.{◌≡◌, ℕ, ◌-◌, slice_index, true, false, sym, ap, ◌∙◌, arith}
use Rattle.text_model.specs.Texts.{offset}
use Rattle.text_model.proofs.PlaceLemmas.{offset-below}
use Rattle.text_objects.specs.CharKinds.{is_char_of}
use Rattle.text_objects.proofs.RunLemmas.{chars-end-here, chars-end-on}
use Rattle.text_objects.proofs.runs.last_behind.Goals as goal

pub returns-then-not-is_char_of-clause-value : goal.returns-then-not-is_char_of-clause-value
returns-then-not-is_char_of-clause-value c =
    let fails : is_char_of c.args.kind (slice_index c.args.lines.now (offset c.args.lines.now c.in-Some.next)) ≡ false = ap (is_char_of c.args.kind) (sym c.char_at.ensures) ∙ sym c.is_char_of.ensures ∙ c.if-not-is_char_of.true in
    sym (ap (λ (n : ℕ). n - 1) (sym c.loop-next.invariant.same) ∙ chars-end-here (is_char_of c.args.kind) c.args.lines.now _ _ c.in-Some.ensures.next.1 (offset-below c.args.lines.now c.in-Some.next c.in-Some.ensures.next.0) fails)

pub loop-next-smaller : goal.loop-next-smaller
loop-next-smaller c = omega (arith, c.in-Some.ensures.next.1, offset-below c.args.lines.now c.in-Some.next c.in-Some.ensures.next.0)

pub loop-next-preserved : goal.loop-next-preserved
loop-next-preserved c =
    let met : is_char_of c.args.kind (slice_index c.args.lines.now (offset c.args.lines.now c.in-Some.next)) ≡ true = ap (is_char_of c.args.kind) (sym c.char_at.ensures) ∙ sym c.is_char_of.ensures ∙ c.if-not-is_char_of.false in
    record {
      place = c.in-Some.ensures.next.0;
      same = chars-end-on (is_char_of c.args.kind) c.args.lines.now _ _ c.in-Some.ensures.next.1 (offset-below c.args.lines.now c.in-Some.next c.in-Some.ensures.next.0) met ∙ c.loop-next.invariant.same;
    }
