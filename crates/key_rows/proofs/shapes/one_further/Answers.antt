use Rattle.std.proofs.Common.{◌≡◌, ℕ, ◌+◌, false, None, refl, ap, ◌∙◌, arith}
use Rattle.std.specs.Prelude.{min}
use Rattle.text_model.specs.Texts.{offset, last_place}
use Rattle.list_model.specs.Ranges.{Range}
use Rattle.text_model.proofs.PlaceLemmas.{offset-below}
use Rattle.key_rows.proofs.shapes.one_further.Goals.{in-Some, in-None}
use Rattle.key_rows.proofs.shapes.one_further.Goals as goal

pub returns-clause-further : goal.returns-clause-further
returns-clause-further c =
    let low : ℕ = offset c.args.lines.now c.args.sel.low in
    let at : offset c.args.lines.now c.match-next.high ≡ min (offset c.args.lines.now c.args.sel.high + 1) (last_place c.args.lines.now) =
    elim c.match-next.branch [
      | in-Some w ↦ ap (offset c.args.lines.now) w.high-is ∙ omega (arith, w.in-Some.ensures.next.1, offset-below c.args.lines.now _ w.in-Some.ensures.next.0)
      | in-None w ↦ ap (offset c.args.lines.now) w.high-is ∙ omega (arith, w.in-None.ensures.none.0 refl)
    ] in
    ap (λ h. let r : Range = record { low = low; high = h; turned = false; target = None } in r) at
