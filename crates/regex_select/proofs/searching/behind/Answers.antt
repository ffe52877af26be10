use Rattle.std.proofs.Common.{◌≡◌, ℕ, refl, ap, arith}
use Rattle.text_model.specs.Texts.{offset, last_place}
use Rattle.text_model.proofs.PlaceLemmas.{offset-end}
use Rattle.regex_select.proofs.searching.behind.Goals as goal

pub returns-in-None-clause-offset : goal.returns-in-None-clause-offset
returns-in-None-clause-offset c =
    let last : offset c.args.lines.now c.args.at ≡ last_place c.args.lines.now = c.in-None.ensures.none.0 refl in
    omega (arith, ap (λ (n : ℕ). offset c.args.lines.now (record { line = n; column = 0 })) c.line_count.ensures.value, offset-end c.args.lines.now, last, c.line_count.ensures.valid.is_text.some)
