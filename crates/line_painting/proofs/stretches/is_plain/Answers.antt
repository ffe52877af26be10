use Rattle.std.proofs.Common.{◌≡◌, ◌<◌, ◌≤◌, false, inl, inr, eqb-true, sym, subst, arith, rules}
use Rattle.std.proofs.lemmas.Bool.{cases_lt}
use Rattle.line_painting.specs.Laws.{IsPlainChar}
use Rattle.line_painting.proofs.PlainLemmas.{ascii}
use Rattle.line_painting.proofs.stretches.is_plain.Goals as goal

pub returns-then-matches : goal.returns-then-matches
returns-then-matches c =
    let low : 0x20 ≤ c.args.c = search rules in
    let high : c.args.c < 0x7F = search rules in
    λ _. elim (cases_lt 0x20 c.args.c) [
      | inl lt ↦ ascii.graphic false c.args.c (omega (arith, lt)) high
      | inr le ↦ let space : 32 ≡ c.args.c = omega (arith, le, low) in subst (IsPlainChar false) space ascii.space
    ]

pub returns : goal.returns
returns c = λ e. subst (IsPlainChar false) (sym (eqb-true c.args.c 10 e)) ascii.newline
