use Rattle.std.proofs.Common.{◌++◌, ap, ap₂, ◌∙◌, arith, List, ℕ}
use Rattle.std.specs.Prelude.{decimal}
use Rattle.std.specs.Str.{chars}
use Rattle.std.proofs.lemmas.Str.{chars-IsAscii}
use Rattle.std.proofs.lemmas.Fmt.{IsAscii-decimal}
use Rattle.kak_world.proofs.command_error.with_number.Goals as goal

pub returns : goal.returns
returns c =
    c.in_ok-extend_from_slice.ensures.ok
    ∙ ap₂ (λ (xs : List ℕ) (ys : List ℕ). xs ++ ys) c.in_ok-whole.ensures
    (c.as_slice.ensures ∙ c.in_ok-digits-2.ensures ∙ ap chars (c.as_str.ensures.value ∙ c.in_ok-digits.ensures.ok) ∙ chars-IsAscii (decimal c.args.number) (IsAscii-decimal c.args.number (omega (arith, c.ranges.number.fits))))
