use Rattle.std.proofs.Common.{ℕ, ◌-◌, length, Some, None, refl, ap, ◌∙◌}
use Rattle.std.specs.Prelude.{unwrap_or}
use Rattle.std.specs.declared.option.Option.{Option}
use Rattle.compact_chars.specs.Rows.{chars_of}
use Rattle.motion_keys.proofs.HolderLemmas.{held-is}
use Rattle.pointer_rows.proofs.places.column_holding.Goals as goal

pub returns-in-Some-clause-gives : goal.returns-in-Some-clause-gives
returns-in-Some-clause-gives c =
    ap (λ (found : Option ℕ). unwrap_or found (length (chars_of c.args.line) - 1)) (held-is (chars_of c.args.line) c.args.cell c.args.tabstop.columns (Some c.in-Some.column) c.in-Some.ensures.holds)

pub returns-in-None-clause-gives : goal.returns-in-None-clause-gives
returns-in-None-clause-gives c =
    ap (λ n. n - 1) c.len.ensures
    ∙ ap (λ (found : Option ℕ). unwrap_or found (length (chars_of c.args.line) - 1)) (held-is (chars_of c.args.line) c.args.cell c.args.tabstop.columns None (c.in-None.ensures.none refl))
