use Rattle.std.proofs.Common.{◌-◌, sym, ap, ◌∙◌, arith}
use Rattle.compact_chars.specs.Rows.{chars_of}
use Rattle.kak_text.specs.Cells.{display_column}
use Rattle.pointer_rows.proofs.PlaceLemmas.{newline-behind}
use Rattle.pointer_rows.proofs.places.newline_behind.Goals as goal

pub returns-clause-gives : goal.returns-clause-gives
returns-clause-gives c =
    ap (λ n. n - 1) c.len-2.ensures
    ∙ sym (newline-behind (chars_of c.args.line) c.args.cell c.args.tabstop.columns c.cell_of-end.result
    (c.cell_of-end.ensures.value ∙ ap (λ n. display_column (chars_of c.args.line) n c.args.tabstop.columns) c.len.ensures)
    (omega (arith, c.cell_of-end.ensures.small, c.len.ensures, c.requires.short, c.requires.far)))
