use Rattle.std.proofs.Common.{[], cond, ap, sym, ◌∙◌, ◌<◌, ◌≤◌, length, arith}
use Rattle.std.proofs.lemmas.Bool.{ne_eqb}
use Rattle.tables.specs.Tables.{place_where, first_where}
use Rattle.tables.proofs.TableLemmas.{first-at, first-past}
use Rattle.kak_registers.specs.declared.row.Register.{Register}
use Rattle.kak_registers.specs.Contents.{is_register_row, row_of_register}
use Rattle.kak_registers.proofs.registers.Registers.strings.Goals as goal

pub returns-then-at-len : goal.returns-then-at-len
returns-then-at-len c =
    let plain = ne_eqb c.args.name 95 c.if-name-eq95.false in
    let found = c.place-at.ensures ∙ ap (place_where (is_register_row c.args.name)) c.as_slice.ensures.value in
    let inside : c.place-at.result < length c.self.inside.rows.items = omega arith in
    ap (λ (r : Register). r.values) (first-at (is_register_row c.args.name) (row_of_register c.args.name []) c.index.result.now c.self.inside.rows.items c.args.self.now c.place-at.result c.self.view_is found inside c.index.ensures)
    ∙ sym (ap (λ b. cond b [] (first_where (is_register_row c.args.name) (row_of_register c.args.name []) c.args.self.now).values) plain)

pub returns : goal.returns
returns c =
    let plain = ne_eqb c.args.name 95 c.if-name-eq95.false in
    let found = c.place-at.ensures ∙ ap (place_where (is_register_row c.args.name)) c.as_slice.ensures.value in
    let past : length c.self.inside.rows.items ≤ c.place-at.result = omega arith in
    c.self.invariant
    ∙ ap (λ (r : Register). r.values) (first-past (is_register_row c.args.name) (row_of_register c.args.name []) c.self.inside.rows.items c.args.self.now c.place-at.result c.self.view_is found past)
    ∙ sym (ap (λ b. cond b [] (first_where (is_register_row c.args.name) (row_of_register c.args.name []) c.args.self.now).values) plain)
