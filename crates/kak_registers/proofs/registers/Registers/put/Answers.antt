use Rattle.std.proofs.Common.{ap, ◌∙◌, ◌<◌, ◌≤◌, length, arith}
use Rattle.tables.specs.Tables.{place_where}
use Rattle.tables.proofs.TableLemmas.{put-at, put-past}
use Rattle.kak_registers.specs.Contents.{is_register_row, row_of_register}
use Rattle.kak_registers.proofs.registers.Registers.put.Goals as goal

pub returns-then-at-len-clause-ok : goal.returns-then-at-len-clause-ok
returns-then-at-len-clause-ok c =
    let found = c.place-at.ensures ∙ ap (place_where (is_register_row c.args.name)) c.as_slice.ensures.value in
    let inside : c.place-at.result < length c.self.inside.rows.items = omega arith in
    put-at (is_register_row c.args.name) (row_of_register c.args.name c.args.values) c.self.inside.rows.items c.args.self.now c.place-at.result c.self.view_is found inside

pub returns-clause-ok : goal.returns-clause-ok
returns-clause-ok c =
    let found = c.place-at.ensures ∙ ap (place_where (is_register_row c.args.name)) c.as_slice.ensures.value in
    let past : length c.self.inside.rows.items ≤ c.place-at.result = omega arith in
    c.in_ok-push.ensures.items ∙ put-past (is_register_row c.args.name) (row_of_register c.args.name c.args.values) c.self.inside.rows.items c.args.self.now c.place-at.result c.self.view_is found past
