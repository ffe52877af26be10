-- What a register holds after one was set.
use Rattle.std.proofs.Common.{◌≡◌, ◌≢◌, ℕ, List, [], eqb, false, cond, refl, ap, sym, ◌∙◌}
use Rattle.std.proofs.lemmas.Bool.{eq-eqb, ne_eqb, eqb-true}
use Rattle.tables.specs.Tables.{first_where, put_where}
use Rattle.tables.proofs.TableLemmas.{by_test, first-put_same, first-put_other}
use Rattle.kak_registers.specs.declared.row.Register.{Register}
use Rattle.kak_registers.specs.Contents.{is_register_row, row_of_register, strings_of, set_in}

pub set-same : (name : ℕ) (strings : List (List ℕ)) (rows : List Register) → name ≢ 95 → strings_of name (set_in name strings rows) ≡ strings
set-same name strings rows h =
    let plain : eqb name 95 ≡ false = ne_eqb name 95 h in
    ap (λ b. cond b [] (first_where (is_register_row name) (row_of_register name []) (cond b rows (put_where (is_register_row name) (row_of_register name strings) rows))).values) plain
    ∙ ap (λ (r : Register). r.values) (first-put_same (is_register_row name) (row_of_register name strings) (row_of_register name []) rows (eq-eqb name name refl))

pub set-other : (name other : ℕ) (strings : List (List ℕ)) (rows : List Register) → name ≢ other → strings_of other (set_in name strings rows) ≡ strings_of other rows
set-other name other strings rows h =
    by_test (λ b. cond (eqb other 95) [] (first_where (is_register_row other) (row_of_register other []) (cond b rows (put_where (is_register_row name) (row_of_register name strings) rows))).values ≡ strings_of other rows) (eqb name 95)
    (λ _. refl)
    (λ _. ap (λ (r : Register). cond (eqb other 95) [] r.values) (first-put_other (is_register_row name) (is_register_row other) (row_of_register name strings) (row_of_register other []) rows (λ r e. ne_eqb r.name other (λ same. h (sym (eqb-true r.name name e) ∙ same))) (ne_eqb name other h)))
