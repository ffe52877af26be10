use Rattle.std.proofs.Common.{◌≡◌, ◌<◌, List, ℕ, length, sym, subst, ◌∙◌, arith, eqb-true}
use Rattle.std.proofs.lemmas.Bool.{eqb-false}
use Rattle.text_model.specs.Texts.{offset}
use Rattle.text_model.specs.Changes.{erasure}
use Rattle.text_model.proofs.PlaceLemmas.{offset-le}
use Rattle.buffer_store.specs.Stored.{IsKeptAlone}
use Rattle.buffer_store.proofs.KeepingLemmas.{kept-erasure, none-taken}
use Rattle.buffer_store.proofs.keeping.erase.Goals as goal

pub returns-then-is_empty-clause-kept : goal.returns-then-is_empty-clause-kept
returns-then-is_empty-clause-kept c =
    let none : length c.in_ok-shift.taken.items ≡ 0 = omega (arith, c.in_ok-shift.taken.ok.0, eqb-true _ 0 (sym c.is_empty.ensures ∙ c.if-is_empty.true)) in
    none-taken c.args.lines.now c.erase.new.self (offset c.args.lines.now c.args.from) (offset c.args.lines.now c.args.to) c.in_ok-shift.taken.items c.in_ok-shift.ensures.valid.0 c.requires.ordered (offset-le c.args.lines.now c.args.to c.requires.to) none c.in_ok-shift.ensures.taken c.in_ok-shift.ensures.text

pub returns-clause-kept : goal.returns-clause-kept
returns-clause-kept c =
    let some : 0 < length c.in_ok-shift.taken.items = omega (arith, c.in_ok-shift.taken.ok.0, eqb-false _ 0 (sym c.is_empty.ensures ∙ c.if-is_empty.false)) in
    let P : List ℕ → Type 0 = λ s. IsKeptAlone c.args.lines.now c.erase.new.self (erasure c.args.lines.now (offset c.args.lines.now c.args.from) (offset c.args.lines.now c.args.to)) (record { shift = c.in_ok-shift.shift; chars = s }) in
    subst P (sym c.of_vec.ensures) (kept-erasure c.args.lines.now c.erase.new.self c.args.from c.args.to c.in_ok-shift.taken.items c.in_ok-shift.shift c.in_ok-shift.ensures.valid.0 c.in_ok-shift.ensures.valid.1 c.requires.to c.requires.ordered some c.in_ok-shift.ensures.taken c.in_ok-shift.ensures.text c.in_ok-shift.ensures.shift c.in_ok-shift.ensures.begin)
