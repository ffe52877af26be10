use Rattle.std.proofs.Common.{◌≡◌, ◌<◌, List, ℕ, length, sym, ap, subst, ◌∙◌, arith}
use Rattle.std.proofs.lemmas.Bool.{eqb-false}
use Rattle.text_model.specs.Texts.{offset}
use Rattle.text_model.specs.Changes.{put_in, inserted, insertion}
use Rattle.text_model.specs.declared.TheConstants.{MAX_CHARS}
use Rattle.line_buffer.specs.declared.lines.LinesError.TheVariants.{TextFull}
use Rattle.buffer_store.specs.Stored.{IsKeptAlone}
use Rattle.buffer_store.proofs.KeepingLemmas.{put_in-at, inserted-put, kept-insertion, err_to}
use Rattle.buffer_store.proofs.keeping.insert.Goals as goal

pub returns-in-Ok-clause-kept : goal.returns-in-Ok-clause-kept
returns-in-Ok-clause-kept c =
    let some : 0 < length c.args.chars.now = omega (arith, eqb-false (length c.args.chars.now) 0 (sym c.is_empty.ensures ∙ c.if-is_empty.false)) in
    let real : c.as_slice.result.now ≡ put_in c.args.lines.now (offset c.args.lines.now c.args.at) c.args.chars.now =
    c.as_slice.ensures ∙ c.in_ok-put.ensures ∙ put_in-at c.args.lines.now c.args.at c.args.chars.now _ c.requires some c.line_count.ensures.value in
    let P : List ℕ → Type 0 = λ s. IsKeptAlone c.args.lines.now c.insert.new.self (insertion c.args.lines.now (offset c.args.lines.now c.args.at) c.args.chars.now) (record { shift = c.in-Ok.shift; chars = s }) in
    subst P c.as_slice.ensures (kept-insertion c.args.lines.now c.insert.new.self c.args.at c.args.chars.now c.as_slice.result.now c.in-Ok.shift c.in-Ok.ensures.valid.0 c.in-Ok.ensures.valid.1 c.requires some real c.in-Ok.ensures.text c.in-Ok.ensures.shift c.in-Ok.ensures.begin)

pub returns-in-Ok-clause-room : goal.returns-in-Ok-clause-room
returns-in-Ok-clause-room c =
    let some : 0 < length c.args.chars.now = omega (arith, eqb-false (length c.args.chars.now) 0 (sym c.is_empty.ensures ∙ c.if-is_empty.false)) in
    let real : c.as_slice.result.now ≡ put_in c.args.lines.now (offset c.args.lines.now c.args.at) c.args.chars.now =
    c.as_slice.ensures ∙ c.in_ok-put.ensures ∙ put_in-at c.args.lines.now c.args.at c.args.chars.now _ c.requires some c.line_count.ensures.value in
    omega (arith, ap length (inserted-put c.args.lines.now c.args.at c.args.chars.now c.as_slice.result.now c.requires real), ap length c.in-Ok.ensures.text, c.in-Ok.ensures.valid.1.small)

pub returns-in-Err-clause-full : goal.returns-in-Err-clause-full
returns-in-Err-clause-full c =
    let some : 0 < length c.args.chars.now = omega (arith, eqb-false (length c.args.chars.now) 0 (sym c.is_empty.ensures ∙ c.if-is_empty.false)) in
    let real : c.as_slice.result.now ≡ put_in c.args.lines.now (offset c.args.lines.now c.args.at) c.args.chars.now =
    c.as_slice.ensures ∙ c.in_ok-put.ensures ∙ put_in-at c.args.lines.now c.args.at c.args.chars.now _ c.requires some c.line_count.ensures.value in
    λ h. let over : MAX_CHARS < length (inserted c.args.lines.now (offset c.args.lines.now c.args.at) c.as_slice.result.now) = c.in-Err.ensures.full.0 (ap (err_to TextFull) h) in
    omega (arith, ap length (inserted-put c.args.lines.now c.args.at c.args.chars.now c.as_slice.result.now c.requires real))
