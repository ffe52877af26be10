use Rattle.std.proofs.Common.{◌≡◌, ◌+◌, ◌<◌, ◌^◌, ◌∙◌, rules}
use Rattle.std.specs.Prelude.{string_bytes}
use Rattle.std.proofs.lemmas.Result.{IfOk-weaker}
use Rattle.draw_model.proofs.ModeLemmas.{mode-chars, written}
use Rattle.draw_model.proofs.status.place_chars.Goals as goal

pub returns : goal.returns
returns c =
    let h : string_bytes c.in_ok-text.text ≡ written c.from.result c.from-2.result c.name_of-name.result.now c.args.main c.args.count c.args.number = c.in_ok-text.ensures.ok in
    let line : c.from.result + 1 < 2 ^ 64 = search rules in
    let column : c.from-2.result + 1 < 2 ^ 64 = search rules in
    let nth : c.args.main + 1 < 2 ^ 64 = search rules in
    let count : c.args.count < 2 ^ 64 = search rules in
    let number : c.args.number < 2 ^ 64 = search rules in
    IfOk-weaker c.from_str.result _ _
    (λ text e sels m n. mode-chars c.args.at c.args.mode sels c.from.result c.from-2.result c.args.main c.args.count c.args.number c.name_of-name.result.now c.as_str.result.now text
    c.from.ensures c.from-2.ensures c.name_of-name.ensures line column nth count number (c.as_str.ensures.value ∙ h) e m n)
    c.from_str.ensures
