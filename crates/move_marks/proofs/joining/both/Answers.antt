use Rattle.std.proofs.Common.{◌≡◌, ◌+◌, length, get_or, ap, ap₂, ◌∙◌, arith}
use Rattle.selection_set.specs.declared.sel.Sel.{Sel}
use Rattle.move_marks.specs.Joining.{in_one, count_ahead}
use Rattle.move_marks.proofs.MergeLemmas.{one-length}
use Rattle.move_marks.proofs.LeftLemmas.{joins-ok}
use Rattle.move_marks.proofs.joining.both.Goals as goal

pub settled-requires-clause-main : goal.settled-requires-clause-main
settled-requires-clause-main c =
    let list : c.in_ok-list.list.items ≡ in_one c.args.first.now.list c.args.second.now.list = c.in_ok-list.ensures.ok ∙ ap₂ in_one c.as_slice-2.ensures.value c.as_slice-3.ensures.value in
    omega (arith, ap length list, one-length c.args.first.now.list c.args.second.now.list, c.main-2.ensures.value, c.main-2.ensures.valid.main_is, c.count_ahead.ensures.few, ap length c.as_slice.ensures.value)

pub settled-requires-clause-few : goal.settled-requires-clause-few
settled-requires-clause-few c =
    let list : c.in_ok-list.list.items ≡ in_one c.args.first.now.list c.args.second.now.list = c.in_ok-list.ensures.ok ∙ ap₂ in_one c.as_slice-2.ensures.value c.as_slice-3.ensures.value in
    omega (arith, ap length list, one-length c.args.first.now.list c.args.second.now.list, c.requires)

pub returns-clause-settles : goal.returns-clause-settles
returns-clause-settles c =
    let list : c.in_ok-list.list.items ≡ in_one c.args.first.now.list c.args.second.now.list = c.in_ok-list.ensures.ok ∙ ap₂ in_one c.as_slice-2.ensures.value c.as_slice-3.ensures.value in
    let ahead : c.count_ahead.result ≡ count_ahead c.at-main.result.low c.args.first.now.list = c.count_ahead.ensures.value ∙ ap (count_ahead c.at-main.result.low) c.as_slice.ensures.value in
    let at : (d : Sel) → c.at-main.result ≡ get_or c.args.second.now.list c.args.second.now.main d = λ d. c.at-main.ensures d ∙ ap (λ n. get_or c.args.second.now.list n d) c.main.ensures.value in
    joins-ok c.settled.result c.args.first.now c.args.second.now c.at-main.result c.in_ok-list.list.items (c.main-2.result + c.count_ahead.result) at c.main.ensures.valid.main_is list (ap₂ (λ m n. m + n) c.main-2.ensures.value ahead) c.settled.ensures.settles

pub returns-clause-few : goal.returns-clause-few
returns-clause-few c = λ h.
    let list : c.in_ok-list.list.items ≡ in_one c.args.first.now.list c.args.second.now.list = c.in_ok-list.ensures.ok ∙ ap₂ in_one c.as_slice-2.ensures.value c.as_slice-3.ensures.value in
    c.settled.ensures.few (omega (arith, ap length list, one-length c.args.first.now.list c.args.second.now.list, h))
