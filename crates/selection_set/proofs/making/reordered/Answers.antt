use Rattle.std.proofs.Common.{◌≡◌, ◌==◌, length, map, sym, ap, ◌∙◌}
use Rattle.std.specs.Prelude.{unwrap_or}
use Rattle.std.specs.List.{position, refill}
use Rattle.std.proofs.lemmas.List.{length-map}
use Rattle.selection_set.specs.declared.order.Numbered.{Numbered}
use Rattle.selection_set.specs.Numbering.{numbered_from}
use Rattle.selection_set.proofs.InOrderLemmas.{refilled}
use Rattle.selection_set.proofs.OrderLemmas.{IsOrderOf, sel_alone, main_place, order-list, order-length, order-settles}
use Rattle.selection_set.proofs.PairLemmas.{order-of, settles-parts}
use Rattle.selection_set.proofs.making.reordered.Goals as goal

pub put_back-requires : goal.put_back-requires
put_back-requires c =
    let o : IsOrderOf c.args.list.items c.args.main c.sort.new.all.items = order-of _ _ c.in_ok-all.all.items _ c.requires.main c.requires.few (c.in_ok-all.ensures.ok ∙ ap (numbered_from 0) c.as_slice.ensures) c.in_ok-all.ensures.small c.sort.ensures.permutation c.sort.ensures.order in
    ap length c.as_slice-3.ensures ∙ order-length _ _ _ o ∙ sym (ap length c.as_mut_slice.ensures.value)

pub of_list-sels-requires : goal.of_list-sels-requires
of_list-sels-requires c =
    let o : IsOrderOf c.args.list.items c.args.main c.sort.new.all.items = order-of _ _ c.in_ok-all.all.items _ c.requires.main c.requires.few (c.in_ok-all.ensures.ok ∙ ap (numbered_from 0) c.as_slice.ensures) c.in_ok-all.ensures.small c.sort.ensures.permutation c.sort.ensures.order in
    let place : c.unwrap_or-place.result ≡ main_place c.args.main c.sort.new.all.items = c.unwrap_or-place.ensures ∙ ap (λ p. unwrap_or p 0) (c.place_of.ensures ∙ ap (position (λ (n : Numbered). n.number == c.args.main)) c.as_slice-2.ensures) in
    let back : c.put_back.new.list ≡ map sel_alone c.sort.new.all.items = c.put_back.ensures ∙ ap (map sel_alone) c.as_slice-3.ensures in
    let items : refill (length c.args.list.items) c.args.list.items c.put_back.new.list ≡ map sel_alone c.sort.new.all.items = refilled c.args.list.items c.put_back.new.list (ap length back ∙ length-map c.sort.new.all.items sel_alone ∙ order-length _ _ _ o) ∙ back in
    rw (items, place) (order-list _ _ _ o)

pub returns-clause-settles : goal.returns-clause-settles
returns-clause-settles c = λ text h.
    let o : IsOrderOf c.args.list.items c.args.main c.sort.new.all.items = order-of _ _ c.in_ok-all.all.items _ c.requires.main c.requires.few (c.in_ok-all.ensures.ok ∙ ap (numbered_from 0) c.as_slice.ensures) c.in_ok-all.ensures.small c.sort.ensures.permutation c.sort.ensures.order in
    let place : c.unwrap_or-place.result ≡ main_place c.args.main c.sort.new.all.items = c.unwrap_or-place.ensures ∙ ap (λ p. unwrap_or p 0) (c.place_of.ensures ∙ ap (position (λ (n : Numbered). n.number == c.args.main)) c.as_slice-2.ensures) in
    let back : c.put_back.new.list ≡ map sel_alone c.sort.new.all.items = c.put_back.ensures ∙ ap (map sel_alone) c.as_slice-3.ensures in
    let items : refill (length c.args.list.items) c.args.list.items c.put_back.new.list ≡ map sel_alone c.sort.new.all.items = refilled c.args.list.items c.put_back.new.list (ap length back ∙ length-map c.sort.new.all.items sel_alone ∙ order-length _ _ _ o) ∙ back in
    let old : c.of_list-sels.result ≡ record { list = map sel_alone c.sort.new.all.items; main = main_place c.args.main c.sort.new.all.items } = c.of_list-sels.ensures ∙ (cc (items, place)) in
    order-settles _ _ _ c.settle.new.self text o h (settles-parts c.of_list-sels.result c.settle.new.self _ _ old c.settle.ensures.settles text)
