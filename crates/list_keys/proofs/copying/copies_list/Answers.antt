use Rattle.std.proofs.Common.{◌≡◌, ◌++◌, length, filter_map, is_some, true, false, sym, ap, ◌∙◌, arith, length-append}
use Rattle.std.proofs.lemmas.Bool.{false≢true}
use Rattle.std.proofs.lemmas.List.{length-map}
use Rattle.selection_set.specs.Inside.{range_of}
use Rattle.selection_set.specs.Listing.{ranges_of}
use Rattle.selection_set.specs.Held.{selected, main_of}
use Rattle.list_keys.specs.Copies.{copy_of}
use Rattle.list_keys.proofs.EachLemmas.{made-le, made-room, made-room-behind, made-whole}
use Rattle.list_keys.proofs.RowLemmas.{main-found, main-below, made-before, copied-place, kept-place}
use Rattle.list_keys.proofs.copying.copies_list.Goals as goal

pub returns-in_err-push_copies-clause-few : goal.returns-in_err-push_copies-clause-few
returns-in_err-push_copies-clause-few c = λ h.
    absurd (false≢true (c.in_err-push_copies.ensures.few (omega (
      arith,
      h,
      c.in_ok-list.ensures.inline (omega (arith, h, ap length c.as_slice-all.ensures.value, length-map c.args.sels.now.list (range_of c.args.lines.now), length-append (ranges_of c.args.lines.now c.args.sels.now.list) (filter_map (copy_of c.args.direction c.args.lines.now) (ranges_of c.args.lines.now c.args.sels.now.list)))),
      ap length c.in_ok-list.ensures.ok,
      ap length c.as_slice-all.ensures.value,
      length-map c.args.sels.now.list (range_of c.args.lines.now),
      length-append (ranges_of c.args.lines.now c.args.sels.now.list) (filter_map (copy_of c.args.direction c.args.lines.now) (ranges_of c.args.lines.now c.args.sels.now.list)),
      ap (λ l. length (filter_map (copy_of c.args.direction c.args.lines.now) (ranges_of c.args.lines.now l))) c.as_slice-all.ensures.value,
      made-le c.args.lines.now (copy_of c.args.direction c.args.lines.now) c.as_slice-all.result.now c.main-main.result,
    ))))

pub returns-in_err-push_copy-clause-few : goal.returns-in_err-push_copy-clause-few
returns-in_err-push_copy-clause-few c = λ h.
    absurd (false≢true (c.in_err-push_copy.ensures.few (made-room c.args.lines.now (copy_of c.args.direction c.args.lines.now) c.as_slice-all.result.now c.main-main.result c.copy-own.result c.in_ok-list.list.items c.push_copies.new.list.items c.push_copies.new.list.capacity (main-below c.args.lines.now c.args.sels.now c.as_slice-all.result.now c.main-main.result c.requires c.as_slice-all.ensures.value c.main-main.ensures.value) c.copy-own.ensures.copies c.in_ok-push_copies.ensures.ranges (omega (
      arith,
      h,
      c.in_ok-list.ensures.inline (omega (arith, h, ap length c.as_slice-all.ensures.value, length-map c.args.sels.now.list (range_of c.args.lines.now), length-append (ranges_of c.args.lines.now c.args.sels.now.list) (filter_map (copy_of c.args.direction c.args.lines.now) (ranges_of c.args.lines.now c.args.sels.now.list)))),
      ap length c.in_ok-list.ensures.ok,
      ap length c.as_slice-all.ensures.value,
      length-map c.args.sels.now.list (range_of c.args.lines.now),
      length-append (ranges_of c.args.lines.now c.args.sels.now.list) (filter_map (copy_of c.args.direction c.args.lines.now) (ranges_of c.args.lines.now c.args.sels.now.list)),
      ap (λ l. length (filter_map (copy_of c.args.direction c.args.lines.now) (ranges_of c.args.lines.now l))) c.as_slice-all.ensures.value,
      c.in_ok-push_copies.ensures.capacity,
    )))))

pub returns-in_err-push_copies-2-clause-few : goal.returns-in_err-push_copies-2-clause-few
returns-in_err-push_copies-2-clause-few c = λ h.
    absurd (false≢true (c.in_err-push_copies-2.ensures.few (made-room-behind c.args.lines.now (copy_of c.args.direction c.args.lines.now) c.as_slice-all.result.now c.main-main.result c.copy-own.result c.in_ok-list.list.items c.push_copies.new.list.items c.push_copy.new.list.items c.push_copy.new.list.capacity (main-below c.args.lines.now c.args.sels.now c.as_slice-all.result.now c.main-main.result c.requires c.as_slice-all.ensures.value c.main-main.ensures.value) c.copy-own.ensures.copies c.in_ok-push_copies.ensures.ranges c.in_ok-push_copy.ensures.items (omega (
      arith,
      h,
      c.in_ok-list.ensures.inline (omega (arith, h, ap length c.as_slice-all.ensures.value, length-map c.args.sels.now.list (range_of c.args.lines.now), length-append (ranges_of c.args.lines.now c.args.sels.now.list) (filter_map (copy_of c.args.direction c.args.lines.now) (ranges_of c.args.lines.now c.args.sels.now.list)))),
      ap length c.in_ok-list.ensures.ok,
      ap length c.as_slice-all.ensures.value,
      length-map c.args.sels.now.list (range_of c.args.lines.now),
      length-append (ranges_of c.args.lines.now c.args.sels.now.list) (filter_map (copy_of c.args.direction c.args.lines.now) (ranges_of c.args.lines.now c.args.sels.now.list)),
      ap (λ l. length (filter_map (copy_of c.args.direction c.args.lines.now) (ranges_of c.args.lines.now l))) c.as_slice-all.ensures.value,
      c.in_ok-push_copies.ensures.capacity,
      c.in_ok-push_copy.ensures.capacity,
    )))))

pub returns-then-is_some-clause-ranges : goal.returns-then-is_some-clause-ranges
returns-then-is_some-clause-ranges c =
    made-whole c.args.lines.now (copy_of c.args.direction c.args.lines.now) c.as_slice-all.result.now c.main-main.result c.copy-own.result c.push_copies.new.list.items c.push_copy.new.list.items c.push_copies-2.new.list.items (ranges_of c.args.lines.now c.in_ok-list.list.items) (main-below c.args.lines.now c.args.sels.now c.as_slice-all.result.now c.main-main.result c.requires c.as_slice-all.ensures.value c.main-main.ensures.value) c.copy-own.ensures.copies c.in_ok-push_copies.ensures.ranges c.in_ok-push_copy.ensures.items c.in_ok-push_copies-2.ensures.ranges
    ∙ ap (λ l. ranges_of c.args.lines.now l ++ filter_map (copy_of c.args.direction c.args.lines.now) (ranges_of c.args.lines.now c.as_slice-all.result.now)) c.in_ok-list.ensures.ok
    ∙ ap (λ l. ranges_of c.args.lines.now l ++ filter_map (copy_of c.args.direction c.args.lines.now) (ranges_of c.args.lines.now l)) c.as_slice-all.ensures.value

pub returns-then-is_some-clause-main : goal.returns-then-is_some-clause-main
returns-then-is_some-clause-main c =
    let made : is_some (copy_of c.args.direction c.args.lines.now (main_of (selected c.args.lines.now c.args.sels.now))) ≡ true = main-found c.args.lines.now (copy_of c.args.direction c.args.lines.now) c.args.sels.now c.as_slice-all.result.now c.main-main.result c.copy-own.result c.is_some.result true c.requires c.as_slice-all.ensures.value c.main-main.ensures.value c.copy-own.ensures.copies c.is_some.ensures c.if-is_some.true in
    omega (
      arith,
      c.len-place.ensures.value,
      made-before c.args.lines.now (copy_of c.args.direction c.args.lines.now) c.args.sels.now c.as_slice-all.result.now c.main-main.result c.in_ok-list.list.items c.push_copies.new.list.items c.as_slice-all.ensures.value c.main-main.ensures.value c.in_ok-push_copies.ensures.ranges,
      ap length c.in_ok-list.ensures.ok,
      ap length c.as_slice-all.ensures.value,
      length-map c.args.sels.now.list (range_of c.args.lines.now),
      copied-place (copy_of c.args.direction c.args.lines.now) (selected c.args.lines.now c.args.sels.now) made,
    )

pub returns-clause-ranges : goal.returns-clause-ranges
returns-clause-ranges c =
    made-whole c.args.lines.now (copy_of c.args.direction c.args.lines.now) c.as_slice-all.result.now c.main-main.result c.copy-own.result c.push_copies.new.list.items c.push_copy.new.list.items c.push_copies-2.new.list.items (ranges_of c.args.lines.now c.in_ok-list.list.items) (main-below c.args.lines.now c.args.sels.now c.as_slice-all.result.now c.main-main.result c.requires c.as_slice-all.ensures.value c.main-main.ensures.value) c.copy-own.ensures.copies c.in_ok-push_copies.ensures.ranges c.in_ok-push_copy.ensures.items c.in_ok-push_copies-2.ensures.ranges
    ∙ ap (λ l. ranges_of c.args.lines.now l ++ filter_map (copy_of c.args.direction c.args.lines.now) (ranges_of c.args.lines.now c.as_slice-all.result.now)) c.in_ok-list.ensures.ok
    ∙ ap (λ l. ranges_of c.args.lines.now l ++ filter_map (copy_of c.args.direction c.args.lines.now) (ranges_of c.args.lines.now l)) c.as_slice-all.ensures.value

pub returns-clause-main : goal.returns-clause-main
returns-clause-main c =
    let made : is_some (copy_of c.args.direction c.args.lines.now (main_of (selected c.args.lines.now c.args.sels.now))) ≡ false = main-found c.args.lines.now (copy_of c.args.direction c.args.lines.now) c.args.sels.now c.as_slice-all.result.now c.main-main.result c.copy-own.result c.is_some.result false c.requires c.as_slice-all.ensures.value c.main-main.ensures.value c.copy-own.ensures.copies c.is_some.ensures c.if-is_some.false in
    c.main-main.ensures.value ∙ sym (kept-place (copy_of c.args.direction c.args.lines.now) (selected c.args.lines.now c.args.sels.now) made)
