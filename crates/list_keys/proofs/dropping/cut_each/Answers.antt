use Rattle.std.proofs.Common.{rules, ◌<◌, length, filter_map, Some, refl, sym, ap, ◌∙◌, arith}
use Rattle.std.proofs.lemmas.Bool.{false≢true}
use Rattle.std.proofs.lemmas.List.{length-map}
use Rattle.selection_set.specs.Inside.{range_of}
use Rattle.selection_set.specs.Listing.{ranges_of}
use Rattle.selection_set.specs.Held.{selected}
use Rattle.list_keys.specs.Rows.{main_left}
use Rattle.list_keys.specs.Cuts.{cut_by}
use Rattle.list_keys.proofs.RowLemmas.{made-few, not-empty, left-below, given-selected, some-settled}
use Rattle.list_keys.proofs.dropping.cut_each.Goals as goal

pub returns-in_err-list-clause-too_many : goal.returns-in_err-list-clause-too_many
returns-in_err-list-clause-too_many c = (search rules, λ m. absurd (omega (arith, m, made-few (cut_by c.args.how c.args.lines.now) (ranges_of c.args.lines.now c.args.sels.now.list), length-map c.args.sels.now.list (range_of c.args.lines.now), c.in_err-list.ensures.allowed)))

pub of_vec-requires : goal.of_vec-requires
of_vec-requires c =
    let some : 0 < length (filter_map (cut_by c.args.how c.args.lines.now) (ranges_of c.args.lines.now c.args.sels.now.list)) = omega (arith, not-empty (length c.in_ok-list.list.items) c.is_empty.result c.is_empty.ensures c.if-is_empty.false, ap length c.in_ok-list.ensures.ranges, length-map c.in_ok-list.list.items (range_of c.args.lines.now)) in
    omega (arith, c.in_ok-list.ensures.main, left-below c.args.lines.now (cut_by c.args.how c.args.lines.now) c.args.sels.now c.requires some, ap length c.in_ok-list.ensures.ranges, length-map c.in_ok-list.list.items (range_of c.args.lines.now))

pub returns-in_err-left-clause-few : goal.returns-in_err-left-clause-few
returns-in_err-left-clause-few c = λ h.
    absurd (false≢true (c.in_err-left.ensures.few (omega (arith, h, made-few (cut_by c.args.how c.args.lines.now) (ranges_of c.args.lines.now c.args.sels.now.list), length-map c.args.sels.now.list (range_of c.args.lines.now), ap length c.in_ok-list.ensures.ranges, length-map c.in_ok-list.list.items (range_of c.args.lines.now)))))

pub returns-clause-leaves : goal.returns-clause-leaves
returns-clause-leaves c =
    let some : 0 < length (filter_map (cut_by c.args.how c.args.lines.now) (ranges_of c.args.lines.now c.args.sels.now.list)) = omega (arith, not-empty (length c.in_ok-list.list.items) c.is_empty.result c.is_empty.ensures c.if-is_empty.false, ap length c.in_ok-list.ensures.ranges, length-map c.in_ok-list.list.items (range_of c.args.lines.now)) in
    let below : c.in_ok-list.main < length c.in_ok-list.list.items = omega (arith, c.in_ok-list.ensures.main, left-below c.args.lines.now (cut_by c.args.how c.args.lines.now) c.args.sels.now c.requires some, ap length c.in_ok-list.ensures.ranges, length-map c.in_ok-list.list.items (range_of c.args.lines.now)) in
    ap Some (given-selected c.args.lines.now _ c.in_ok-list.list.items c.in_ok-list.main (record { list = filter_map (cut_by c.args.how c.args.lines.now) (ranges_of c.args.lines.now c.args.sels.now.list); main = main_left (cut_by c.args.how c.args.lines.now) (selected c.args.lines.now c.args.sels.now) }) c.in_ok-left.left
    refl c.in_ok-list.ensures.inside c.in_ok-list.ensures.ranges c.in_ok-list.ensures.main below c.in_ok-left.ensures.settles)
    ∙ sym (some-settled (filter_map (cut_by c.args.how c.args.lines.now) (ranges_of c.args.lines.now c.args.sels.now.list)) (main_left (cut_by c.args.how c.args.lines.now) (selected c.args.lines.now c.args.sels.now)) some)
