use Rattle.std.proofs.Common.{ap, ap₂, sym, ◌∙◌}
use Rattle.list_model.specs.Ranges.{Selected, anchor}
use Rattle.selection_set.specs.Listing.{range_between}
use Rattle.selection_set.specs.Held.{main_of}
use Rattle.selection_set.proofs.HeldLemmas.{one-held, one-selected}
use Rattle.kak_world.specs.Flat.{text_of, with_sels}
use Rattle.pointer_rows.proofs.pointing.extend.Goals as goal

pub set_sels-requires-clause-held : goal.set_sels-requires-clause-held
set_sels-requires-clause-held g c =
    let text = text_of c.args.who c.args.world.now.flat in
    one-held text c.extended-sel.result c.one.result c.one.ensures (c.extended-sel.ensures.inside text c.sels.ensures.held c.coord_at-place.ensures.place)

pub returns : goal.returns
returns g c =
    let text = text_of c.args.who c.args.world.now.flat in
    c.set_sels.ensures
    ∙ ap (λ (s : Selected). with_sels c.args.who s c.args.world.now.flat) (one-selected text c.extended-sel.result c.one.result _ c.one.ensures
    (c.extended-sel.ensures.extends text c.sels.ensures.held c.coord_at-place.ensures.place
    ∙ ap₂ (λ (s : Selected) o. range_between (anchor (main_of s)) o) (sym c.sels.ensures.sels) c.coord_at-place.ensures.value))
