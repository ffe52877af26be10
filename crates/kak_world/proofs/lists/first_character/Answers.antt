use Rattle.selection_set.specs.declared.sel.Sel.{Sel}
use Rattle.std.proofs.Common.{◌≡◌, ◌∷◌, [], refl, ap, ◌∙◌}
use Rattle.selection_set.specs.Listing.{Listed}
use Rattle.selection_set.proofs.HeldLemmas.{one-held, one-selected}
use Rattle.kak_world.proofs.FirstPlace.{first_sel, first-inside}
use Rattle.kak_world.proofs.lists.first_character.Goals as goal

pub returns : goal.returns
returns c =
    let P : Sel → Listed = λ s. record { list = s ∷ []; main = 0 } in
    let same : c.one.result ≡ P first_sel = c.one.ensures ∙ ap P c.only.ensures in
    record {
      stored = c.len-stored.ensures.valid;
      held = one-held c.args.lines.now first_sel c.one.result same (first-inside c.args.lines.now c.len-stored.ensures.valid.is_text);
      first = one-selected c.args.lines.now first_sel c.one.result _ same refl;
    }
