use Rattle.std.proofs.Common.{ap, sym, subst, ◌∙◌}
use Rattle.text_model.specs.Texts.{offset, IsPlace}
use Rattle.list_model.specs.Ranges.{cursor}
use Rattle.selection_set.proofs.CursorLemmas.{cursor-range_of, cursor-place}
use Rattle.selection_set.proofs.HeldLemmas.{main-sel}
use Rattle.selection_texts.specs.Telling.{place_told}
use Rattle.selection_texts.proofs.telling.main_cursor.Goals as goal

pub place_told-requires : goal.place_told-requires
place_told-requires c =
    let main = main-sel c.args.lines.now c.args.sels.now c.main.result c.at.result c.main.ensures.value c.at.ensures c.requires in
    subst (IsPlace c.args.lines.now) (sym c.cursor.ensures) (cursor-place c.args.lines.now c.at.result main.inside)

pub returns : goal.returns
returns c =
    let main = main-sel c.args.lines.now c.args.sels.now c.main.result c.at.result c.main.ensures.value c.at.ensures c.requires in
    c.place_told.ensures ∙ ap (place_told c.args.columns c.args.lines.now) (ap (offset c.args.lines.now) c.cursor.ensures ∙ sym (cursor-range_of c.args.lines.now c.at.result) ∙ ap cursor main.same)
