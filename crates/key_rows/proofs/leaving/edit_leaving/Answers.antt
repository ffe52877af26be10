use Rattle.std.proofs.Common.{length, ap, arith}
use Rattle.std.proofs.lemmas.List.{length-map}
use Rattle.list_model.specs.Ranges.{Selected}
use Rattle.selection_set.specs.Inside.{range_of}
use Rattle.buffer_store.specs.Buffers.{flat_splices}
use Rattle.kak_world.specs.Flat.{text_of}
use Rattle.kak_world.proofs.WorldLaws.{acts_joined}
use Rattle.key_rows.proofs.LeavingLemmas.{is-edit, text-behind, acts-behind, held-behind, leaves-row, all-made}
use Rattle.key_rows.proofs.leaving.edit_leaving.Goals as goal

pub left_list-requires-clause-edit : goal.left_list-requires-clause-edit
left_list-requires-clause-edit g c = record {
  text = text_of c.args.who c.args.world.now.flat;
  edit = is-edit (text_of c.args.who c.args.world.now.flat) c.lines.result.now c.last_place-last.result c.args.splices.now c.in_ok-shifts.shifts.items c.as_slice.result.now c.lines.ensures c.last_place-last.ensures.place c.last_place-last.ensures.last c.last_place-last.ensures.valid c.requires.splices c.in_ok-shifts.ensures.steps c.as_slice.ensures.value c.in_ok-shifts.ensures.shifts;
}

pub left_list-requires-clause-main : goal.left_list-requires-clause-main
left_list-requires-clause-main g c = omega (arith, c.main-main.ensures.value, c.main-main.ensures.valid.main_is, c.requires.one_each, ap (λ (s : Selected). length s.list) c.sels.ensures.sels, length-map c.sels.result.now.list (range_of (text_of c.args.who c.args.world.now.flat)))

pub left_list-requires-clause-few : goal.left_list-requires-clause-few
left_list-requires-clause-few g c = omega (arith, c.main-main.ensures.valid.few, c.requires.one_each, ap (λ (s : Selected). length s.list) c.sels.ensures.sels, length-map c.sels.result.now.list (range_of (text_of c.args.who c.args.world.now.flat)))

pub returns-in_err-sels-clause-wanting : goal.returns-in_err-sels-clause-wanting
returns-in_err-sels-clause-wanting g c = λ h. all-made c.args.who c.args.world.now.flat c.edit.new.self.flat (flat_splices (text_of c.args.who c.args.world.now.flat) c.args.splices.now) c.in_ok-shifts.ensures.edits

pub set_sels-requires-clause-acts : goal.set_sels-requires-clause-acts
set_sels-requires-clause-acts g c = acts-behind c.args.who c.args.world.now.flat c.edit.new.self.flat (flat_splices (text_of c.args.who c.args.world.now.flat) c.args.splices.now) c.requires.acts c.in_ok-shifts.ensures.edits

pub set_sels-requires-clause-held : goal.set_sels-requires-clause-held
set_sels-requires-clause-held g c =
    let text = text_of c.args.who c.args.world.now.flat in
    let behind = text-behind c.args.who c.args.world.now.flat c.edit.new.self.flat (flat_splices text c.args.splices.now) (acts_joined c.args.who c.args.world.now.flat c.requires.acts) c.in_ok-shifts.ensures.edits in
    let edit = is-edit text c.lines.result.now c.last_place-last.result c.args.splices.now c.in_ok-shifts.shifts.items c.as_slice.result.now c.lines.ensures c.last_place-last.ensures.place c.last_place-last.ensures.last c.last_place-last.ensures.valid c.requires.splices c.in_ok-shifts.ensures.steps c.as_slice.ensures.value c.in_ok-shifts.ensures.shifts in
    held-behind c.args.who c.args.world.now.flat c.edit.new.self.flat c.args.splices.now c.main-main.result c.in_ok-sels.sels behind (c.in_ok-sels.ensures text edit)

pub returns-clause-row : goal.returns-clause-row
returns-clause-row g c =
    let text = text_of c.args.who c.args.world.now.flat in
    let behind = text-behind c.args.who c.args.world.now.flat c.edit.new.self.flat (flat_splices text c.args.splices.now) (acts_joined c.args.who c.args.world.now.flat c.requires.acts) c.in_ok-shifts.ensures.edits in
    let edit = is-edit text c.lines.result.now c.last_place-last.result c.args.splices.now c.in_ok-shifts.shifts.items c.as_slice.result.now c.lines.ensures c.last_place-last.ensures.place c.last_place-last.ensures.last c.last_place-last.ensures.valid c.requires.splices c.in_ok-shifts.ensures.steps c.as_slice.ensures.value c.in_ok-shifts.ensures.shifts in
    leaves-row c.args.who c.args.world.now.flat c.edit.new.self.flat c.set_sels.new.self.flat c.args.splices.now c.main-main.result c.sels.result.now c.in_ok-sels.sels c.sels.ensures.sels c.main-main.ensures.value c.in_ok-shifts.ensures.row behind (c.in_ok-sels.ensures text edit) c.set_sels.ensures
