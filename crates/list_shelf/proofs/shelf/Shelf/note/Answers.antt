use Rattle.std.proofs.Common.{refl}
use Rattle.list_shelf.proofs.NoteLemmas.{next-can, next-noted, next-all_moved}
use Rattle.list_shelf.proofs.shelf.Shelf.note.Goals as goal

pub loop-first-init : goal.loop-first-init
loop-first-init c = record { can = c.requires; noted = refl; moved = refl }

pub note_first-requires : goal.note_first-requires
note_first-requires c = c.loop-first.invariant.can

pub loop-first-preserved : goal.loop-first-preserved
loop-first-preserved c = record {
  can = next-can c.loop-first.self c.note_first.new.self c.loop-first.rest.now c.in-Some.others.now c.in-Some.first.now c.in-Some.ensures.cases.0 c.in_ok-note_first.ensures.ok c.loop-first.invariant.can;
  noted = next-noted c.loop-first.self c.note_first.new.self _ c.loop-first.rest.now c.in-Some.others.now c.in-Some.first.now c.in-Some.ensures.cases.0 c.in_ok-note_first.ensures.ok c.loop-first.invariant.noted;
  moved = next-all_moved c.loop-first.self c.note_first.new.self _ c.loop-first.rest.now c.in-Some.others.now c.in-Some.first.now c.in-Some.ensures.cases.0 c.in_ok-note_first.ensures.ok c.loop-first.invariant.can c.loop-first.invariant.moved;
}
