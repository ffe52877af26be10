use Rattle.std.proofs.Common.{refl}
use Rattle.list_shelf.proofs.NoteLemmas.{next-noted, next-all_moved}
use Rattle.list_archive.proofs.NoteLemmas.{shelf-follows, next-with, next-kept_noted, next-kept_moved}
use Rattle.list_archive.proofs.archive.Archive.note.Goals as goal

pub loop-first-init : goal.loop-first-init
loop-first-init c = record { can = c.requires; shelf_noted = refl; kept_noted = refl; shelf_moved = refl; kept_moved = refl }

pub note_first-requires : goal.note_first-requires
note_first-requires c = c.loop-first.invariant.can

pub loop-first-preserved : goal.loop-first-preserved
loop-first-preserved c = record {
  can = next-with c.loop-first.shelf c.note_first.new.shelf c.loop-first.self c.note_first.new.self c.loop-first.rest.now c.in-Some.others.now c.in-Some.first.now c.in-Some.ensures.cases.0 c.in_ok-note_first.ensures.shelf_ok c.in_ok-note_first.ensures.kept_ok c.loop-first.invariant.can;
  shelf_noted = next-noted c.loop-first.shelf c.note_first.new.shelf _ c.loop-first.rest.now c.in-Some.others.now c.in-Some.first.now c.in-Some.ensures.cases.0 c.in_ok-note_first.ensures.shelf_ok c.loop-first.invariant.shelf_noted;
  kept_noted = next-kept_noted c.loop-first.shelf c.note_first.new.shelf c.loop-first.self c.note_first.new.self _ c.loop-first.rest.now c.in-Some.others.now c.in-Some.first.now c.in-Some.ensures.cases.0 c.in_ok-note_first.ensures.shelf_ok c.in_ok-note_first.ensures.kept_ok c.loop-first.invariant.kept_noted;
  shelf_moved = next-all_moved c.loop-first.shelf c.note_first.new.shelf _ c.loop-first.rest.now c.in-Some.others.now c.in-Some.first.now c.in-Some.ensures.cases.0 c.in_ok-note_first.ensures.shelf_ok (shelf-follows c.loop-first.shelf c.loop-first.self c.loop-first.rest.now c.loop-first.invariant.can) c.loop-first.invariant.shelf_moved;
  kept_moved = next-kept_moved c.loop-first.shelf c.note_first.new.shelf c.loop-first.self c.note_first.new.self _ c.loop-first.rest.now c.in-Some.others.now c.in-Some.first.now c.in-Some.ensures.cases.0 c.in_ok-note_first.ensures.shelf_ok c.in_ok-note_first.ensures.kept_ok c.loop-first.invariant.can c.loop-first.invariant.kept_moved;
}
