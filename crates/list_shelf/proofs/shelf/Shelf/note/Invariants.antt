-- What is left to note makes the whole.
use Rattle.std.proofs.Common.{◌≡◌, length}
use Rattle.list_shelf.specs.Shelves.{all_noted, all_moved, CanFollow}
use Rattle.list_shelf.proofs.shelf.Shelf.note.Given as goal

abbrev pub invariant-loop-first : goal.invariant-loop-first
invariant-loop-first l = record {
  can : CanFollow l.self l.rest;
  noted : all_noted l.rest l.self ≡ all_noted l.shifts l.initial.self;
  moved : all_moved l.rest l.self ≡ all_moved l.shifts l.initial.self;
}

abbrev pub decreases-loop-first : goal.decreases-loop-first
decreases-loop-first l = length l.rest
