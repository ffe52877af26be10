-- What is left to note makes the whole.
use Rattle.std.proofs.Common.{◌≡◌, length}
use Rattle.list_shelf.specs.Shelves.{all_noted, all_moved}
use Rattle.list_archive.specs.Archives.{archive_carried, archive_noted, CanFollowWith}
use Rattle.list_archive.proofs.archive.Archive.note.Given as goal

abbrev pub invariant-loop-first : goal.invariant-loop-first
invariant-loop-first l = record {
  can : CanFollowWith l.shelf l.self l.rest;
  shelf_noted : all_noted l.rest l.shelf ≡ all_noted l.shifts l.initial.shelf;
  kept_noted : archive_noted l.rest l.shelf l.self ≡ archive_noted l.shifts l.initial.shelf l.initial.self;
  shelf_moved : all_moved l.rest l.shelf ≡ all_moved l.shifts l.initial.shelf;
  kept_moved : archive_carried l.shelf.log l.rest l.self ≡ archive_carried l.initial.shelf.log l.shifts l.initial.self;
}

abbrev pub decreases-loop-first : goal.decreases-loop-first
decreases-loop-first l = length l.rest
