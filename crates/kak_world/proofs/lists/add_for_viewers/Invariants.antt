use Rattle.std.proofs.Common.{take}
use Rattle.kak_world.specs.Seen.{IsListedBy}
use Rattle.kak_world.specs.Dropping.{listed_for_viewers}
use Rattle.kak_world.proofs.lists.add_for_viewers.Given as goal

-- the clients so far have lists
abbrev pub invariant-loop-client : goal.invariant-loop-client
invariant-loop-client l = IsListedBy (listed_for_viewers l.n (take l.client-index l.clients)) l.lines l.initial.shelf l.shelf
