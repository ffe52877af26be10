use Rattle.std.proofs.Common.{◌≡◌, length, map, take}
use Rattle.std.specs.List.{flat_map}
use Rattle.client_links.specs.Sizes.{total}
use Rattle.client_links.proofs.kept.MemLink.new.Given as goal

abbrev pub invariant-loop-piece : goal.invariant-loop-piece
invariant-loop-piece l =
    (l.bytes.items ≡ flat_map (λ piece. piece.now) (take l.piece-index l.script))
    × (l.sizes.items ≡ map (λ piece. length piece.now) (take l.piece-index l.script))
    × (total l.sizes.items ≡ length l.bytes.items)
