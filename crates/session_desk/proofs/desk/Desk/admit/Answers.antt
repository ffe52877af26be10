use Rattle.std.proofs.Common.{rules}
use Rattle.session_desk.proofs.TokenLemmas.{splits_kept}
use Rattle.session_desk.proofs.desk.Desk.admit.Goals as goal

pub split_seat-seat-requires : goal.split_seat-seat-requires
split_seat-seat-requires g c = let ready = c.keeper.invariant.0 in (
  search rules,
  search rules,
  splits_kept g.O.Played.entries g.O.Played.maker g.O.Played.marked g.O.Played.frame _ _ _ _ _ ready.role_is ready.idle,
)
