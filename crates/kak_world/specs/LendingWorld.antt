-- What becomes of the world when what is a client's own was lent to be changed.
use Rattle.std.specs.Prelude.{ℕ}
use Rattle.std.specs.Borrow.{Lends, MutBor, Fml, RattleType}
use Rattle.regex_ports.specs.declared.pattern.Pattern.{Ghosts as Patterns}
use Rattle.kak_world.specs.declared.turn.Turn.{Ghosts as Turns}
use Rattle.kak_world.specs.declared.own.Own.{Own}
use Rattle.kak_world.specs.contracts.own.Own.{the_row as own_row}
use Rattle.kak_world.specs.contracts.world.World.{the_row}
use Rattle.kak_world.specs.Flat.{with_own}
use Rattle.kak_world.specs.Seen.{Kept}

module _ (P T : RattleType) (patterns : Patterns P.Denot) (turns : Turns T.Denot) where
  -- what is a client's own is what it is left as
  abbrev pub LendsOwn : MutBor Kept → ℕ → MutBor Own → Fml
  LendsOwn w who r = Lends (the_row P T patterns turns) own_row w r (λ o. record { flat = with_own who (λ _. o) w.now.flat; stored = w.now.stored })
