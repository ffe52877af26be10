-- What becomes of the world when a part of it was lent to be changed.
use Rattle.std.specs.Prelude.{ℕ, List, slice_set}
use Rattle.std.specs.Borrow.{Lends, MutBor, Fml}
use Rattle.tables.specs.Tables.{changed_where}
use Rattle.kak_world.specs.declared.own.Own.{Own}
use Rattle.kak_world.specs.declared.clients.Client.{Client}
use Rattle.kak_world.specs.contracts.own.Own.{the_row as own_row}
use Rattle.kak_world.specs.contracts.clients.Client.{the_row as client_row}
use Rattle.kak_world.specs.contracts.clients.Clients.{the_row}
use Rattle.kak_world.specs.Flat.{is_of}

-- the client at a place is what it is left as
abbrev pub LendsClient : MutBor (List Client) → ℕ → MutBor Client → Fml
LendsClient cs i r = Lends the_row client_row cs r (slice_set cs.now i)

-- what is a client's own is what it is left as
abbrev pub LendsOwnIn : MutBor (List Client) → ℕ → MutBor Own → Fml
LendsOwnIn cs who r = Lends the_row own_row cs r (λ o. changed_where (is_of who) (λ c. record c { own = o }) cs.now)
