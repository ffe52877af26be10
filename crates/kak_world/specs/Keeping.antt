-- A change that keeps the clients: nobody comes or goes, and the turn stays.
use Rattle.std.specs.Prelude.{◌≡◌, ℕ, List, map}
use Rattle.kak_world.specs.declared.clients.Client.{Client}
use Rattle.kak_world.specs.Flat.{Flat, is_joined, turn_of}

-- the clients' numbers in the history
abbrev pub whos_of : List Client → List ℕ
whos_of clients = map (λ c. c.who) clients

-- the same clients are there as before, the same of them have joined, and it is the same one's turn
pub record KeepsClients (old new : Flat) : Type 0 where
  pub whos : whos_of new.clients ≡ whos_of old.clients
  pub joined : (k : ℕ) → is_joined k new ≡ is_joined k old
  pub turn : turn_of new ≡ turn_of old
