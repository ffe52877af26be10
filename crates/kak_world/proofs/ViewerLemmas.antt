-- Lists that are added for those who saw a buffer, as the code keeps them.
use Rattle.std.proofs.Common.{◌≡◌, ◌≢◌, ℕ, zero, suc, ◌+◌, ◌<◌, cond, List, [], ◌∷◌, length, get_or, take, sym, ap, ◌∙◌, arith}
use Rattle.std.proofs.lemmas.Bool.{eq-eqb, ne_eqb}
use Rattle.list_shelf.specs.declared.holder.Holder.TheVariants.{Of}
use Rattle.kak_world.specs.declared.clients.Client.{Client}
use Rattle.kak_world.specs.Flat.{Buffer, listed_for}
use Rattle.kak_world.specs.Dropping.{listed_for_viewer, listed_for_viewers}

-- a client that sees the buffer
pub viewer-lists : (n : ℕ) (c : Client) (b to : Buffer) → c.shown ≡ n → to ≡ listed_for (Of c.who) b → to ≡ listed_for_viewer n c b
viewer-lists n c b to e t = t ∙ sym (ap (λ s. cond s (listed_for (Of c.who) b) b) (eq-eqb c.shown n e))

-- one that doesn't see it
pub no-viewer : (n : ℕ) (c : Client) (b : Buffer) → c.shown ≢ n → b ≡ listed_for_viewer n c b
no-viewer n c b other = sym (ap (λ s. cond s (listed_for (Of c.who) b) b) (ne_eqb c.shown n other))

-- one client more
pub viewers-take : (n i : ℕ) (cs : List Client) (c : Client) → i < length cs → c ≡ get_or cs i c → (b : Buffer) → listed_for_viewers n (take (i + 1) cs) b ≡ listed_for_viewer n c (listed_for_viewers n (take i cs) b)
viewers-take n i [] c h g b = absurd (omega arith)
viewers-take n zero (x ∷ cs) c h g b = ap (λ y. listed_for_viewer n y b) (sym g)
viewers-take n (suc i) (x ∷ cs) c h g b = let e : suc i + 1 ≡ suc (i + 1) = omega arith in rw e (viewers-take n i cs c (omega arith) g (listed_for_viewer n x b))
