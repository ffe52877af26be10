-- Changes behind which each client that had joined has joined still.
use Rattle.std.proofs.Common.{◌≡◌, ℕ, true, ap, sym, subst, refl, ◌∙◌}
use Rattle.std.specs.Prelude.{◌==◌, ◌&&◌}
use Rattle.std.proofs.lemmas.Bool.{eqb-true}
use Rattle.tables.proofs.TableLemmas.{by_test}
use Rattle.kak_world.specs.Flat.{Flat, is_there, is_joined, rest_of, turn_of, is_turn_of, acts}
use Rattle.kak_world.specs.Changing.{changed_in}
use Rattle.kak_world.specs.Saving.{marked_as_saved, saved_in}
use Rattle.kak_world.specs.Keeping.{KeepsClients}
use Rattle.kak_world.specs.Showing.{shows}
use Rattle.kak_world.specs.Dropping.{KeepsJoined}
use Rattle.kak_world.proofs.WorldLaws.{acts_joined, acts_turned}
use Rattle.kak_world.proofs.KeepingLaws.{keeps_same, keeps-changed}
use Rattle.kak_world.proofs.ShowingLemmas.{whos-shown, turn_shows, joined_shows, joined_others_show}

-- who keeps the clients keeps those that have joined
pub joined_kept : (old new : Flat) → KeepsClients old new → KeepsJoined old new
joined_kept old new h = record { whos = h.whos; joined = λ k j. h.joined k ∙ j; turn = h.turn }

pub joined_same : (flat : Flat) → KeepsJoined flat flat
joined_same flat = joined_kept flat flat (keeps_same flat)

pub joined_then : (a b c : Flat) → KeepsJoined a b → KeepsJoined b c → KeepsJoined a c
joined_then a b c h g = record { whos = g.whos ∙ h.whos; joined = λ k j. g.joined k (h.joined k j); turn = g.turn ∙ h.turn }

-- who acts behind such a change
pub acts_still : (who : ℕ) (old new : Flat) → KeepsJoined old new → acts who old ≡ true → acts who new ≡ true
unfolding acts
acts_still who old new k a =
    ap (λ b. b && is_turn_of who (turn_of new)) (k.joined who (acts_joined who old a))
    ∙ ap (is_turn_of who) k.turn
    ∙ acts_turned who old a

-- a client is shown a buffer that is there
pub stays_shows : (who n : ℕ) (flat : Flat) → is_there n flat.buffers ≡ true → KeepsJoined flat (shows who n flat)
stays_shows who n flat t = record {
  whos = whos-shown who n flat;
  turn = turn_shows who n flat;
  joined = λ k.
      by_test (λ b. b ≡ (who == k) → is_joined k flat ≡ true → is_joined k (shows who n flat) ≡ true) (who == k)
      (λ _ e. subst (λ m. is_joined m flat ≡ true → is_joined m (shows who n flat) ≡ true) (eqb-true who k (sym e)) (λ j. joined_shows who n flat j t))
      (λ _ e j. joined_others_show k who n flat (sym e) ∙ j)
      refl;
}

-- a buffer counts as saved
pub keeps_saved : (n : ℕ) (flat : Flat) → KeepsClients flat (saved_in n flat)
unfolding saved_in
keeps_saved n flat = keeps-changed n marked_as_saved flat (λ k b. refl)

pub rest_saved : (n : ℕ) (flat : Flat) → rest_of (saved_in n flat) ≡ rest_of flat
unfolding rest_of saved_in changed_in
rest_saved n flat = refl
