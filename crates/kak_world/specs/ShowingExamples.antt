-- Worked examples of buffers that are opened and shown, which hold by computation.
use Rattle.std.specs.Prelude.{◌≡◌, ℕ, true, [], ◌∷◌, List, codes, map}
use Rattle.list_shelf.specs.declared.holder.Holder.{Holder}
use Rattle.list_shelf.specs.declared.holder.Holder.TheVariants.{Of}
use Rattle.kak_world.specs.Flat.{Flat, is_joined, name_of, sels_of, with_sels, buffer_at}
use Rattle.kak_world.specs.Examples.{two_joined, only_sel_at}
use Rattle.kak_world.specs.Showing.{shows, buffer_opened, first_gap}

-- a buffer more
abbrev pub more : List ℕ → Flat → Flat
more name flat = buffer_opened name true (codes "abc\n") flat

-- the clients 7 and 9 on the scratch buffer, and a buffer more
abbrev pub with_a : Flat
with_a = more (codes "a") two_joined

-- 7 sees the second one, its selection there is moved, and it sees the first one again
abbrev pub seen_a : Flat
seen_a = with_sels 7 (only_sel_at 2) (shows 7 1 with_a)

abbrev pub back_again : Flat
back_again = shows 7 0 seen_a

-- whose lists are on the buffer of a number
abbrev pub holders_on : ℕ → Flat → List Holder
holders_on n flat = map (λ held. held.holder) (buffer_at n flat.buffers).lists

pub record ShowingExamples : Type 0 where
  pub second_takes_one : first_gap two_joined.buffers ≡ 1
  pub nobody_is_on_it : holders_on 1 with_a ≡ []
  pub begins_there : sels_of 7 (shows 7 1 with_a) ≡ only_sel_at 0
  pub sees_it : name_of 7 seen_a ≡ codes "a"
  pub other_one_stays : name_of 9 seen_a ≡ codes "*scratch*"
  pub lists_on_both : holders_on 0 seen_a ≡ Of 7 ∷ Of 9 ∷ []
  pub list_there_stays : sels_of 7 (shows 7 1 back_again) ≡ only_sel_at 2
  pub joined_still : is_joined 7 back_again ≡ true
