-- Laws of settling and of moving, each proved as the contract of a function of `laws`.
use Rattle.std.specs.Prelude.{◌≡◌, ℕ, ◌<◌, ◌≤◌, List, ◌++◌, length}
use Rattle.std.specs.List.{AllByRecursion}
use Rattle.text_model.specs.Changes.{Move}
use Rattle.list_model.specs.Ranges.{Range, Selected, IsRange}
use Rattle.list_model.specs.Settling.{settled, each_settled, carried}
use Rattle.list_model.specs.Settled.{SomeOf, Holds, IsSettled, IsSettledList, IsLinked}
use Rattle.list_model.specs.Moving.{IsMovedAtEach, moved_at_once, IsMove}

-- settling gives a settled list, which is the only one, and leaves one that is settled
pub record SettlingLaws : Type 0 where
  pub settles : (s : Selected) → AllByRecursion IsRange s.list → s.main < length s.list → IsSettled s.list s.main (settled s).list (settled s).main
  pub only_one : (xs ys zs : List Range) (n p q : ℕ) → AllByRecursion IsRange xs → IsSettled xs n ys p → IsSettled xs n zs q → (ys ≡ zs) × (p ≡ q)
  pub stays : (s : Selected) → IsSettledList s → settled s ≡ s
  pub is_settled : (xs ys : List Range) (n p : ℕ) → IsSettled xs n ys p → IsSettledList (record { list = ys; main = p })

-- two selections are in one range of the settled list exactly where a chain links them
pub record ChainLaws : Type 0 where
  pub chain_is_held : (xs ys : List Range) (n p : ℕ) (r a b : Range) → IsSettled xs n ys p → AllByRecursion IsRange xs → SomeOf (λ x. x ≡ r) ys → SomeOf (λ x. x ≡ a) xs → Holds r a → IsLinked xs a b → Holds r b
  pub held_is_chain : (xs ys : List Range) (n p : ℕ) (r a b : Range) → IsSettled xs n ys p → AllByRecursion IsRange xs → SomeOf (λ x. x ≡ r) ys → SomeOf (λ x. x ≡ a) xs → SomeOf (λ x. x ≡ b) xs → Holds r a → Holds r b → a.low ≤ b.low → IsLinked xs a b

-- a settled list that is mapped and settled at each change is what it is when it is settled once at the end
pub record MovingLaws : Type 0 where
  pub once_for_each : (ms : List Move) (s : Selected) → AllByRecursion IsMove ms → IsSettledList s → IsMovedAtEach ms s (moved_at_once ms s)
  pub only_one : (ms : List Move) (s t : Selected) → AllByRecursion IsMove ms → IsSettledList s → IsMovedAtEach ms s t → t ≡ moved_at_once ms s
  pub in_parts : (ms ns : List Move) (s : Selected) → AllByRecursion IsMove ms → AllByRecursion IsMove ns → IsSettledList s → moved_at_once ns (moved_at_once ms s) ≡ moved_at_once (ms ++ ns) s
  pub settled_twice : (f g : ℕ → ℕ) → ((a b : ℕ) → a ≤ b → f a ≤ f b) → ((a b : ℕ) → a ≤ b → g a ≤ g b) → (s : Selected) → IsSettledList s → each_settled (carried g) (each_settled (carried f) s) ≡ each_settled (carried (λ o. g (f o))) s
