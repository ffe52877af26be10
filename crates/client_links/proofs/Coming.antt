-- What is left behind the first of a list.
use Rattle.std.proofs.Common.{◌≡◌, ℕ, ◌+◌, ◌<◌, ◌^◌, suc, List, ◌∷◌, length, ap, subst, arith, All}
use Rattle.std.proofs.lemmas.List.Elements.{All-drop}

-- what holds of all holds of all but the first
pub all_behind : {X : Type 0} (P : X → Type 0) (old new : List X) (x : X) → old ≡ x ∷ new → All P old → All P new
all_behind P old new x e all = All-drop P 1 (x ∷ new) (subst (All P) e all)

-- one more came, and one less is to come
pub fewer_behind : {X : Type 0} (came : ℕ) (old new : List X) (x : X) → old ≡ x ∷ new → came + length old < 2 ^ 64 → came + 1 + length new < 2 ^ 64
fewer_behind came old new x e few =
    let one_less : length old ≡ suc (length new) = ap length e in
    omega (arith, few, one_less)
