-- Lemmas on buffers in which nothing is pending.
use Rattle.std.proofs.Common.{◌≡◌, ℕ, zero, suc, List, [], ◌∷◌, None, Some, refl, ap, sym, subst, ◌∙◌, map, set, get_or}
use Rattle.std.specs.Prelude.{option_map, if◌then◌else◌}
use Rattle.std.specs.List.{AllByRecursion}
use Rattle.std.specs.declared.option.Option.{Option}
use Rattle.undo_model.specs.Stories.{Group, is_own, committed}
use Rattle.kak_world.specs.Stored.{Stored}
use Rattle.kak_world.specs.declared.world.Rest.{Rest}
use Rattle.kak_world.specs.declared.clients.Client.{Client}
use Rattle.kak_world.specs.Flat.{Scoped, Buffer, committed_for}
use Rattle.kak_world.specs.Changing.{commits}
use Rattle.kak_world.specs.Seen.{Kept, SlotIsQuiet, AreQuiet}
use Rattle.kak_world.proofs.WorldLemmas.{parts, committed-all}

all-set : {X : Type 0} (P : X → Type 0) (xs : List X) (n : ℕ) (x : X) → AllByRecursion P xs → P x → AllByRecursion P (set xs n x)
all-set P [] n x a p = a
all-set P (y ∷ ys) zero x a p = (p, a.1)
all-set P (y ∷ ys) (suc n) x a p = (a.0, all-set P ys n x a.1 p)

quiet-slot : (slot : Option Buffer) (b : Buffer) → SlotIsQuiet slot → slot ≡ Some b → b.story.group ≡ None
quiet-slot slot b q e = let there : SlotIsQuiet (Some b) = subst SlotIsQuiet e q in there

quiet-at : (n : ℕ) (b : Buffer) (bs : List (Option Buffer)) → AreQuiet bs → get_or bs n None ≡ Some b → b.story.group ≡ None
quiet-at n b [] q e = quiet-slot None b tt e
quiet-at zero b (x ∷ bs) q e = quiet-slot x b q.0 e
quiet-at (suc n) b (x ∷ bs) q e = quiet-at n b bs q.1 e

-- a buffer with the same story is put in the place of another
pub still-quiet : (n : ℕ) (b to : Buffer) (bs : List (Option Buffer)) → get_or bs n None ≡ Some b → to.story ≡ b.story → AreQuiet bs → AreQuiet (set bs n (Some to))
still-quiet n b to bs g e q = all-set SlotIsQuiet bs n (Some to) q (ap (λ s. s.group) e ∙ quiet-at n b bs q g)

none-own : (who : ℕ) (b : Buffer) → b.story.group ≡ None → committed_for who b ≡ b
none-own who b e =
    let P : Option Group → Type 0 = λ g. (record b { story = if is_own who g then committed b.story else b.story }) ≡ b in
    subst P (sym e) refl

none-committed : (who : ℕ) (bs : List (Option Buffer)) → AreQuiet bs → map (option_map (committed_for who)) bs ≡ bs
none-committed who [] q = refl
none-committed who (None ∷ bs) q = ap (λ xs. None ∷ xs) (none-committed who bs q.1)
none-committed who (Some b ∷ bs) q = ap (λ x. Some x ∷ map (option_map (committed_for who)) bs) (none-own who b q.0) ∙ ap (λ xs. Some b ∷ xs) (none-committed who bs q.1)

-- where nothing is pending, nothing is to be committed
pub quiet-commits : {st : List (Option Stored)} {sc : Scoped} (who : ℕ) (bs : List (Option Buffer)) (cs : List Client) (r : Rest) (w : Kept) → parts bs cs r sc st ≡ w → AreQuiet bs → w.flat ≡ commits who w.flat
quiet-commits {st = st} {sc = sc} who bs cs r w e q = sym (ap (λ (k : Kept). k.flat) e) ∙ committed-all who bs bs cs r w e (sym (none-committed who bs q))
