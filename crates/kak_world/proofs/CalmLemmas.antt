-- Buffers of which nothing became since a step began.
use Rattle.std.proofs.Common.{◌≡◌, ℕ, zero, suc, List, [], ◌∷◌, map, get_or, set, refl, sym, ap, subst, ◌∙◌, None, Some}
use Rattle.std.specs.Prelude.{option_map}
use Rattle.std.specs.declared.option.Option.{Option}
use Rattle.kak_world.specs.declared.since.Since.{Since}
use Rattle.kak_world.specs.Flat.{Buffer}
use Rattle.kak_world.specs.Stored.{nothing_since}
use Rattle.kak_world.specs.Seen.{KeptBuffer, with_seen, begun_in, SlotIsCalm, AreCalm}

-- a buffer is put in of which nothing became
pub calm-put : (n : ℕ) (to : KeptBuffer) (bs : List (Option KeptBuffer)) → to.since ≡ nothing_since → AreCalm bs → AreCalm (set bs n (Some to))
calm-put n to [] e c = tt
calm-put zero to (o ∷ bs) e c = (e, c.1)
calm-put (suc n) to (o ∷ bs) e c = (c.0, calm-put n to bs e c.1)

calm-at : (n : ℕ) (b : KeptBuffer) (bs : List (Option KeptBuffer)) → get_or bs n None ≡ Some b → AreCalm bs → SlotIsCalm (Some b)
calm-at n b [] g c = subst SlotIsCalm g tt
calm-at zero b (o ∷ bs) g c = subst SlotIsCalm g c.0
calm-at (suc n) b (o ∷ bs) g c = calm-at n b bs g c.1

-- and one of which became what became of the one before
pub calm-set : (n : ℕ) (b to : KeptBuffer) (bs : List (Option KeptBuffer)) → get_or bs n None ≡ Some b → to.since ≡ b.since → AreCalm bs → AreCalm (set bs n (Some to))
calm-set n b to bs g e c = let was : b.since ≡ nothing_since = calm-at n b bs g c in calm-put n to bs (e ∙ was) c

pub calm-slot : (n : ℕ) (slot to : Option KeptBuffer) (bs : List (Option KeptBuffer)) → slot ≡ get_or bs n slot → (SlotIsCalm slot → SlotIsCalm to) → AreCalm bs → AreCalm (set bs n to)
calm-slot n slot to [] g f c = tt
calm-slot zero slot to (o ∷ bs) g f c = (f (subst SlotIsCalm (sym g) c.0), c.1)
calm-slot (suc n) slot to (o ∷ bs) g f c = (c.0, calm-slot n slot to bs g f c.1)

-- buffers that are seen otherwise
pub with-calm : (f : Buffer → Buffer) (slot to : Option KeptBuffer) → to ≡ option_map (with_seen f) slot → SlotIsCalm slot → SlotIsCalm to
with-calm f slot to e c = subst SlotIsCalm (sym e) (by slot c)
  where
    by : (slot : Option KeptBuffer) → SlotIsCalm slot → SlotIsCalm (option_map (with_seen f) slot)
    by None c = tt
    by (Some b) c = c

pub mapped-calm : (f : Buffer → Buffer) (bs now : List (Option KeptBuffer)) → now ≡ map (option_map (with_seen f)) bs → AreCalm bs → AreCalm now
mapped-calm f bs now e c = subst AreCalm (sym e) (each bs c)
  where
    each : (bs : List (Option KeptBuffer)) → AreCalm bs → AreCalm (map (option_map (with_seen f)) bs)
    each [] c = tt
    each (b ∷ bs) c = (with-calm f b (option_map (with_seen f) b) refl c.0, each bs c.1)

-- with which a step begins
pub begun-calm : (bs now : List (Option KeptBuffer)) → now ≡ map (option_map begun_in) bs → AreCalm now
begun-calm bs now e = subst AreCalm (sym e) (each bs)
  where
    slot : (o : Option KeptBuffer) → SlotIsCalm (option_map begun_in o)
    slot None = tt
    slot (Some b) = refl

    each : (bs : List (Option KeptBuffer)) → AreCalm (map (option_map begun_in) bs)
    each [] = tt
    each (b ∷ bs) = (slot b, each bs)

-- where nothing became of any, a step begins with them as they are
pub calm-begun : (bs : List (Option KeptBuffer)) → AreCalm bs → bs ≡ map (option_map begun_in) bs
calm-begun [] c = refl
calm-begun (None ∷ bs) c = ap (λ xs. None ∷ xs) (calm-begun bs c.1)
calm-begun (Some b ∷ bs) c =
    ap (λ (s : Since). let x : KeptBuffer = record { seen = b.seen; shelf = b.shelf; since = s } in Some x ∷ bs) c.0
    ∙ ap (λ xs. Some (begun_in b) ∷ xs) (calm-begun bs c.1)
