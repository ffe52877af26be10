-- Buffers as they are kept, and the flat world's.
use Rattle.std.proofs.Common.{◌≡◌, ℕ, zero, suc, ◌<◌, ◌≤◌, Bool, true, false, not, List, [], ◌∷◌, ◌++◌, length, map, get_or, set, drop, refl, sym, ap, subst, ◌∙◌, arith, None, Some}
use Rattle.std.specs.Prelude.{◌&&◌, is_some, is_none, option_map}
use Rattle.std.specs.List.{list_any}
use Rattle.std.specs.declared.option.Option.{Option}
use Rattle.std.proofs.lemmas.Bool.{eqb-true}
use Rattle.std.proofs.lemmas.List.{length-map, map-set, set-get_or}
use Rattle.tables.specs.Tables.{first_where}
use Rattle.list_shelf.specs.declared.holder.Holder.{Holder}
use Rattle.list_shelf.specs.declared.holder.Holder.TheVariants.{Of}
use Rattle.list_shelf.specs.Shelves.{IsUp, KeepsUp, is_of as is_of_row}
use Rattle.kak_world.specs.declared.clients.Client.{Client}
use Rattle.kak_world.specs.declared.world.Rest.{Rest}
use Rattle.kak_world.specs.Flat.{Scoped, Buffer, is_of, is_here, newcomer, is_turn_of, is_there, has_list, buffer_at, buffer_or_scratch}
use Rattle.kak_world.specs.Seen.{KeptBuffer, Kept, with_seen, slot_seen, all_seen, all_stored, SlotIsUp, SlotKeepsUp, AllKeepUp, TurnIsUp}
use Rattle.kak_world.proofs.ShowingLemmas.{set-slot_same}
use Rattle.kak_world.proofs.WorldLemmas.{parts, get_or_same}

-- slots as they are seen

pub seen-length : (bs : List (Option KeptBuffer)) → length (all_seen bs) ≡ length bs
seen-length bs = length-map bs slot_seen

pub seen-set : (bs : List (Option KeptBuffer)) (n : ℕ) (slot : Option KeptBuffer) → all_seen (set bs n slot) ≡ set (all_seen bs) n (slot_seen slot)
seen-set bs n slot = map-set slot_seen bs n slot

pub seen-all : (bs now : List (Option KeptBuffer)) → now ≡ bs → all_seen now ≡ all_seen bs
seen-all bs now e = ap all_seen e

pub seen-at : (bs : List (Option KeptBuffer)) (n : ℕ) (slot : Option KeptBuffer) → slot ≡ get_or bs n slot → slot_seen slot ≡ get_or (all_seen bs) n (slot_seen slot)
seen-at bs n slot e = ap slot_seen e ∙ at bs n
  where
    at : (bs : List (Option KeptBuffer)) (n : ℕ) → slot_seen (get_or bs n slot) ≡ get_or (all_seen bs) n (slot_seen slot)
    at [] n = refl
    at (b ∷ bs) zero = refl
    at (b ∷ bs) (suc n) = at bs n

pub seen-some : (slot : Option KeptBuffer) (b : KeptBuffer) → slot ≡ Some b → slot_seen slot ≡ Some b.seen
seen-some slot b e = ap slot_seen e

pub seen-none : (slot : Option KeptBuffer) → slot ≡ None → slot_seen slot ≡ None
seen-none slot e = ap slot_seen e

pub seen-drop : (n : ℕ) (bs : List (Option KeptBuffer)) → all_seen (drop n bs) ≡ drop n (all_seen bs)
seen-drop zero bs = refl
seen-drop (suc n) [] = refl
seen-drop (suc n) (b ∷ bs) = seen-drop n bs

pub seen-added : (bs : List (Option KeptBuffer)) (slot : Option KeptBuffer) → all_seen (bs ++ slot ∷ []) ≡ all_seen bs ++ slot_seen slot ∷ []
seen-added [] slot = refl
seen-added (b ∷ bs) slot = ap (λ xs. slot_seen b ∷ xs) (seen-added bs slot)

slot-mapped : (f : Buffer → Buffer) (slot : Option KeptBuffer) → slot_seen (option_map (with_seen f) slot) ≡ option_map f (slot_seen slot)
slot-mapped f None = refl
slot-mapped f (Some b) = refl

pub slot-changed_by : (f : Buffer → Buffer) (slot to : Option KeptBuffer) → to ≡ option_map (with_seen f) slot → slot_seen to ≡ option_map f (slot_seen slot)
slot-changed_by f slot to e = ap slot_seen e ∙ slot-mapped f slot

pub seen-mapped : (f : Buffer → Buffer) (bs now : List (Option KeptBuffer)) → now ≡ map (option_map (with_seen f)) bs → all_seen now ≡ map (option_map f) (all_seen bs)
seen-mapped f bs now e = ap all_seen e ∙ each bs
  where
    each : (bs : List (Option KeptBuffer)) → all_seen (map (option_map (with_seen f)) bs) ≡ map (option_map f) (all_seen bs)
    each [] = refl
    each (b ∷ bs) = ap (λ x. x ∷ all_seen (map (option_map (with_seen f)) bs)) (slot-mapped f b) ∙ ap (λ xs. option_map f (slot_seen b) ∷ xs) (each bs)

-- the buffer of a number
pub seen-get : (bs : List (Option KeptBuffer)) (n : ℕ) → get_or (all_seen bs) n None ≡ slot_seen (get_or bs n None)
seen-get [] n = refl
seen-get (b ∷ bs) zero = refl
seen-get (b ∷ bs) (suc n) = seen-get bs n

pub seen-is : (bs : List (Option KeptBuffer)) (n : ℕ) (b : KeptBuffer) → get_or bs n None ≡ Some b → get_or (all_seen bs) n None ≡ Some b.seen
seen-is bs n b e = seen-get bs n ∙ ap slot_seen e

-- a slot that is set to one that is seen as it was
pub seen-same : (n : ℕ) (bs : List (Option KeptBuffer)) (slot to : Option KeptBuffer) → slot ≡ get_or bs n slot → slot_seen to ≡ slot_seen slot → all_seen (set bs n to) ≡ all_seen bs
seen-same n bs slot to g t = seen-set bs n to ∙ set-slot_same n (all_seen bs) (slot_seen slot) (slot_seen to) (seen-at bs n slot g) t

-- the world of some buffers as they are kept, one of which is set
pub parts-set : {sc : Scoped} (bs : List (Option KeptBuffer)) (n : ℕ) (slot : Option KeptBuffer) (cs : List Client) (r : Rest) → (parts (all_seen (set bs n slot)) cs r sc []).flat ≡ (parts (set (all_seen bs) n (slot_seen slot)) cs r sc []).flat
parts-set {sc = sc} bs n slot cs r = ap (λ x. (parts x cs r sc []).flat) (seen-set bs n slot)

-- the buffer in a slot
pub kept-at : (bs : List (Option KeptBuffer)) (n : ℕ) (slot : Option KeptBuffer) (b : KeptBuffer) → n < length (all_seen bs) → slot ≡ get_or bs n slot → slot ≡ Some b → get_or bs n None ≡ Some b
kept-at bs n slot b h g s = get_or_same bs n slot (omega (arith, h, seen-length bs)) ∙ sym g ∙ s

-- a slot that is set to the buffer that it had
pub same-set : (bs : List (Option KeptBuffer)) (n : ℕ) (b to : KeptBuffer) → get_or bs n None ≡ Some b → to ≡ b → set bs n (Some to) ≡ bs
same-set bs n b to g e = ap (set bs n) (ap Some e ∙ sym g) ∙ set-get_or bs n None

-- and the world of its buffers
pub same-parts : {cs : List Client} {r : Rest} {sc : Scoped} (w : Kept) (bs now : List (Option KeptBuffer)) → now ≡ bs → parts (all_seen bs) cs r sc (all_stored bs) ≡ w → parts (all_seen now) cs r sc (all_stored now) ≡ w
same-parts {cs = cs} {r = r} {sc = sc} w bs now e v = ap (λ (xs : List (Option KeptBuffer)). parts (all_seen xs) cs r sc (all_stored xs)) e ∙ v

-- which lists stay up to date

pub set-keeps : (n : ℕ) (b to : KeptBuffer) (bs : List (Option KeptBuffer)) → get_or bs n None ≡ Some b → KeepsUp b.shelf to.shelf → AllKeepUp bs (set bs n (Some to))
set-keeps n b to [] g k m holder up = up
set-keeps zero b to (o ∷ bs) g k zero holder up = k holder (subst (SlotIsUp holder) g up)
set-keeps zero b to (o ∷ bs) g k (suc m) holder up = up
set-keeps (suc n) b to (o ∷ bs) g k zero holder up = up
set-keeps (suc n) b to (o ∷ bs) g k (suc m) holder up = set-keeps n b to bs g k m holder up

pub slot-keeps : (n : ℕ) (slot to : Option KeptBuffer) (bs : List (Option KeptBuffer)) → slot ≡ get_or bs n slot → SlotKeepsUp slot to → AllKeepUp bs (set bs n to)
slot-keeps n slot to [] g k m holder up = up
slot-keeps zero slot to (o ∷ bs) g k zero holder up = k holder (subst (SlotIsUp holder) (sym g) up)
slot-keeps zero slot to (o ∷ bs) g k (suc m) holder up = up
slot-keeps (suc n) slot to (o ∷ bs) g k zero holder up = up
slot-keeps (suc n) slot to (o ∷ bs) g k (suc m) holder up = slot-keeps n slot to bs g k m holder up

-- a slot whose buffer is seen otherwise
pub with-keeps : (f : Buffer → Buffer) (slot to : Option KeptBuffer) → to ≡ option_map (with_seen f) slot → SlotKeepsUp slot to
with-keeps f slot to e holder up = subst (SlotIsUp holder) (sym e) (by slot up)
  where
    by : (slot : Option KeptBuffer) → SlotIsUp holder slot → SlotIsUp holder (option_map (with_seen f) slot)
    by None up = up
    by (Some b) up = up

pub mapped-keeps : (f : Buffer → Buffer) (bs now : List (Option KeptBuffer)) → now ≡ map (option_map (with_seen f)) bs → AllKeepUp bs now
mapped-keeps f bs now e = subst (AllKeepUp bs) (sym e) (each bs)
  where
    each : (bs : List (Option KeptBuffer)) → AllKeepUp bs (map (option_map (with_seen f)) bs)
    each [] n holder up = up
    each (b ∷ bs) zero holder up = with-keeps f b (option_map (with_seen f) b) refl holder up
    each (b ∷ bs) (suc n) holder up = each bs n holder up

-- a buffer without lists is put in
bare-up : (holder : Holder) (b : KeptBuffer) → b.shelf.rows ≡ [] → SlotIsUp holder (Some b)
bare-up holder b e = λ some. absurd (let no : false ≡ true = ap (λ rows. list_any (is_of_row holder) rows) (sym e) ∙ some in cc)

pub placed-keeps : (n : ℕ) (b : KeptBuffer) (bs : List (Option KeptBuffer)) → b.shelf.rows ≡ [] → AllKeepUp bs (set bs n (Some b))
placed-keeps n b [] e m holder up = up
placed-keeps zero b (o ∷ bs) e zero holder up = bare-up holder b e
placed-keeps zero b (o ∷ bs) e (suc m) holder up = up
placed-keeps (suc n) b (o ∷ bs) e zero holder up = up
placed-keeps (suc n) b (o ∷ bs) e (suc m) holder up = placed-keeps n b bs e m holder up

pub added-keeps : (b : KeptBuffer) (bs : List (Option KeptBuffer)) → b.shelf.rows ≡ [] → AllKeepUp bs (bs ++ Some b ∷ [])
added-keeps b [] e zero holder up = bare-up holder b e
added-keeps b [] e (suc m) holder up = up
added-keeps b (o ∷ bs) e zero holder up = up
added-keeps b (o ∷ bs) e (suc m) holder up = added-keeps b bs e m holder up

-- whose turn it is

pub turn-keeps : (turn : Option ℕ) (cs : List Client) (bs now : List (Option KeptBuffer)) → AllKeepUp bs now → TurnIsUp turn cs bs → TurnIsUp turn cs now
turn-keeps turn cs bs now k up who e h = k (first_where (is_of who) (newcomer who 0 0) cs).shown (Of who) (up who e h)

pub turn-same : (turn : Option ℕ) (cs : List Client) (bs now : List (Option KeptBuffer)) → now ≡ bs → TurnIsUp turn cs bs → TurnIsUp turn cs now
turn-same turn cs bs now e up = subst (TurnIsUp turn cs) (sym e) up

abbrev some-inside : {A : Type 0} → A → Option A → A
some-inside d None = d
some-inside d (Some x) = x

pub turn-is : (who : ℕ) (turn : Option ℕ) → is_turn_of who turn ≡ true → turn ≡ Some who
turn-is who None h = absurd (let no : false ≡ true = h in cc)
turn-is who (Some n) h = ap Some (eqb-true n who h)

-- nobody's, or one's that isn't here
pub nobody-up : (turn : Option ℕ) (cs : List Client) (bs : List (Option KeptBuffer)) → turn ≡ None → TurnIsUp turn cs bs
nobody-up turn cs bs e who s h = absurd (let no : false ≡ true = ap is-some (sym e ∙ s) in cc)
  where
    is-some : Option ℕ → Bool
    is-some None = false
    is-some (Some x) = true

pub away-up : (who : ℕ) (turn : Option ℕ) (cs : List Client) (bs : List (Option KeptBuffer)) → turn ≡ Some who → is_here who cs ≡ false → TurnIsUp turn cs bs
away-up who turn cs bs e away k s h =
    let same : who ≡ k = ap (some-inside who) (sym e ∙ s) in
    absurd (let no : false ≡ true = sym away ∙ ap (λ n. is_here n cs) same ∙ h in cc)

-- one's whose list on the buffer that it sees is up to date
pub one-up : (who : ℕ) (turn : Option ℕ) (cs : List Client) (bs : List (Option KeptBuffer)) (c : Client) → turn ≡ Some who → c ≡ first_where (is_of who) (newcomer who 0 0) cs → SlotIsUp (Of who) (get_or bs c.shown None) → TurnIsUp turn cs bs
one-up who turn cs bs c e f up k s h =
    let same : who ≡ k = ap (some-inside who) (sym e ∙ s) in
    subst (λ n. SlotIsUp (Of n) (get_or bs (first_where (is_of n) (newcomer n 0 0) cs).shown None)) same (subst (λ (x : Client). SlotIsUp (Of who) (get_or bs x.shown None)) f up)

pub set-up : (holder : Holder) (n : ℕ) (slot : Option KeptBuffer) (bs : List (Option KeptBuffer)) → SlotIsUp holder slot → SlotIsUp holder (get_or (set bs n slot) n None)
set-up holder n slot [] up = tt
set-up holder zero slot (o ∷ bs) up = up
set-up holder (suc n) slot (o ∷ bs) up = set-up holder n slot bs up

pub past-up : (holder : Holder) (n : ℕ) (bs : List (Option KeptBuffer)) → length bs ≤ n → SlotIsUp holder (get_or bs n None)
past-up holder n [] h = tt
past-up holder zero (o ∷ bs) h = absurd (omega arith)
past-up holder (suc n) (o ∷ bs) h = past-up holder n bs (omega arith)

-- the list of whose turn it is, on the buffer that it sees
pub shown-up : (who : ℕ) (turn : Option ℕ) (cs : List Client) (bs : List (Option KeptBuffer)) (c : Client) (b : KeptBuffer) → is_turn_of who turn ≡ true → is_here who cs ≡ true → c ≡ first_where (is_of who) (newcomer who 0 0) cs → get_or bs c.shown None ≡ Some b → TurnIsUp turn cs bs → IsUp (Of who) b.shelf
shown-up who turn cs bs c b t h f g up =
    let mine : SlotIsUp (Of who) (get_or bs (first_where (is_of who) (newcomer who 0 0) cs).shown None) = up who (turn-is who turn t) h in
    subst (SlotIsUp (Of who)) (ap (λ (x : Client). get_or bs x.shown None) (sym f) ∙ g) mine

-- whether a buffer is there
pub seen-there : (slot : Option KeptBuffer) → is_some (slot_seen slot) ≡ is_some slot
seen-there None = refl
seen-there (Some b) = refl

pub seen-gone : (slot : Option KeptBuffer) → is_none (slot_seen slot) ≡ is_none slot
seen-gone None = refl
seen-gone (Some b) = refl

-- what the code was told of it
pub none-told : (slot : Option KeptBuffer) (told : Bool) → is_some slot ≡ not told → is_none slot ≡ told
none-told None true e = refl
none-told None false e = absurd (let no : false ≡ true = e in cc)
none-told (Some b) true e = absurd (let no : true ≡ false = e in cc)
none-told (Some b) false e = refl

-- what the code finds at a number
pub past-none : (bs : List (Option KeptBuffer)) (n : ℕ) → length bs ≤ n → None ≡ get_or (all_seen bs) n None
past-none [] n h = refl
past-none (b ∷ bs) zero h = absurd (omega arith)
past-none (b ∷ bs) (suc n) h = past-none bs n (omega arith)

pub here-some : (bs : List (Option KeptBuffer)) (n : ℕ) (slot : Option KeptBuffer) → n < length bs → slot ≡ get_or bs n slot → slot_seen slot ≡ get_or (all_seen bs) n None
here-some bs n slot h g = ap slot_seen (g ∙ sym (get_or_same bs n slot h)) ∙ sym (seen-get bs n)

pub past-listed : (holder : Holder) (bs : List (Option KeptBuffer)) (n : ℕ) → length bs ≤ n → false ≡ (is_there n (all_seen bs) && has_list holder (buffer_at n (all_seen bs)))
past-listed holder bs n h = ap (λ o. is_some o && has_list holder (buffer_or_scratch o)) (past-none bs n h)

pub none-listed : (holder : Holder) (bs : List (Option KeptBuffer)) (n : ℕ) (slot : Option KeptBuffer) → n < length bs → slot ≡ get_or bs n slot → slot ≡ None → false ≡ (is_there n (all_seen bs) && has_list holder (buffer_at n (all_seen bs)))
none-listed holder bs n slot h g e = ap (λ o. is_some o && has_list holder (buffer_or_scratch o)) (sym (ap slot_seen e) ∙ here-some bs n slot h g)

pub some-listed : (holder : Holder) (bs : List (Option KeptBuffer)) (n : ℕ) (slot : Option KeptBuffer) (b : KeptBuffer) → n < length bs → slot ≡ get_or bs n slot → slot ≡ Some b → has_list holder b.seen ≡ (is_there n (all_seen bs) && has_list holder (buffer_at n (all_seen bs)))
some-listed holder bs n slot b h g e = ap (λ o. is_some o && has_list holder (buffer_or_scratch o)) (sym (ap slot_seen e) ∙ here-some bs n slot h g)
