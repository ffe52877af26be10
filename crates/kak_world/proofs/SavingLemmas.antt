-- A buffer that is marked as saved, and the names of those of which something would be lost.
use Rattle.std.proofs.Common.{◌≡◌, ℕ, ◌+◌, ◌<◌, ◌≤◌, true, false, cond, List, [], ◌∷◌, length, drop, get_or, refl, sym, ap, ◌∙◌, None, Some}
use Rattle.std.proofs.lemmas.List.{drop_more, drop_all}
use Rattle.std.specs.Prelude.{is_some}
use Rattle.std.specs.declared.option.Option.{Option}
use Rattle.kak_world.specs.Stored.{Stored}
use Rattle.kak_world.specs.declared.clients.Client.{Client}
use Rattle.kak_world.specs.declared.world.Rest.{Rest}
use Rattle.kak_world.specs.Flat.{Scoped, Buffer, is_there, changed_at}
use Rattle.kak_world.specs.Changing.{changed_in}
use Rattle.kak_world.specs.Seen.{Kept}
use Rattle.kak_world.specs.Saving.{is_named, buffer_number_from, marked_as_saved, saved_in, unsaved_behind}
use Rattle.kak_world.proofs.WorldLemmas.{parts, get_or_same}

pub now-saved : {st : List (Option Stored)} {sc : Scoped} (n : ℕ) (bs now : List (Option Buffer)) (cs : List Client) (r : Rest) (w : Kept) → parts bs cs r sc st ≡ w → now ≡ changed_at n marked_as_saved bs → (parts now cs r sc st).flat ≡ saved_in n w.flat
unfolding saved_in changed_in
now-saved {st = st} {sc = sc} n bs now cs r w e t = ap (λ x. (parts x cs r sc st).flat) t ∙ ap (λ (k : Kept). saved_in n k.flat) e

-- names behind which one buffer is added, and then the others
pub unsaved-one : (names : Option (List ℕ)) (b : Option Buffer) (bs : List (Option Buffer)) → unsaved_behind (unsaved_behind names (b ∷ [])) bs ≡ unsaved_behind names (b ∷ bs)
unsaved-one names None bs = refl
unsaved-one names (Some b) bs = refl

pub unsaved-next : (names now : Option (List ℕ)) (b : Option Buffer) (bs : List (Option Buffer)) (i : ℕ) → i < length bs → b ≡ get_or bs i b → now ≡ unsaved_behind names (b ∷ [])
    → unsaved_behind now (drop (i + 1) bs) ≡ unsaved_behind names (drop i bs)
unsaved-next names now b bs i h g e =
    ap (λ ns. unsaved_behind ns (drop (i + 1) bs)) e ∙ unsaved-one names b (drop (i + 1) bs)
    ∙ ap (unsaved_behind names) (ap (λ x. x ∷ drop (i + 1) bs) g ∙ sym (drop_more bs i b h))

pub unsaved-end : (names : Option (List ℕ)) (bs : List (Option Buffer)) (i : ℕ) → length bs ≤ i → unsaved_behind names (drop i bs) ≡ names
unsaved-end names bs i h = ap (unsaved_behind names) (drop_all i bs h)

-- the number of a buffer of some name, among those from one on
named-from : (name : List ℕ) (bs : List (Option Buffer)) (i : ℕ) (o : Option Buffer) → i < length bs → o ≡ get_or bs i o → buffer_number_from i name (drop i bs) ≡ buffer_number_from i name (o ∷ drop (i + 1) bs)
named-from name bs i o h g = ap (buffer_number_from i name) (drop_more bs i o h ∙ ap (λ x. x ∷ drop (i + 1) bs) (sym g))

pub named-here : (name : List ℕ) (bs : List (Option Buffer)) (i : ℕ) (o : Option Buffer) → i < length bs → o ≡ get_or bs i o → is_named name o ≡ true → buffer_number_from i name (drop i bs) ≡ Some i
named-here name bs i o h g e = named-from name bs i o h g ∙ ap (λ t. cond t (Some i) (buffer_number_from (i + 1) name (drop (i + 1) bs))) e

pub named-on : (name : List ℕ) (bs : List (Option Buffer)) (i : ℕ) (o : Option Buffer) → i < length bs → o ≡ get_or bs i o → is_named name o ≡ false → buffer_number_from i name (drop i bs) ≡ buffer_number_from (i + 1) name (drop (i + 1) bs)
named-on name bs i o h g e = named-from name bs i o h g ∙ ap (λ t. cond t (Some i) (buffer_number_from (i + 1) name (drop (i + 1) bs))) e

-- a number under which there is a buffer of some name is a buffer's
pub named-some : (name : List ℕ) (o : Option Buffer) → is_named name o ≡ true → is_some o ≡ true
named-some name None h = absurd (let no : false ≡ true = h in cc)
named-some name (Some b) h = refl

pub named-there : (name : List ℕ) (bs : List (Option Buffer)) (n : ℕ) (o : Option Buffer) → n < length bs → o ≡ get_or bs n o → is_named name o ≡ true → is_there n bs ≡ true
named-there name bs n o h g e = ap is_some (get_or_same bs n o h ∙ sym g) ∙ named-some name o e
