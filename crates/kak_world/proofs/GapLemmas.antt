-- The least number that no buffer has.
use Rattle.std.proofs.Common.{◌≡◌, ◌≢◌, ℕ, zero, suc, ◌+◌, ◌<◌, ◌≤◌, Bool, true, false, List, [], ◌∷◌, ◌++◌, length, get_or, set, drop, refl, sym, ap, subst, ◌∙◌, arith, None, Some, nat_le}
use Rattle.std.specs.Prelude.{is_none, slice_index_or, ◌==◌}
use Rattle.std.proofs.lemmas.Bool.{eq-eqb, ne_eqb, leb-true, leb-false}
use Rattle.tables.proofs.TableLemmas.{by_test}
use Rattle.std.specs.declared.option.Option.{Option}
use Rattle.kak_world.specs.Stored.{Stored}
use Rattle.kak_world.specs.declared.clients.Client.{Client}
use Rattle.kak_world.specs.declared.world.Rest.{Rest}
use Rattle.kak_world.specs.Flat.{Scoped, Buffer, Flat, made_buffer, is_there, lowest}
use Rattle.kak_world.specs.Keeping.{KeepsClients}
use Rattle.kak_world.specs.Seen.{Kept, HasBuffer}
use Rattle.kak_world.specs.Showing.{first_gap, buffer_placed, buffer_opened, buffer_count, IsFirstGap, BufferStandsAt, GapsAreTaken}
use Rattle.kak_world.proofs.WorldLemmas.{parts}
use Rattle.kak_world.proofs.KeepingLaws.{listed_in, keeps_buffers}

-- looking for the gap, in what is left of the slots
pub gap-here : (bs : List (Option Buffer)) (i : ℕ) (d : Option Buffer) → i < length bs → is_none (get_or bs i d) ≡ true → i + first_gap (drop i bs) ≡ i
gap-here [] i d h s = absurd (omega arith)
gap-here (None ∷ bs) zero d h s = refl
gap-here (Some b ∷ bs) zero d h s = absurd (let no : false ≡ true = s in cc)
gap-here (b ∷ bs) (suc i) d h s = let rest : i + first_gap (drop i bs) ≡ i = gap-here bs i d (omega arith) s in omega arith

pub gap-on : (bs : List (Option Buffer)) (i : ℕ) (d : Option Buffer) → i < length bs → is_none (get_or bs i d) ≡ false → i + first_gap (drop i bs) ≡ i + 1 + first_gap (drop (i + 1) bs)
gap-on bs i d h s = ap (λ n. i + n) (from bs i d h s) ∙ omega arith
  where
    from : (bs : List (Option Buffer)) (i : ℕ) (d : Option Buffer) → i < length bs → is_none (get_or bs i d) ≡ false → first_gap (drop i bs) ≡ 1 + first_gap (drop (i + 1) bs)
    from [] i d h s = absurd (omega arith)
    from (None ∷ bs) zero d h s = absurd (let no : true ≡ false = s in cc)
    from (Some b ∷ bs) zero d h s = omega arith
    from (b ∷ bs) (suc i) d h s = let e : suc i + 1 ≡ suc (i + 1) = omega arith in rw e (from bs i d (omega arith) s)

pub gap-past : (bs : List (Option Buffer)) (i : ℕ) → length bs ≤ i → i + first_gap (drop i bs) ≡ i
gap-past [] i h = drop-none i
  where
    drop-none : (i : ℕ) → i + first_gap (drop i []) ≡ i
    drop-none zero = refl
    drop-none (suc i) = omega arith
gap-past (b ∷ bs) zero h = absurd (omega arith)
gap-past (b ∷ bs) (suc i) h = let rest : i + first_gap (drop i bs) ≡ i = gap-past bs i (omega arith) in omega arith

-- a buffer that is put there
pub placed-set : (b : Buffer) (bs : List (Option Buffer)) (n : ℕ) → n ≡ first_gap bs → n < length bs → set bs n (Some b) ≡ buffer_placed b bs
placed-set b [] n e h = absurd (omega arith)
placed-set b (None ∷ bs) zero e h = refl
placed-set b (None ∷ bs) (suc n) e h = absurd (omega (arith, e))
placed-set b (Some a ∷ bs) zero e h = absurd (omega (arith, e))
placed-set b (Some a ∷ bs) (suc n) e h = ap (λ xs. Some a ∷ xs) (placed-set b bs n (omega (arith, e)) (omega arith))

pub placed-end : (b : Buffer) (bs : List (Option Buffer)) (n : ℕ) → n ≡ first_gap bs → length bs ≤ n → bs ++ Some b ∷ [] ≡ buffer_placed b bs
placed-end b [] n e h = refl
placed-end b (None ∷ bs) n e h = absurd (omega (arith, e))
placed-end b (Some a ∷ bs) zero e h = absurd (omega (arith, e))
placed-end b (Some a ∷ bs) (suc n) e h = ap (λ xs. Some a ∷ xs) (placed-end b bs n (omega (arith, e)) (omega arith))

-- how many buffers there are, and the gap
gap-count : (bs : List (Option Buffer)) → first_gap bs ≤ buffer_count bs
gap-count [] = omega arith
gap-count (None ∷ bs) = omega arith
gap-count (Some b ∷ bs) = omega (arith, gap-count bs)

count-few : (bs : List (Option Buffer)) → buffer_count bs ≤ length bs
count-few [] = omega arith
count-few (None ∷ bs) = omega (arith, count-few bs)
count-few (Some b ∷ bs) = omega (arith, count-few bs)

full-gap : (bs : List (Option Buffer)) → length bs ≤ buffer_count bs → length bs ≤ first_gap bs
full-gap [] h = omega arith
full-gap (None ∷ bs) h = absurd (omega (arith, count-few bs))
full-gap (Some b ∷ bs) h = omega (arith, full-gap bs (omega arith))

pub gap-full : (bs : List (Option Buffer)) (n : ℕ) → length bs ≤ 1024 → n ≡ first_gap bs → buffer_count bs ≡ 1024 → 1024 ≤ n
gap-full bs n few e full =
    let all : length bs ≤ buffer_count bs = omega (arith, few, full) in
    omega (arith, few, full, count-few bs, full-gap bs all, e)

pub full-count : (bs : List (Option Buffer)) (n : ℕ) → length bs ≤ 1024 → n ≡ first_gap bs → 1024 ≤ n → buffer_count bs ≡ 1024
full-count bs n few e past = omega (arith, few, gap-count bs, count-few bs, e)

-- some buffer is there then, and no number is too great
-- whether all numbers are taken, by the least one that isn't
pub full-by : (bs : List (Option Buffer)) (n : ℕ) → length bs ≤ 1024 → n ≡ first_gap bs → nat_le 1024 n ≡ (buffer_count bs == 1024)
full-by bs n h e =
    by_test (λ t. t ≡ nat_le 1024 n → t ≡ (buffer_count bs == 1024)) (nat_le 1024 n)
    (λ _ q. sym (eq-eqb (buffer_count bs) 1024 (full-count bs n h e (leb-true 1024 n (sym q)))))
    (λ _ q. sym (ne_eqb (buffer_count bs) 1024 (λ c. absurd (omega (arith, gap-full bs n h e c, leb-false 1024 n (sym q))))))
    refl

pub placed-some : (b : Buffer) (bs : List (Option Buffer)) → is_there (lowest (buffer_placed b bs)) (buffer_placed b bs) ≡ true
placed-some b [] = refl
placed-some b (None ∷ bs) = refl
placed-some b (Some a ∷ bs) = refl

pub placed-few : (b : Buffer) (bs : List (Option Buffer)) (most : ℕ) → length bs ≤ most → first_gap bs < most → length (buffer_placed b bs) ≤ most
placed-few b [] most h g = omega arith
placed-few b (None ∷ bs) most h g = h
placed-few b (Some a ∷ bs) zero h g = absurd (omega arith)
placed-few b (Some a ∷ bs) (suc most) h g = omega (arith, placed-few b bs most (omega arith) (omega arith))

pub has-placed : (b : Buffer) (bs now : List (Option Buffer)) (n : ℕ) → n ≡ first_gap bs → n < 1024 → now ≡ buffer_placed b bs → HasBuffer bs → HasBuffer now
has-placed b bs now n e g t h = subst HasBuffer (sym t) (record { some = placed-some b bs; few = placed-few b bs 1024 h.few (omega (arith, e)) })

-- the gap is no buffer's, and all numbers below it are
least-gap : (bs : List (Option Buffer)) → IsFirstGap bs (first_gap bs)
least-gap bs = record { free = free bs; taken_below = taken bs }
  where
    free : (bs : List (Option Buffer)) → is_there (first_gap bs) bs ≡ false
    free [] = refl
    free (None ∷ bs) = refl
    free (Some b ∷ bs) = free bs

    taken : (bs : List (Option Buffer)) (k : ℕ) → k < first_gap bs → is_there k bs ≡ true
    taken [] k h = absurd (omega arith)
    taken (None ∷ bs) k h = absurd (omega arith)
    taken (Some b ∷ bs) zero h = refl
    taken (Some b ∷ bs) (suc k) h = taken bs k (omega arith)

stands-there : (b : Buffer) (bs : List (Option Buffer)) → BufferStandsAt (first_gap bs) b bs (buffer_placed b bs)
stands-there b bs = record { here = here bs; others = others bs }
  where
    here : (bs : List (Option Buffer)) → slice_index_or (buffer_placed b bs) (first_gap bs) None ≡ Some b
    here [] = refl
    here (None ∷ bs) = refl
    here (Some a ∷ bs) = here bs

    others : (bs : List (Option Buffer)) (k : ℕ) → k ≢ first_gap bs → slice_index_or (buffer_placed b bs) k None ≡ slice_index_or bs k None
    others [] zero h = absurd (h refl)
    others [] (suc k) h = refl
    others (None ∷ bs) zero h = absurd (h refl)
    others (None ∷ bs) (suc k) h = refl
    others (Some a ∷ bs) zero h = refl
    others (Some a ∷ bs) (suc k) h = others bs k (λ e. h (ap suc e))

pub gaps_are_taken : GapsAreTaken
gaps_are_taken = record { least = least-gap; stands = stands-there }

-- the world with one more buffer
pub now-opened : {st : List (Option Stored)} {sc : Scoped} (name : List ℕ) (file : Bool) (text : List ℕ) (bs now : List (Option Buffer)) (cs : List Client) (r : Rest) (w : Kept) (b : Buffer) → parts bs cs r sc st ≡ w → now ≡ buffer_placed b bs → b ≡ made_buffer name file text → (parts now cs r sc st).flat ≡ buffer_opened name file text w.flat
unfolding buffer_opened
now-opened {st = st} {sc = sc} name file text bs now cs r w b e p m =
    ap (λ x. (parts x cs r sc st).flat) p
    ∙ ap (λ x. (parts (buffer_placed x bs) cs r sc st).flat) m
    ∙ ap (λ (k : Kept). buffer_opened name file text k.flat) e

listed-placed : (k n : ℕ) (name : List ℕ) (file : Bool) (text : List ℕ) (bs : List (Option Buffer)) → listed_in k (slice_index_or (buffer_placed (made_buffer name file text) bs) n None) ≡ listed_in k (slice_index_or bs n None)
listed-placed k zero name file text [] = refl
listed-placed k (suc n) name file text [] = refl
listed-placed k zero name file text (None ∷ bs) = refl
listed-placed k (suc n) name file text (None ∷ bs) = refl
listed-placed k zero name file text (Some a ∷ bs) = refl
listed-placed k (suc n) name file text (Some a ∷ bs) = listed-placed k n name file text bs

-- nobody comes or goes
pub keeps_opened : (name : List ℕ) (file : Bool) (text : List ℕ) (flat : Flat) → KeepsClients flat (buffer_opened name file text flat)
unfolding buffer_opened
keeps_opened name file text flat = keeps_buffers _ flat (λ k n. listed-placed k n name file text flat.buffers)

pub open-keeps : (name : List ℕ) (file : Bool) (text : List ℕ) (old now : Flat) → now ≡ buffer_opened name file text old → KeepsClients old now
open-keeps name file text old now e = subst (KeepsClients old) (sym e) (keeps_opened name file text old)
