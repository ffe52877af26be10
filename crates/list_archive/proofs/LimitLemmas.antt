-- How many lists are kept, as they are stored and as they are seen.
use Rattle.std.proofs.Common.{◌≡◌, ◌⊎◌, ℕ, suc, ◌+◌, ◌≤◌, ◌&&◌, true, false, nat_le, List, [], ◌∷◌, ◌++◌, length, map, drop, cond, refl, sym, ap, ap₂, inl, inr, ◌∙◌, arith}
use Rattle.std.specs.List.{AllByRecursion}
use Rattle.std.proofs.lemmas.Bool.{leb-true, le-leb}
use Rattle.std.proofs.lemmas.List.{length-map}
use Rattle.tables.proofs.TableLemmas.{by_test}
use Rattle.list_model.specs.Settling.{sweep}
use Rattle.selection_set.specs.declared.sel.Sel.{Sel}
use Rattle.selection_set.specs.Inside.{range_of}
use Rattle.selection_set.specs.Sweeping.{swept_sels, by_coords}
use Rattle.selection_map.specs.Reaching.{through}
use Rattle.selection_set.specs.Listing.{Listed}
use Rattle.selection_set.specs.Held.{selected}
use Rattle.change_list.specs.Logs.{Logged}
use Rattle.list_shelf.specs.declared.lag.Lag.{Lag}
use Rattle.list_shelf.specs.Lagging.{seen_by, since, up_to_date, Lags}
use Rattle.list_shelf.proofs.LagLemmas.{brought-seen}
use Rattle.list_archive.specs.declared.limits.TheConstants.{MAX_PAST, MAX_PAST_SELECTIONS}
use Rattle.list_archive.specs.Limits.{total, fits, newest}
use Rattle.list_archive.specs.Kept.{size_of, newest_lists}
use Rattle.list_archive.specs.Archives.{stored_size, newest_lags, list_in}
use Rattle.list_archive.proofs.EachLemmas.{same, twice}

-- of those that are kept, the last is the last of all

pub newest-end : {A : Type 0} (size : A → ℕ) (xs : List A) (x : A) → (n : ℕ) × (newest size (xs ++ x ∷ []) ≡ drop n xs ++ x ∷ [])
newest-end size [] x = (0, refl)
newest-end size (y ∷ []) x =
    by_test (λ b. (n : ℕ) × (cond b (y ∷ x ∷ []) (x ∷ []) ≡ drop n (y ∷ []) ++ x ∷ [])) (fits size (y ∷ x ∷ []))
    (λ _. (0, refl))
    (λ _. (1, refl))
newest-end {A = A} size (y ∷ z ∷ zs) x =
    let rest : (n : ℕ) × (newest size ((z ∷ zs) ++ x ∷ []) ≡ drop n (z ∷ zs) ++ x ∷ []) = newest-end size (z ∷ zs) x in
    by_test (λ b. (n : ℕ) × (cond b (y ∷ z ∷ (zs ++ x ∷ [])) (newest size (z ∷ (zs ++ x ∷ []))) ≡ drop n (y ∷ z ∷ zs) ++ x ∷ [])) (fits size (y ∷ z ∷ (zs ++ x ∷ [])))
    (λ _. (0, refl))
    (λ _. (suc rest.0, rest.1))

-- all that are allowed stay

pub newest-all : {A : Type 0} (size : A → ℕ) (xs : List A) → fits size xs ≡ true → newest size xs ≡ xs
newest-all size [] h = refl
newest-all size (x ∷ []) h = refl
newest-all size (x ∷ y ∷ ys) h = ap (λ b. cond b (x ∷ y ∷ ys) (newest size (y ∷ ys))) h

pub newest-allowed : {A : Type 0} (size : A → ℕ) (xs : List A) → (fits size (newest size xs) ≡ true) ⊎ (length (newest size xs) ≡ 1)
newest-allowed size [] = inl refl
newest-allowed size (x ∷ []) = inr refl
newest-allowed size (x ∷ y ∷ ys) =
    by_test (λ b. b ≡ fits size (x ∷ y ∷ ys) → (fits size (cond b (x ∷ y ∷ ys) (newest size (y ∷ ys))) ≡ true) ⊎ (length (cond b (x ∷ y ∷ ys) (newest size (y ∷ ys))) ≡ 1)) (fits size (x ∷ y ∷ ys))
    (λ _ e. inl (sym e))
    (λ _ _. newest-allowed size (y ∷ ys))
    refl

-- lists that are made others, of the same sizes

total-map : {A B : Type 0} (P : A → Type 0) (a : A → ℕ) (b : B → ℕ) (f : A → B) (xs : List A) → ((x : A) → P x → b (f x) ≡ a x) → AllByRecursion P xs → total b (map f xs) ≡ total a xs
total-map P a b f [] e h = refl
total-map P a b f (x ∷ xs) e h = ap₂ (λ m n. m + n) (e x h.0) (total-map P a b f xs e h.1)

fits-map : {A B : Type 0} (P : A → Type 0) (a : A → ℕ) (b : B → ℕ) (f : A → B) (xs : List A) → ((x : A) → P x → b (f x) ≡ a x) → AllByRecursion P xs → fits b (map f xs) ≡ fits a xs
fits-map P a b f xs e h = ap₂ (λ m n. nat_le m MAX_PAST && nat_le n MAX_PAST_SELECTIONS) (length-map xs f) (total-map P a b f xs e h)

newest-map : {A B : Type 0} (P : A → Type 0) (a : A → ℕ) (b : B → ℕ) (f : A → B) (xs : List A) → ((x : A) → P x → b (f x) ≡ a x) → AllByRecursion P xs → newest b (map f xs) ≡ map f (newest a xs)
newest-map P a b f [] e h = refl
newest-map P a b f (x ∷ []) e h = refl
newest-map P a b f (x ∷ y ∷ ys) e h =
    ap (λ t. cond t (f x ∷ f y ∷ map f ys) (newest b (map f (y ∷ ys)))) (fits-map P a b f (x ∷ y ∷ ys) e h)
    ∙ ap (λ l. cond (fits a (x ∷ y ∷ ys)) (f x ∷ f y ∷ map f ys) l) (newest-map P a b f (y ∷ ys) e h.1)
    ∙ by_test (λ t. cond t (map f (x ∷ y ∷ ys)) (map f (newest a (y ∷ ys))) ≡ map f (cond t (x ∷ y ∷ ys) (newest a (y ∷ ys)))) (fits a (x ∷ y ∷ ys)) (λ _. refl) (λ _. refl)

-- a list is never seen with more selections than it is stored with

swept-fewer : (s : Sel) (ss : List Sel) → length (sweep by_coords s ss) ≤ suc (length ss)
swept-fewer s [] = omega arith
swept-fewer s (t ∷ ts) =
    by_test (λ b. length (cond b (sweep by_coords (by_coords.join s t) ts) (s ∷ sweep by_coords t ts)) ≤ suc (suc (length ts))) (by_coords.due s t)
    (λ _. let l : length (sweep by_coords (by_coords.join s t) ts) ≤ suc (length ts) = swept-fewer (by_coords.join s t) ts in omega (arith, l))
    (λ _. let l : length (sweep by_coords t ts) ≤ suc (length ts) = swept-fewer t ts in omega (arith, l))

seen-fewer : (text : List ℕ) (log : Logged) (lag : Lag) → size_of (list_in text log lag) ≤ stored_size lag
seen-fewer text log lag = omega (arith, length-map (seen_by log lag).list (range_of text), few lag.sels.list, length-map lag.sels.list (through (since log lag.stamp)))
  where
    few : (list : List Sel) → length (swept_sels (map (through (since log lag.stamp)) list)) ≤ length list
    few [] = omega arith
    few (s ∷ ss) = let l : length (sweep by_coords (through (since log lag.stamp) s) (map (through (since log lag.stamp)) ss)) ≤ suc (length (map (through (since log lag.stamp)) ss)) = swept-fewer (through (since log lag.stamp) s) (map (through (since log lag.stamp)) ss) in omega (arith, l, length-map ss (through (since log lag.stamp)))

total-fewer : (text : List ℕ) (log : Logged) (lags : List Lag) → total size_of (map (list_in text log) lags) ≤ total stored_size lags
total-fewer text log [] = omega arith
total-fewer text log (lag ∷ lags) = let l : size_of (list_in text log lag) ≤ stored_size lag = seen-fewer text log lag in let rest : total size_of (map (list_in text log) lags) ≤ total stored_size lags = total-fewer text log lags in omega (arith, l, rest)

fits-parts : (m n : ℕ) → (nat_le m MAX_PAST && nat_le n MAX_PAST_SELECTIONS) ≡ true → (m ≤ MAX_PAST) × (n ≤ MAX_PAST_SELECTIONS)
fits-parts m n h =
    by_test (λ b. b ≡ nat_le m MAX_PAST → (b && nat_le n MAX_PAST_SELECTIONS) ≡ true → (m ≤ MAX_PAST) × (n ≤ MAX_PAST_SELECTIONS)) (nat_le m MAX_PAST)
    (λ _ e f. (leb-true m MAX_PAST (sym e), leb-true n MAX_PAST_SELECTIONS f))
    (λ _ _ f. absurd (let no : false ≡ true = f in cc))
    refl h

pub fits-both : (m n : ℕ) → m ≤ MAX_PAST → n ≤ MAX_PAST_SELECTIONS → (nat_le m MAX_PAST && nat_le n MAX_PAST_SELECTIONS) ≡ true
fits-both m n a b = ap (λ t. t && nat_le n MAX_PAST_SELECTIONS) (le-leb m MAX_PAST a) ∙ le-leb n MAX_PAST_SELECTIONS b

fits-seen : (text : List ℕ) (log : Logged) (lags : List Lag) → fits stored_size lags ≡ true → fits size_of (map (list_in text log) lags) ≡ true
fits-seen text log lags h =
    let both : (length lags ≤ MAX_PAST) × (total stored_size lags ≤ MAX_PAST_SELECTIONS) = fits-parts (length lags) (total stored_size lags) h in
    let fewer : total size_of (map (list_in text log) lags) ≤ total stored_size lags = total-fewer text log lags in
    fits-both (length (map (list_in text log) lags)) (total size_of (map (list_in text log) lags)) (omega (arith, both.0, length-map lags (list_in text log))) (omega (arith, both.1, fewer))

-- brought up to date, it is seen as it stands

size-up : (text : List ℕ) (log : Logged) (lag : Lag) → Lags text log lag → size_of (list_in text log (up_to_date log lag)) ≡ stored_size (up_to_date log lag)
size-up text log lag l = length-map (seen_by log (up_to_date log lag)).list (range_of text) ∙ ap (λ (s : Listed). length s.list) (brought-seen text log lag l)

-- so the newest of some lists are the newest of those that are seen
pub newest-seen : (text : List ℕ) (log : Logged) (lags : List Lag) → AllByRecursion (Lags text log) lags → map (list_in text log) (newest_lags log lags) ≡ newest_lists (map (list_in text log) lags)
newest-seen text log lags a =
    by_test (λ b. b ≡ fits stored_size lags → map (list_in text log) (cond b lags (newest stored_size (map (up_to_date log) lags))) ≡ newest_lists (map (list_in text log) lags)) (fits stored_size lags)
    (λ _ e. sym (newest-all size_of (map (list_in text log) lags) (fits-seen text log lags (sym e))))
    (λ _ _. cut)
    refl
  where
    up : (xs : List Lag) → AllByRecursion (Lags text log) xs → map (list_in text log) (newest stored_size (map (up_to_date log) xs)) ≡ newest size_of (map (list_in text log) (map (up_to_date log) xs))
    up xs h = sym (newest-map (λ y. size_of (list_in text log y) ≡ stored_size y) stored_size size_of (list_in text log) (map (up_to_date log) xs) (λ y e. e) (sizes xs h))
      where
        sizes : (ys : List Lag) → AllByRecursion (Lags text log) ys → AllByRecursion (λ y. size_of (list_in text log y) ≡ stored_size y) (map (up_to_date log) ys)
        sizes [] h = tt
        sizes (y ∷ ys) h = (size-up text log y h.0, sizes ys h.1)

    cut : map (list_in text log) (newest stored_size (map (up_to_date log) lags)) ≡ newest_lists (map (list_in text log) lags)
    cut =
        up lags a
        ∙ ap newest_lists (twice (up_to_date log) (list_in text log) lags ∙ same (Lags text log) (λ x. list_in text log (up_to_date log x)) (list_in text log) lags (λ x l. ap (selected text) (brought-seen text log x l)) a)
