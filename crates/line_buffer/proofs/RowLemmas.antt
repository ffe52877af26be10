-- Lemmas on a list in two rows, the second one with its last item first.
use Rattle.std.proofs.Common.{◌≡◌, ℕ, suc, ◌+◌, ◌-◌, ◌<◌, ◌≤◌, List, [], ◌∷◌, ◌++◌, reverse, length, take, drop, get_or, set, refl, sym, ap, ap₂, ◌∙◌, arith, append_assoc, length-append, length-drop, take_at, drop_at, take-append-drop, append-nil}
use Rattle.std.proofs.lemmas.List.{reverse-append, reverse-reverse, length-reverse, get_or-append_right, get_or-reverse, set-append_right, set_split, set_at, set-get_or, set-append_left, get_or_read, get_or_append_left, drop-drop, take-append-le, take_all, drop_all}

-- a list turned round, at an item
reverse_at : {X : Type 0} (p : List X) (y : X) (q : List X) → reverse (p ++ (y ∷ q)) ≡ reverse q ++ (y ∷ reverse p)
reverse_at p y q =
    reverse-append p (y ∷ q) ∙ ap (λ t. t ++ reverse p) (reverse-append (y ∷ []) q) ∙ append_assoc (reverse q) (y ∷ []) (reverse p)

-- an item of the second row
pub get_or-behind : {X : Type 0} (front back : List X) (n : ℕ) (d : X) → length front ≤ n → n < length front + length back → get_or (front ++ reverse back) n d ≡ get_or back (length back - 1 - (n - length front)) d
get_or-behind front back n d from h =
    get_or-append_right front (reverse back) (length front) n d refl from ∙ get_or-reverse back (n - length front) d (omega arith)

-- an item set, and the list turned round
set-reverse : {X : Type 0} (xs : List X) (k : ℕ) (x : X) → k < length xs → reverse (set xs (length xs - 1 - k) x) ≡ set (reverse xs) k x
set-reverse {X} xs k x h =
    let m : ℕ = length xs - 1 - k in
    let y : X = get_or xs m x in
    let inside : m < length xs = omega arith in
    let parts : xs ≡ take m xs ++ (y ∷ drop (suc m) xs) = sym (set-get_or xs m x) ∙ set_split xs m y inside in
    let long : length (reverse (drop (suc m) xs)) ≡ k = length-reverse (drop (suc m) xs) ∙ length-drop (suc m) xs ∙ omega arith in
    ap reverse (set_split xs m x inside) ∙ reverse_at (take m xs) x (drop (suc m) xs) ∙ sym (ap (λ l. set (reverse l) k x) parts ∙ ap (λ l. set l k x) (reverse_at (take m xs) y (drop (suc m) xs)) ∙ set_at (reverse (drop (suc m) xs)) y (reverse (take m xs)) x k long)

-- an item of the second row set
pub set-behind : {X : Type 0} (front back : List X) (n : ℕ) (x : X) → length front ≤ n → n < length front + length back → front ++ reverse (set back (length back - 1 - (n - length front)) x) ≡ set (front ++ reverse back) n x
set-behind front back n x from h =
    ap (λ t. front ++ t) (set-reverse back (n - length front) x (omega arith)) ∙ sym (set-append_right front (reverse back) (length front) n x refl from)

-- the begin of a list turned round
reverse-take : {X : Type 0} (xs : List X) (k : ℕ) → k ≤ length xs → reverse (take k xs) ≡ drop (length xs - k) (reverse xs)
reverse-take xs k h =
    let parts : reverse xs ≡ reverse (drop k xs) ++ reverse (take k xs) = ap reverse (sym (take-append-drop k xs)) ∙ reverse-append (take k xs) (drop k xs) in
    let long : length (reverse (drop k xs)) ≡ length xs - k = length-reverse (drop k xs) ∙ length-drop k xs in
    sym (ap (drop (length xs - k)) parts ∙ drop_at (reverse (drop k xs)) (reverse (take k xs)) (length xs - k) long)

-- as many items as in both rows
pub both : {X : Type 0} (front back old : List X) → front ++ reverse back ≡ old → length old ≡ length front + length back
both front back old v = ap length (sym v) ∙ length-append front (reverse back) ∙ ap (λ n. length front + n) (length-reverse back)

-- what is behind the gap, with some taken from its begin
pub behind_gap : {X : Type 0} (old front back : List X) (from to : ℕ) → front ++ reverse back ≡ old → length front ≡ from → from ≤ to → to ≤ length old → reverse (take (length back - (to - from)) back) ≡ drop to old
behind_gap old front back from to v l h k =
    let whole : length old ≡ length front + length back = both front back old v in
    let all : drop from old ≡ reverse back = ap (drop from) (sym v) ∙ drop_at front (reverse back) from l in
    let sum : from + (to - from) ≡ to = omega arith in
    let back_by : length back - (length back - (to - from)) ≡ to - from = omega arith in
    sym (ap (λ n. drop n old) (sym sum) ∙ sym (drop-drop (to - from) from old) ∙ ap (drop (to - from)) all ∙ ap (λ n. drop n (reverse back)) (sym back_by) ∙ sym (reverse-take back (length back - (to - from)) (omega arith)))

-- items put at the end of the first row, and some taken from the end of the second
pub replaced : {X : Type 0} (old front back fresh : List X) (from to : ℕ) → front ++ reverse back ≡ old → length front ≡ from → from ≤ to → to ≤ length old → (front ++ fresh) ++ reverse (take (length back - (to - from)) back) ≡ take from old ++ (fresh ++ drop to old)
replaced old front back fresh from to v l h k =
    let before : take from old ≡ front = ap (take from) (sym v) ∙ take_at front (reverse back) from l in
    append_assoc front fresh (reverse (take (length back - (to - from)) back)) ∙ ap₂ (λ x y. x ++ (fresh ++ y)) (sym before) (behind_gap old front back from to v l h k)

-- the last item of the first row and those up to one of the second become one item
pub joined_rows : {X : Type 0} (old front new back less : List X) (m n : ℕ) (x : X) → front ++ reverse back ≡ old → length front ≡ m + 1 → m < n → n < length old → new ≡ set front m x → less ≡ take (length back - (n - m)) back → new ++ reverse less ≡ take m old ++ (x ∷ drop (n + 1) old)
joined_rows old front new back less m n x v l h k e t =
    let gone : n - m ≡ n + 1 - (m + 1) = omega arith in
    let before : take m front ≡ take m old = sym (take-append-le m front (reverse back) (omega arith)) ∙ ap (take m) v in
    let none : drop (suc m) front ≡ [] = drop_all (suc m) front (omega arith) in
    let behind : reverse less ≡ drop (n + 1) old = ap reverse (t ∙ ap (λ d. take (length back - d) back) gone) ∙ behind_gap old front back (m + 1) (n + 1) v l (omega arith) (omega arith) in
    ap₂ (λ a b. a ++ b) (e ∙ set_split front m x (omega arith) ∙ ap₂ (λ a b. a ++ (x ∷ b)) before none) behind ∙ append_assoc (take m old) (x ∷ []) (drop (n + 1) old)

-- the last item of the first row becomes some
pub split_rows : {X : Type 0} (old front new back some : List X) (n : ℕ) → front ++ reverse back ≡ old → length front ≡ n + 1 → new ≡ take n front ++ some → new ++ reverse back ≡ take n old ++ (some ++ drop (n + 1) old)
split_rows old front new back some n v l e =
    let before : take n front ≡ take n old = sym (take-append-le n front (reverse back) (omega arith)) ∙ ap (take n) v in
    let behind : reverse back ≡ drop (n + 1) old = sym (drop_at front (reverse back) (n + 1) l) ∙ ap (drop (n + 1)) v in
    ap₂ (λ a b. a ++ b) (e ∙ ap (λ a. a ++ some) before) behind ∙ append_assoc (take n old) some (drop (n + 1) old)

-- an item before the gap
pub last-front : {X : Type 0} (front back old : List X) (n : ℕ) (d : X) → front ++ reverse back ≡ old → length front ≡ n + 1 → get_or front n d ≡ get_or old n d
last-front front back old n d v l = sym (get_or_append_left front (reverse back) d n (omega arith)) ∙ ap (λ t. get_or t n d) v

-- the last item of one row moved to the end of the other
pub one_poured : {X : Type 0} (from less onto more : List X) (x : X) → from ≡ less ++ (x ∷ []) → more ≡ onto ++ (x ∷ []) → less ++ reverse more ≡ from ++ reverse onto
one_poured from less onto more x e m =
    ap (λ t. less ++ reverse t) m ∙ ap (λ t. less ++ t) (reverse-append onto (x ∷ [])) ∙ sym (append_assoc less (x ∷ []) (reverse onto)) ∙ ap (λ t. t ++ reverse onto) (sym e)

-- two rows that are the same list are so from the other side
pub other_side : {X : Type 0} (a b c d : List X) → b ++ reverse a ≡ d ++ reverse c → a ++ reverse b ≡ c ++ reverse d
other_side a b c d e = sym (turned a b) ∙ ap reverse e ∙ turned c d
  where
    turned : {X : Type 0} (s t : List X) → reverse (t ++ reverse s) ≡ s ++ reverse t
    turned s t = reverse-append t (reverse s) ∙ ap (λ l. l ++ reverse t) (reverse-reverse s)

-- items put in at the end
pub put_last : {X : Type 0} (xs ys : List X) (n : ℕ) → n ≡ length xs → take n xs ++ (ys ++ drop n xs) ≡ xs ++ ys
put_last xs ys n e =
    ap₂ (λ x y. x ++ (ys ++ y)) (take_all n xs (omega arith)) (drop_all n xs (omega arith)) ∙ ap (λ t. xs ++ t) (append-nil ys)

-- nothing put in the place of the last items
pub cut_last : {X : Type 0} (xs none : List X) (m n : ℕ) → none ≡ [] → n ≡ length xs → take m xs ++ (none ++ drop n xs) ≡ take m xs
cut_last xs none m n z e = ap₂ (λ x y. take m xs ++ (x ++ y)) z (drop_all n xs (omega arith)) ∙ append-nil (take m xs)

-- an item of the first row, and of the second
pub item-front : {X : Type 0} (front back old : List X) (n : ℕ) (x d : X) → front ++ reverse back ≡ old → n < length front → x ≡ get_or front n x → x ≡ get_or old n d
item-front front back old n x d v h e =
    get_or_read front n x h e d ∙ sym (get_or_append_left front (reverse back) d n h) ∙ ap (λ l. get_or l n d) v

pub item-back : {X : Type 0} (front back old : List X) (n m : ℕ) (x d : X) → front ++ reverse back ≡ old → length front ≤ n → n < length old → m ≡ length back - 1 - (n - length front) → x ≡ get_or back m x → x ≡ get_or old n d
item-back front back old n m x d v l h e r =
    let whole : length old ≡ length front + length back = both front back old v in
    get_or_read back m x (omega arith) r d ∙ ap (λ k. get_or back k d) e ∙ sym (get_or-behind front back n d l (omega arith)) ∙ ap (λ t. get_or t n d) v

-- one of them set
pub set-front : {X : Type 0} (front back old : List X) (n : ℕ) (x : X) → front ++ reverse back ≡ old → n < length front → set front n x ++ reverse back ≡ set old n x
set-front front back old n x v h = sym (set-append_left front (reverse back) n x h) ∙ ap (λ l. set l n x) v

pub set-back : {X : Type 0} (front back old : List X) (n m : ℕ) (x : X) → front ++ reverse back ≡ old → length front ≤ n → n < length old → m ≡ length back - 1 - (n - length front) → front ++ reverse (set back m x) ≡ set old n x
set-back front back old n m x v l h e =
    let whole : length old ≡ length front + length back = both front back old v in
    ap (λ k. front ++ reverse (set back k x)) e ∙ set-behind front back n x l (omega arith) ∙ ap (λ t. set t n x) v

-- where the gap is, by what stands behind it
pub gap_at : {X : Type 0} (a b c d : List X) (to : ℕ) → a ++ reverse b ≡ c ++ reverse d → length b ≡ length d - (to - length c) → length c ≤ to → to ≤ length c + length d → length a ≡ to
gap_at a b c d to e l h k = omega (arith, both a b (c ++ reverse d) e, both c d (c ++ reverse d) refl)
