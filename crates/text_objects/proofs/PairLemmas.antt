-- The innermost pair of brackets, by how many stand open before each offset.
use Rattle.std.proofs.Common.{◌≡◌, ◌≢◌, ℕ, zero, suc, ◌+◌, ◌-◌, ◌<◌, ◌≤◌, Bool, true, false, Option, None, Some, refl, sym, ap, ◌∙◌, arith, inl, inr, ◌⊎◌, leb-true, le-leb}
use Rattle.std.specs.Prelude.{option_map, option_and_then}
use Rattle.std.proofs.lemmas.Bool.{cases_lt, false≢true}
use Rattle.text_model.proofs.CoordLemmas.{test_cases}
use Rattle.motion_keys.specs.Words.{ends}
use Rattle.motion_keys.proofs.ExtremeLemmas.{only-greatest}
use Rattle.text_objects.specs.Pairs.{reaches, innermost_begin, innermost}

-- where a bracket that opens is matched: at the first place behind which as many stand open as before the bracket
pub record IsMatch (level : ℕ → ℕ) (limit a m : ℕ) : Type 0 where
  pub behind : a + 1 ≤ m
  pub inside : m < limit
  pub closed : level (m + 1) ≡ level a
  pub first : (n : ℕ) → a + 1 ≤ n → n < m → level (n + 1) ≢ level a

abbrev pub IsMatchOrNone : (ℕ → ℕ) → ℕ → ℕ → Option ℕ → Type 0
IsMatchOrNone level limit a None = (n : ℕ) → a + 1 ≤ n → n < limit → level (n + 1) ≢ level a
IsMatchOrNone level limit a (Some m) = IsMatch level limit a m

-- brackets and their matches, by a level that each character changes by one at most
pub record AreBrackets (level : ℕ → ℕ) (opens : ℕ → Bool) (mate : ℕ → Option ℕ) (limit : ℕ) : Type 0 where
  pub up : (n : ℕ) → n < limit → level (n + 1) ≤ level n + 1
  pub down : (n : ℕ) → n < limit → level n ≤ level (n + 1) + 1
  pub opening : (n : ℕ) → n < limit → opens n ≡ true → level (n + 1) ≡ level n + 1
  pub opened : (n : ℕ) → n < limit → level (n + 1) ≡ level n + 1 → opens n ≡ true
  pub alone : (n : ℕ) → opens n ≡ false → mate n ≡ None
  pub matched : (n : ℕ) → n < limit → opens n ≡ true → IsMatchOrNone level limit n (mate n)

-- up to where brackets count for an offset: up to it, or with it where a bracket opens there
abbrev pub IsEdge : (ℕ → Bool) → ℕ → ℕ → Type 0
IsEdge opens o e = ((e ≡ o) × (opens o ≡ false)) ⊎ ((e ≡ o + 1) × (opens o ≡ true))

-- nowhere from a number on the level is one lower than at the end
abbrev pub HasGap : (ℕ → ℕ) → ℕ → ℕ → Type 0
HasGap level from e = (k : ℕ) → from ≤ k → k < e → level k + 1 ≢ level e

-- so it is nowhere lower there
stays-high : (level : ℕ → ℕ) (limit from e : ℕ) → ((n : ℕ) → n < limit → level (n + 1) ≤ level n + 1) → e ≤ limit → HasGap level from e → (d k : ℕ) → k + d ≡ e → from ≤ k → level e ≤ level k
stays-high level limit from e up l gap zero k s h = let at : k ≡ e = omega (arith, s) in let same : level k ≡ level e = ap level at in omega (arith, same)
stays-high level limit from e up l gap (suc d) k s h =
    let next : level e ≤ level (k + 1) = stays-high level limit from e up l gap d (k + 1) (omega (arith, s)) (omega (arith, h)) in
    let below : k < e = omega (arith, s) in
    omega (arith, next, up k (omega (arith, below, l)), gap k h below)

-- behind a bracket that opens, the level is higher up to its match
stays-above : (level : ℕ → ℕ) (limit a top : ℕ) → ((n : ℕ) → n < limit → level n ≤ level (n + 1) + 1) → top ≤ limit → level (a + 1) ≡ level a + 1
    → ((n : ℕ) → a + 1 ≤ n → n < top → level (n + 1) ≢ level a) → (d k : ℕ) → a + 1 + d ≡ k → k ≤ top → level a < level k
stays-above level limit a top down l opens first zero k s h = let at : a + 1 ≡ k = omega (arith, s) in let same : level (a + 1) ≡ level k = ap level at in omega (arith, same, opens)
stays-above level limit a top down l opens first (suc d) k s h =
    let n : ℕ = a + 1 + d in
    let before : level a < level n = stays-above level limit a top down l opens first d n (omega arith) (omega (arith, s, h)) in
    let below : n < top = omega (arith, s, h) in
    let at : n + 1 ≡ k = omega (arith, s) in
    let same : level (n + 1) ≡ level k = ap level at in
    omega (arith, before, same, down n (omega (arith, below, l)), first n (omega arith) below)

-- a bracket whose pair holds an offset
pub record IsAround (level : ℕ → ℕ) (limit e k : ℕ) : Type 0 where
  pub last : ℕ
  pub before : k + 1 ≤ e
  pub behind : e ≤ last
  pub inside : last < limit
  pub closed : level (last + 1) ≡ level k
  pub above : (j : ℕ) → k + 1 ≤ j → j ≤ last → level k < level j

pub reaching : (level : ℕ → ℕ) (opens : ℕ → Bool) (mate : ℕ → Option ℕ) (limit o e k : ℕ) → AreBrackets level opens mate limit → o < limit → IsEdge opens o e → k ≤ o → reaches (mate k) o ≡ true → IsAround level limit e k
reaching level opens mate limit o e k b l edge h r =
    elim (test_cases (opens k)) [
      | inl t ↦ go t (mate k) (b.matched k (omega (arith, h, l)) t) r
      | inr f ↦ absurd (false≢true (sym (ap (λ m. reaches m o) (b.alone k f)) ∙ r))
    ]
  where
    go : opens k ≡ true → (found : Option ℕ) → IsMatchOrNone level limit k found → reaches found o ≡ true → IsAround level limit e k
    go t None m r = absurd (false≢true r)
    go t (Some m) found r =
        let there : o ≤ m = leb-true o m r in
        let above : (j : ℕ) → k + 1 ≤ j → j ≤ m → level k < level j = λ j p q. stays-above level limit k m b.down (omega (arith, found.inside)) (b.opening k (omega (arith, h, l)) t) found.first (j - (k + 1)) j (omega (arith, p)) q in
        elim edge [
          | inl w ↦ elim (cases_lt k o) [
            | inl lt ↦ record { last = m; before = omega (arith, w.0, lt); behind = omega (arith, w.0, there); inside = found.inside; closed = found.closed; above = above }
            | inr ge ↦ (let same : k ≡ o = omega (arith, ge, h) in absurd (false≢true (sym w.1 ∙ sym (ap opens same) ∙ t)))
          ]
          | inr w ↦ elim (cases_lt o m) [
            | inl lt ↦ record { last = m; before = omega (arith, w.0, h); behind = omega (arith, w.0, lt); inside = found.inside; closed = found.closed; above = above }
            | inr ge ↦ (let same : m ≡ o = omega (arith, ge, there) in
                let behind : level (m + 1) ≡ level (o + 1) = ap (λ n. level (n + 1)) same in
                absurd (omega (arith, behind, found.closed, b.opening o l w.1, above o (omega (arith, same, found.behind)) there)))
          ]
        ]

-- none holds an offset where the level was never one lower before
pub pair-none : (level : ℕ → ℕ) (opens : ℕ → Bool) (mate : ℕ → Option ℕ) (limit o e : ℕ) → AreBrackets level opens mate limit → o < limit → e ≤ limit → IsEdge opens o e → HasGap level 0 e → innermost mate o ≡ None
pair-none level opens mate limit o e b l below edge gap =
    ap (option_and_then (λ a. option_map (ends a) (mate a))) (sym (only-greatest (λ a. reaches (mate a) o) (o + 1) None (λ k h. fails k h)))
  where
    fails : (k : ℕ) → k < o + 1 → reaches (mate k) o ≡ false
    fails k h =
        elim (test_cases (reaches (mate k) o)) [
          | inl t ↦ (let around : IsAround level limit e k = reaching level opens mate limit o e k b l edge (omega (arith, h)) t in
              absurd (omega (arith, around.above e around.before around.behind, stays-high level limit 0 e b.up below gap (e - k) k (omega (arith, around.before)) (omega arith))))
          | inr f ↦ f
        ]

-- at the last offset where it was, a bracket opens
pub begin-opens : (level : ℕ → ℕ) (opens : ℕ → Bool) (mate : ℕ → Option ℕ) (limit e a : ℕ) → AreBrackets level opens mate limit → e ≤ limit → a < e → level e ≡ level a + 1 → HasGap level (a + 1) e → opens a ≡ true
begin-opens level opens mate limit e a b below h one gap =
    let high : level e ≤ level (a + 1) = stays-high level limit (a + 1) e b.up below gap (e - (a + 1)) (a + 1) (omega (arith, h)) (omega arith) in
    b.opened a (omega (arith, h, below)) (omega (arith, high, one, b.up a (omega (arith, h, below))))

-- and it is the begin of the innermost pair, if it is matched
pub pair-found : (level : ℕ → ℕ) (opens : ℕ → Bool) (mate : ℕ → Option ℕ) (limit o e a : ℕ) → AreBrackets level opens mate limit → o < limit → e ≤ limit → IsEdge opens o e → a < e → level e ≡ level a + 1 → HasGap level (a + 1) e
    → innermost mate o ≡ option_map (ends a) (mate a)
pair-found level opens mate limit o e a b l below edge h one gap = go (mate a) refl (b.matched a (omega (arith, h, below)) opened)
  where
    opened : opens a ≡ true
    opened = begin-opens level opens mate limit e a b below h one gap

    high : (k : ℕ) → a < k → k ≤ e → level e ≤ level k
    high k p q = stays-high level limit (a + 1) e b.up below gap (e - k) k (omega (arith, q)) (omega (arith, p))

    up_to : (o ≤ e) × (e ≤ o + 1)
    up_to = elim edge [ inl w ↦ (omega (arith, w.0), omega (arith, w.0)) | inr w ↦ (omega (arith, w.0), omega (arith, w.0)) ]

    later : (k : ℕ) → a < k → k < o + 1 → reaches (mate k) o ≡ false
    later k p q =
        elim (test_cases (reaches (mate k) o)) [
          | inl t ↦ (let around : IsAround level limit e k = reaching level opens mate limit o e k b l edge (omega (arith, q)) t in
              absurd (omega (arith, around.above e around.before around.behind, high k p (omega (arith, around.before)))))
          | inr f ↦ f
        ]

    earlier : IsMatchOrNone level limit a None → (k : ℕ) → k < a → reaches (mate k) o ≡ false
    earlier none k p =
        elim (test_cases (reaches (mate k) o)) [
          | inl t ↦ (let around : IsAround level limit e k = reaching level opens mate limit o e k b l edge (omega (arith, p, h, up_to.1)) t in
              let over : level a < level (around.last + 1) = stays-above level limit a limit b.down (omega arith) (b.opening a (omega (arith, h, below)) opened) none (around.last + 1 - (a + 1)) (around.last + 1) (omega (arith, h, around.behind)) (omega (arith, around.inside)) in
              absurd (omega (arith, over, around.closed, around.above a (omega (arith, p)) (omega (arith, h, around.behind)))))
          | inr f ↦ f
        ]

    begins : innermost_begin mate o ≡ Some a → innermost mate o ≡ option_map (ends a) (mate a)
    begins e = ap (option_and_then (λ a. option_map (ends a) (mate a))) e

    none-of : mate a ≡ None → IsMatchOrNone level limit a None → (k : ℕ) → k < o + 1 → reaches (mate k) o ≡ false
    none-of alone none k q =
        elim (cases_lt a k) [
          | inl p ↦ later k p q
          | inr p ↦ elim (cases_lt k a) [
            | inl s ↦ earlier none k s
            | inr s ↦ (let same : k ≡ a = omega (arith, p, s) in ap (λ n. reaches (mate n) o) same ∙ ap (λ m. reaches m o) alone)
          ]
        ]

    go : (found : Option ℕ) → mate a ≡ found → IsMatchOrNone level limit a found → innermost mate o ≡ option_map (ends a) (mate a)
    go None e none =
        ap (option_and_then (λ a. option_map (ends a) (mate a))) (sym (only-greatest (λ a. reaches (mate a) o) (o + 1) None (none-of e none))) ∙ sym (ap (option_map (ends a)) e)
    go (Some m) e is =
        let there : o ≤ m = elim (cases_lt m o) [
          | inl lt ↦ absurd (omega (arith, is.closed, one, high (m + 1) (omega (arith, is.behind)) (omega (arith, lt, up_to.0))))
          | inr ge ↦ ge
        ] in
        begins (sym (only-greatest (λ a. reaches (mate a) o) (o + 1) (Some a) (record { inside = omega (arith, h, up_to.1); passes = ap (λ f. reaches f o) e ∙ le-leb o m there; greatest = later })))
