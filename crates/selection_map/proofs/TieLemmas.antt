-- Texts that are the same behind an offset of each, and ways that lead from one to the other.
use Rattle.std.proofs.Common.{◌≡◌, ℕ, ◌<◌, ◌≤◌, ◌+◌, ◌-◌, min, true, false, cond, ◌⊎◌, inl, inr, List, length, take, drop, leb, refl, sym, ap, ap₂, ◌∙◌, arith, length-drop}
use Rattle.std.proofs.lemmas.List.{drop-drop}
use Rattle.text_model.specs.declared.coords.Coord.{Coord}
use Rattle.text_model.specs.Coords.{origin, reached, is_at_most}
use Rattle.text_model.specs.Texts.{IsText, coord_at, last_place}
use Rattle.text_model.proofs.PlaceLemmas.{leb_true, leb_false}
use Rattle.selection_map.specs.declared.reach.ShiftReach.{ShiftReach}
use Rattle.selection_map.specs.Rebasing.{rebased}
use Rattle.selection_map.specs.Reaching.{goes, at_rest, then_on}
use Rattle.selection_map.specs.Premises.{IsTied, ReachStands, spot}
use Rattle.selection_map.proofs.CarryLemmas.{rebased-further, far-behind, order-coords}

pub ways : (a b : ℕ) → (a < b) ⊎ (b ≤ a)
ways a b = grind arith

pub tied-lengths : (old new : List ℕ) (f t : ℕ) → IsTied old new f t → length old + t ≡ length new + f
tied-lengths old new f t h =
    let e : length (drop f old) ≡ length (drop t new) = ap length h.same in
    omega (arith, length-drop f old, length-drop t new, h.from_in, h.onto_in)

tied-back : (old new : List ℕ) (f t : ℕ) → IsTied old new f t → IsTied new old t f
tied-back old new f t h = record { from_in = h.onto_in; onto_in = h.from_in; same = sym h.same }

-- what lies k behind one offset is rebased to what lies k behind the other
pub rebased-tied : (old new : List ℕ) (f t k : ℕ) → IsTied old new f t → rebased (coord_at old (f + k)) (coord_at old f) (coord_at new t) ≡ coord_at new (t + k)
rebased-tied old new f t k h =
    ap (λ x. rebased x (coord_at old f) (coord_at new t)) (far-behind old (drop f old) f k refl)
    ∙ rebased-further (coord_at old f) (coord_at new t) (reached origin (take k (drop f old)))
    ∙ sym (far-behind new (drop f old) t k (sym h.same))

-- the same, where the coordinates are those of a way
pub rebased-at : (old new : List ℕ) (f t i j : ℕ) (a b c : Coord) → IsTied old new f t → a ≡ coord_at old i → b ≡ coord_at old f → c ≡ coord_at new t → f ≤ i → j ≡ t + (i - f) → rebased a b c ≡ coord_at new j
rebased-at old new f t i j a b c h e g k le at =
    let i-is : i ≡ f + (i - f) = omega arith in
    ap (λ x. rebased x b c) (e ∙ ap (coord_at old) i-is)
    ∙ ap₂ (λ x y. rebased (coord_at old (f + (i - f))) x y) g k
    ∙ rebased-tied old new f t (i - f) h
    ∙ ap (coord_at new) (sym at)

-- one tie and then another
tied-then : (a b c : List ℕ) (f t g u : ℕ) → IsTied a b f t → IsTied b c g u → IsTied a c (f + (g - t)) (u + (t - g))
tied-then a b c f t g u h k = record {
  from_in = omega (arith, tied-lengths a b f t h, h.from_in, h.onto_in, k.from_in);
  onto_in = omega (arith, tied-lengths b c g u k, k.from_in, k.onto_in, h.onto_in);
  same =
      (let both : t + (g - t) ≡ g + (t - g) = omega arith in
      sym (drop-drop (g - t) f a)
      ∙ ap (drop (g - t)) h.same
      ∙ drop-drop (g - t) t b
      ∙ ap (λ n. drop n b) both
      ∙ sym (drop-drop (t - g) g b)
      ∙ ap (drop (t - g)) k.same
      ∙ drop-drop (t - g) u c);
}

goes-put : (w : ShiftReach) (at : Coord) → is_at_most at w.from ≡ true → goes w at ≡ w.put
goes-put w at e = ap (λ v. cond v w.put (rebased at w.from w.onto)) e

goes-behind : (w : ShiftReach) (at : Coord) → is_at_most at w.from ≡ false → goes w at ≡ rebased at w.from w.onto
goes-behind w at e = ap (λ v. cond v w.put (rebased at w.from w.onto)) e

-- a way leads a place to the place of its offset
pub goes-spot : (old new : List ℕ) (w : ShiftReach) (f t o : ℕ) → IsText old → ReachStands old new w f t → o < length old → goes w (coord_at old o) ≡ coord_at new (spot new f t o)
goes-spot old new w f t o h s below = elim (ways f o) [ inl lt ↦ behind lt | inr le ↦ up_to le ]
  where
    test : is_at_most (coord_at old o) w.from ≡ leb o f
    test = ap (is_at_most (coord_at old o)) s.from_is ∙ order-coords old o f h (omega arith) s.tied.from_in

    up_to : o ≤ f → goes w (coord_at old o) ≡ coord_at new (spot new f t o)
    up_to le =
        let at : min t (last_place new) ≡ spot new f t o = ap (λ n. min n (last_place new)) (omega arith) in
        goes-put w (coord_at old o) (test ∙ leb_true o f le) ∙ s.put_is ∙ ap (coord_at new) at

    behind : f < o → goes w (coord_at old o) ≡ coord_at new (spot new f t o)
    behind lt =
        let at : spot new f t o ≡ t + (o - f) = omega (arith, tied-lengths old new f t s.tied) in
        goes-behind w (coord_at old o) (test ∙ leb_false o f lt) ∙ rebased-at old new f t o (spot new f t o) (coord_at old o) w.from w.onto s.tied refl s.from_is s.onto_is (omega arith) at

-- cutting to the last place before a way or behind it is the same
pub cut-late : (n m f t x : ℕ) → n + t ≡ m + f → f ≤ n → x ≤ n → 0 < n → min (t + (min x (n - 1) - f)) (m - 1) ≡ min (t + (x - f)) (m - 1)
cut-late n m f t x e h k s = omega arith

-- one way and then another is a way
pub then-stands : (a b c : List ℕ) (v w : ShiftReach) (f t g u : ℕ) → IsText b → ReachStands a b v f t → ReachStands b c w g u → ReachStands a c (then_on v w) (f + (g - t)) (u + (t - g))
then-stands a b c v w f t g u h s r = record {
  tied = tied-then a b c f t g u s.tied r.tied;
  from_is = elim (ways t g) [ inl lt ↦ from_behind lt | inr le ↦ from_before le ];
  onto_is = elim (ways t g) [ inl lt ↦ onto_behind lt | inr le ↦ onto_before le ];
  put_is = put;
}
  where
    test : is_at_most w.from v.onto ≡ leb g t
    test = ap₂ is_at_most r.from_is s.onto_is ∙ order-coords b g t h r.tied.from_in s.tied.onto_in

    from_before : g ≤ t → (then_on v w).from ≡ coord_at a (f + (g - t))
    from_before le = ap (λ x. cond x v.from (rebased w.from v.onto v.from)) (test ∙ leb_true g t le) ∙ s.from_is ∙ ap (coord_at a) (omega arith)

    from_behind : t < g → (then_on v w).from ≡ coord_at a (f + (g - t))
    from_behind lt =
        ap (λ x. cond x v.from (rebased w.from v.onto v.from)) (test ∙ leb_false g t lt)
        ∙ rebased-at b a t f g (f + (g - t)) w.from v.onto v.from (tied-back a b f t s.tied) r.from_is s.onto_is s.from_is (omega arith) refl

    onto_before : g ≤ t → (then_on v w).onto ≡ coord_at c (u + (t - g))
    onto_before le =
        ap (λ x. cond x (rebased v.onto w.from w.onto) w.onto) (test ∙ leb_true g t le)
        ∙ rebased-at b c g u t (u + (t - g)) v.onto w.from w.onto r.tied s.onto_is r.from_is r.onto_is le refl

    onto_behind : t < g → (then_on v w).onto ≡ coord_at c (u + (t - g))
    onto_behind lt = ap (λ x. cond x (rebased v.onto w.from w.onto) w.onto) (test ∙ leb_false g t lt) ∙ r.onto_is ∙ ap (coord_at c) (omega arith)

    put : (then_on v w).put ≡ coord_at c (min (u + (t - g)) (last_place c))
    put =
        ap (goes w) s.put_is
        ∙ goes-spot b c w g u (min t (last_place b)) h r (omega (arith, h.some))
        ∙ ap (coord_at c) (cut-late (length b) (length c) g u t (tied-lengths b c g u r.tied) r.tied.from_in s.tied.onto_in h.some)

-- and leads each place where the two lead it
pub goes-then : (a b c : List ℕ) (v w : ShiftReach) (f t g u o : ℕ) → IsText a → IsText b → ReachStands a b v f t → ReachStands b c w g u → o < length a → goes (then_on v w) (coord_at a o) ≡ goes w (goes v (coord_at a o))
goes-then a b c v w f t g u o h k s r below =
    let sum : u + ((t + (o - f)) - g) ≡ (u + (t - g)) + (o - (f + (g - t))) = omega arith in
    let within : t + (o - f) ≤ length b = omega (arith, tied-lengths a b f t s.tied, s.tied.onto_in) in
    goes-spot a c (then_on v w) (f + (g - t)) (u + (t - g)) o h (then-stands a b c v w f t g u k s r) below
    ∙ sym
    (ap (goes w) (goes-spot a b v f t o h s below)
    ∙ goes-spot b c w g u (spot b f t o) k r (omega (arith, k.some))
    ∙ ap (coord_at c) (cut-late (length b) (length c) g u (t + (o - f)) (tied-lengths b c g u r.tied) r.tied.from_in within k.some ∙ ap (λ n. min n (last_place c)) sum))

-- no way leads from a text to itself
pub rest-stands : (text : List ℕ) → ReachStands text text at_rest 0 0
rest-stands text = record {
  tied = record { from_in = omega arith; onto_in = omega arith; same = refl };
  from_is = refl;
  onto_is = refl;
  put_is = (let at : 0 ≡ min 0 (last_place text) = omega arith in ap (coord_at text) at);
}

pub rest-goes : (text : List ℕ) (o : ℕ) → IsText text → o < length text → goes at_rest (coord_at text o) ≡ coord_at text o
rest-goes text o h below =
    let at : spot text 0 0 o ≡ o = omega arith in
    goes-spot text text at_rest 0 0 o h (rest-stands text) below ∙ ap (coord_at text) at
