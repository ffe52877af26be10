-- Lemmas on the way between two nodes, as it is found by their parents.
use Rattle.std.proofs.Common.{◌≡◌, ℕ, zero, suc, ◌+◌, ◌<◌, ◌≤◌, true, false, eqb, ltb, List, [], ◌∷◌, ◌++◌, length, reverse, refl, sym, ap, ◌∙◌, arith, append-nil, append_assoc, lt-ltb, le-ltb, ne_eqb, eq-eqb}
use Rattle.std.proofs.lemmas.List.{reverse-append}
use Rattle.undo_model.specs.Ways.{leaving, entering}
use Rattle.undo_model.proofs.WayLemmas.{leaving-here, leaving-up, leaving-down, entering-here, entering-up, entering-down}
use Rattle.buffer_store.specs.Seen.{Branch, branch_at, nodes_of}
use Rattle.buffer_store.proofs.SeenLemmas.{node-parent}

-- two nodes between which the rest of a way goes, behind those that were left, and before those that are gone to, from the last
pub record IsOnTheWay (bs : List Branch) (from goal a b : ℕ) (left entered : List ℕ) : Type 0 where
  pub fuel : ℕ
  pub enough : a + b ≤ fuel
  pub a_in : a < length bs
  pub b_in : b < length bs
  pub left_are : (o : List ℕ) → leaving (from + goal) (nodes_of o bs) from goal ≡ left ++ leaving fuel (nodes_of o bs) a b
  pub entered_are : (o : List ℕ) → entering (from + goal) (nodes_of o bs) from goal ≡ entering fuel (nodes_of o bs) a b ++ reverse entered

pub way-begins : (bs : List Branch) (from goal : ℕ) → from < length bs → goal < length bs → IsOnTheWay bs from goal from goal [] []
way-begins bs from goal h k = record {
  fuel = from + goal;
  enough = omega arith;
  a_in = h;
  b_in = k;
  left_are = λ o. refl;
  entered_are = λ o. sym (append-nil (entering (from + goal) (nodes_of o bs) from goal));
}

-- the greater node is left for its parent
pub way-up : (bs : List Branch) (from goal a b p : ℕ) (left entered new : List ℕ) → ((m : ℕ) → 0 < m → m < length bs → (branch_at bs m).parent < m) → IsOnTheWay bs from goal a b left entered → b < a → p ≡ (branch_at bs a).parent → new ≡ left ++ a ∷ [] → IsOnTheWay bs from goal p b new entered
way-up bs from goal a b p left entered new h w lt is more = by w.fuel w.enough w.left_are w.entered_are
  where
    below : p < a
    below = let q : (branch_at bs a).parent < a = h a (omega arith) w.a_in in omega arith

    differ : eqb a b ≡ false
    differ = ne_eqb a b (λ e. omega arith)

    less : ltb b a ≡ true
    less = lt-ltb b a lt

    by : (k : ℕ) → a + b ≤ k → ((o : List ℕ) → leaving (from + goal) (nodes_of o bs) from goal ≡ left ++ leaving k (nodes_of o bs) a b) → ((o : List ℕ) → entering (from + goal) (nodes_of o bs) from goal ≡ entering k (nodes_of o bs) a b ++ reverse entered) → IsOnTheWay bs from goal p b new entered
    by zero enough ls es = absurd (omega arith)
    by (suc k) enough ls es = record {
      fuel = k;
      enough = omega (arith, below);
      a_in = omega (arith, below, w.a_in);
      b_in = w.b_in;
      left_are = λ o. ls o ∙ ap (λ x. left ++ x) (leaving-up k (nodes_of o bs) a b differ less ∙ ap (λ m. a ∷ leaving k (nodes_of o bs) m b) (node-parent o bs a w.a_in ∙ sym is)) ∙ sym (append_assoc left (a ∷ []) (leaving k (nodes_of o bs) p b)) ∙ ap (λ x. x ++ leaving k (nodes_of o bs) p b) (sym more);
      entered_are = λ o. es o ∙ ap (λ x. x ++ reverse entered) (entering-up k (nodes_of o bs) a b differ less ∙ ap (λ m. entering k (nodes_of o bs) m b) (node-parent o bs a w.a_in ∙ sym is));
    }

-- or gone to from its parent
pub way-down : (bs : List Branch) (from goal a b p : ℕ) (left entered new : List ℕ) → ((m : ℕ) → 0 < m → m < length bs → (branch_at bs m).parent < m) → IsOnTheWay bs from goal a b left entered → a < b → p ≡ (branch_at bs b).parent → new ≡ entered ++ b ∷ [] → IsOnTheWay bs from goal a p left new
way-down bs from goal a b p left entered new h w lt is more = by w.fuel w.enough w.left_are w.entered_are
  where
    below : p < b
    below = let q : (branch_at bs b).parent < b = h b (omega arith) w.b_in in omega arith

    differ : eqb a b ≡ false
    differ = ne_eqb a b (λ e. omega arith)

    less : ltb b a ≡ false
    less = le-ltb b a (omega arith)

    turned : b ∷ reverse entered ≡ reverse new
    turned = sym (reverse-append entered (b ∷ [])) ∙ ap reverse (sym more)

    by : (k : ℕ) → a + b ≤ k → ((o : List ℕ) → leaving (from + goal) (nodes_of o bs) from goal ≡ left ++ leaving k (nodes_of o bs) a b) → ((o : List ℕ) → entering (from + goal) (nodes_of o bs) from goal ≡ entering k (nodes_of o bs) a b ++ reverse entered) → IsOnTheWay bs from goal a p left new
    by zero enough ls es = absurd (omega arith)
    by (suc k) enough ls es = record {
      fuel = k;
      enough = omega (arith, below);
      a_in = w.a_in;
      b_in = omega (arith, below, w.b_in);
      left_are = λ o. ls o ∙ ap (λ x. left ++ x) (leaving-down k (nodes_of o bs) a b differ less ∙ ap (leaving k (nodes_of o bs) a) (node-parent o bs b w.b_in ∙ sym is));
      entered_are = λ o. es o ∙ ap (λ x. x ++ reverse entered) (entering-down k (nodes_of o bs) a b differ less ∙ ap (λ m. entering k (nodes_of o bs) a m ++ b ∷ []) (node-parent o bs b w.b_in ∙ sym is)) ∙ append_assoc (entering k (nodes_of o bs) a p) (b ∷ []) (reverse entered) ∙ ap (λ x. entering k (nodes_of o bs) a p ++ x) turned;
    }

-- where the two are one, the way was found
pub way-left : (bs : List Branch) (from goal a b : ℕ) (left entered : List ℕ) → IsOnTheWay bs from goal a b left entered → a ≡ b → (o : List ℕ) → left ≡ leaving (from + goal) (nodes_of o bs) from goal
way-left bs from goal a b left entered w e o = sym (w.left_are o ∙ ap (λ x. left ++ x) (leaving-here w.fuel (nodes_of o bs) a b (eq-eqb a b e)) ∙ append-nil left)

pub way-entered : (bs : List Branch) (from goal a b : ℕ) (left entered turned : List ℕ) → IsOnTheWay bs from goal a b left entered → a ≡ b → turned ≡ reverse entered → (o : List ℕ) → turned ≡ entering (from + goal) (nodes_of o bs) from goal
way-entered bs from goal a b left entered turned w e t o = t ∙ sym (w.entered_are o ∙ ap (λ x. x ++ reverse entered) (entering-here w.fuel (nodes_of o bs) a b (eq-eqb a b e)))
