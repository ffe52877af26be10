-- Lemmas on ways in an undo tree: the nodes that they go over, what they change, and what is remembered of them.
use Rattle.std.proofs.Common.{◌≡◌, ℕ, zero, suc, ◌+◌, ◌<◌, ◌≤◌, true, false, cond, eqb, ltb, List, [], ◌∷◌, ◌++◌, length, map, refl, sym, ap, ap₂, subst, ◌∙◌, arith, inl, inr, ◌⊎◌, Some, eqb-true, ltb-true, ltb-false, lt-ltb, le-ltb, ne_eqb, eq-eqb}
use Rattle.std.specs.Prelude.{⊤}
use Rattle.std.specs.declared.option.Option.{Option}
use Rattle.std.proofs.lemmas.Bool.{eqb-false}
use Rattle.std.proofs.lemmas.List.{map-append}
use Rattle.text_model.proofs.CoordLemmas.{test_cases}
use Rattle.list_model.specs.Settled.{SomeOf}
use Rattle.undo_model.specs.Tree.{Node, node_at, with_heir, up, TreeEdge, heir_after}
use Rattle.undo_model.specs.Ways.{NodeWay, no_way, leaving_first, entering_last, way_between, leaving, entering, rising, falling, remembered, route, remembering, edge_of, crossed, IsRise, IsFall, IsWay}
use Rattle.undo_model.specs.Kept.{IsChild, IsTree}
use Rattle.undo_model.proofs.TreeLemmas.{AreSame, IsTreeAs, same-refl, same-trans, same-parent, with_heir-same, with_heir-tree, parent-there, heir-of_step, up-leads, up-steps, Leads, leads-append}

-- the three begins of a way
way-here : (k : ℕ) (nodes : List Node) (a b : ℕ) → eqb a b ≡ true → way_between k nodes a b ≡ no_way
way-here zero nodes a b e = refl
way-here (suc k) nodes a b e =
    ap (λ v. cond v no_way (cond (ltb b a) (leaving_first a (way_between k nodes (node_at nodes a).parent b)) (entering_last b (way_between k nodes a (node_at nodes b).parent)))) e

way-up : (k : ℕ) (nodes : List Node) (a b : ℕ) → eqb a b ≡ false → ltb b a ≡ true → way_between (suc k) nodes a b ≡ leaving_first a (way_between k nodes (node_at nodes a).parent b)
way-up k nodes a b e l =
    ap₂ (λ v w. cond v no_way (cond w (leaving_first a (way_between k nodes (node_at nodes a).parent b)) (entering_last b (way_between k nodes a (node_at nodes b).parent)))) e l

way-down : (k : ℕ) (nodes : List Node) (a b : ℕ) → eqb a b ≡ false → ltb b a ≡ false → way_between (suc k) nodes a b ≡ entering_last b (way_between k nodes a (node_at nodes b).parent)
way-down k nodes a b e l =
    ap₂ (λ v w. cond v no_way (cond w (leaving_first a (way_between k nodes (node_at nodes a).parent b)) (entering_last b (way_between k nodes a (node_at nodes b).parent)))) e l

-- the nodes that it leaves, and those that it goes to
pub leaving-here : (k : ℕ) (nodes : List Node) (a b : ℕ) → eqb a b ≡ true → leaving k nodes a b ≡ []
leaving-here k nodes a b e = ap (λ (w : NodeWay). w.left) (way-here k nodes a b e)

pub leaving-up : (k : ℕ) (nodes : List Node) (a b : ℕ) → eqb a b ≡ false → ltb b a ≡ true → leaving (suc k) nodes a b ≡ a ∷ leaving k nodes (node_at nodes a).parent b
leaving-up k nodes a b e l = ap (λ (w : NodeWay). w.left) (way-up k nodes a b e l)

pub leaving-down : (k : ℕ) (nodes : List Node) (a b : ℕ) → eqb a b ≡ false → ltb b a ≡ false → leaving (suc k) nodes a b ≡ leaving k nodes a (node_at nodes b).parent
leaving-down k nodes a b e l = ap (λ (w : NodeWay). w.left) (way-down k nodes a b e l)

pub entering-here : (k : ℕ) (nodes : List Node) (a b : ℕ) → eqb a b ≡ true → entering k nodes a b ≡ []
entering-here k nodes a b e = ap (λ (w : NodeWay). w.entered) (way-here k nodes a b e)

pub entering-up : (k : ℕ) (nodes : List Node) (a b : ℕ) → eqb a b ≡ false → ltb b a ≡ true → entering (suc k) nodes a b ≡ entering k nodes (node_at nodes a).parent b
entering-up k nodes a b e l = ap (λ (w : NodeWay). w.entered) (way-up k nodes a b e l)

pub entering-down : (k : ℕ) (nodes : List Node) (a b : ℕ) → eqb a b ≡ false → ltb b a ≡ false → entering (suc k) nodes a b ≡ entering k nodes a (node_at nodes b).parent ++ b ∷ []
entering-down k nodes a b e l = ap (λ (w : NodeWay). w.entered) (way-down k nodes a b e l)

-- from a node to itself nothing is changed
pub route-here : (k : ℕ) (nodes : List Node) (a b : ℕ) → eqb a b ≡ true → route k nodes a b ≡ []
route-here k nodes a b e = ap (λ (w : NodeWay). rising nodes w.left ++ falling nodes w.entered) (way-here k nodes a b e)

-- ---- which nodes a way goes over

-- nodes that aren't the root, with numbers up to that one
abbrev AreUpto : ℕ → List ℕ → Type 0
AreUpto a [] = ⊤
AreUpto a (n ∷ ns) = (0 < n) × (n ≤ a) × AreUpto a ns

upto-weaker : (a c : ℕ) (ns : List ℕ) → a ≤ c → AreUpto a ns → AreUpto c ns
upto-weaker a c [] le h = tt
upto-weaker a c (n ∷ ns) le h = (h.0, omega (arith, h.1), upto-weaker a c ns le h.2)

upto-append : (a : ℕ) (ns : List ℕ) (n : ℕ) → AreUpto a ns → 0 < n → n ≤ a → AreUpto a (ns ++ n ∷ [])
upto-append a [] n h p le = (p, le, tt)
upto-append a (m ∷ ms) n h p le = (h.0, h.1, upto-append a ms n h.2 p le)

none-above : (a n : ℕ) (ns : List ℕ) → AreUpto a ns → a < n → ¬ SomeOf (λ m. m ≡ n) ns
none-above a n [] h lt s = s
none-above a n (m ∷ ms) h lt (inl e) = absurd (omega (arith, h.1))
none-above a n (m ∷ ms) h lt (inr s) = none-above a n ms h.2 lt s

leaving-upto : (k : ℕ) (nodes : List Node) (a b : ℕ) → IsTree nodes → a < length nodes → b < length nodes → AreUpto a (leaving k nodes a b)
leaving-upto zero nodes a b t la lb = tt
leaving-upto (suc k) nodes a b t la lb =
    let pa : ℕ = (node_at nodes a).parent in
    let pb : ℕ = (node_at nodes b).parent in
    elim (test_cases (eqb a b)) [
      | inl e ↦ subst (AreUpto a) (sym (leaving-here (suc k) nodes a b e)) tt
      | inr e ↦ elim (test_cases (ltb b a)) [
        | inl l ↦ (let p : 0 < a = omega (arith, ltb-true b a l) in
            let below : pa < a = (t.children a p la).below in
            let le : pa ≤ a = omega arith in
            let same : a ≤ a = omega arith in
            subst (AreUpto a) (sym (leaving-up k nodes a b e l)) (p, same, upto-weaker pa a (leaving k nodes pa b) le (leaving-upto k nodes pa b t (omega arith) lb)))
        | inr l ↦ (let p : 0 < b = omega (arith, ltb-false b a l, eqb-false a b e) in
            subst (AreUpto a) (sym (leaving-down k nodes a b e l)) (leaving-upto k nodes a pb t la (parent-there nodes b t p lb)))
      ]
    ]

entering-upto : (k : ℕ) (nodes : List Node) (a b : ℕ) → IsTree nodes → a < length nodes → b < length nodes → AreUpto b (entering k nodes a b)
entering-upto zero nodes a b t la lb = tt
entering-upto (suc k) nodes a b t la lb =
    let pa : ℕ = (node_at nodes a).parent in
    let pb : ℕ = (node_at nodes b).parent in
    elim (test_cases (eqb a b)) [
      | inl e ↦ subst (AreUpto b) (sym (entering-here (suc k) nodes a b e)) tt
      | inr e ↦ elim (test_cases (ltb b a)) [
        | inl l ↦ (let p : 0 < a = omega (arith, ltb-true b a l) in
            subst (AreUpto b) (sym (entering-up k nodes a b e l)) (entering-upto k nodes pa b t (parent-there nodes a t p la) lb))
        | inr l ↦ (let p : 0 < b = omega (arith, ltb-false b a l, eqb-false a b e) in
            let below : pb < b = (t.children b p lb).below in
            let le : pb ≤ b = omega arith in
            let same : b ≤ b = omega arith in
            subst (AreUpto b) (sym (entering-down k nodes a b e l)) (upto-append b (entering k nodes a pb) b (upto-weaker pb b (entering k nodes a pb) le (entering-upto k nodes a pb t la (omega arith))) p same))
      ]
    ]

some-append : (ns : List ℕ) (m n : ℕ) → SomeOf (λ x. x ≡ n) (ns ++ m ∷ []) → (SomeOf (λ x. x ≡ n) ns) ⊎ (m ≡ n)
some-append [] m n (inl e) = inr e
some-append [] m n (inr s) = inl s
some-append (x ∷ xs) m n (inl e) = inl (inl e)
some-append (x ∷ xs) m n (inr s) =
    elim (some-append xs m n s) [
      | inl h ↦ inl (inr h)
      | inr e ↦ inr e
    ]

-- no node is both left and gone to
pub way-apart : (k : ℕ) (nodes : List Node) (a b n : ℕ) → IsTree nodes → a < length nodes → b < length nodes → SomeOf (λ m. m ≡ n) (leaving k nodes a b) → ¬ SomeOf (λ m. m ≡ n) (entering k nodes a b)
way-apart zero nodes a b n t la lb s r = s
way-apart (suc k) nodes a b n t la lb s r =
    let pa : ℕ = (node_at nodes a).parent in
    let pb : ℕ = (node_at nodes b).parent in
    let S : List ℕ → Type 0 = λ ns. SomeOf (λ m. m ≡ n) ns in
    elim (test_cases (eqb a b)) [
      | inl e ↦ subst S (leaving-here (suc k) nodes a b e) s
      | inr e ↦ elim (test_cases (ltb b a)) [
        | inl l ↦ (let p : 0 < a = omega (arith, ltb-true b a l) in
            let there : pa < length nodes = parent-there nodes a t p la in
            let gone : S (entering k nodes pa b) = subst S (entering-up k nodes a b e l) r in
            let lt : b < a = ltb-true b a l in
            let first : a ≡ n → ⊥ = λ is. none-above b n (entering k nodes pa b) (entering-upto k nodes pa b t there lb) (omega arith) gone in
            elim (subst S (leaving-up k nodes a b e l) s) [
              | inl is ↦ first is
              | inr later ↦ way-apart k nodes pa b n t there lb later gone
            ])
        | inr l ↦ (let p : 0 < b = omega (arith, ltb-false b a l, eqb-false a b e) in
            let there : pb < length nodes = parent-there nodes b t p lb in
            let left : S (leaving k nodes a pb) = subst S (leaving-down k nodes a b e l) s in
            let lt : a < b = omega (arith, ltb-false b a l, eqb-false a b e) in
            let last : b ≡ n → ⊥ = λ is. none-above a n (leaving k nodes a pb) (leaving-upto k nodes a pb t la there) (omega arith) left in
            elim (some-append (entering k nodes a pb) b n (subst S (entering-down k nodes a b e l) r)) [
              | inl sooner ↦ way-apart k nodes a pb n t la there left sooner
              | inr is ↦ last is
            ])
      ]
    ]

fall-append : (nodes : List Node) (c b n : ℕ) (es : List ℕ) → IsFall nodes c es (node_at nodes n).parent → 0 < n → n < length nodes → IsFall nodes c (es ++ n ∷ []) n
fall-append nodes c b n [] h p lt = (sym h, p, lt, refl)
fall-append nodes c b n (m ∷ ms) h p lt = (h.0, h.1, h.2, fall-append nodes m b n ms h.3 p lt)

-- and it is a way
pub way-by_nodes : (k : ℕ) (nodes : List Node) (a b : ℕ) → IsTree nodes → a < length nodes → b < length nodes → a + b ≤ k → IsWay nodes a b (leaving k nodes a b) (entering k nodes a b)
way-by_nodes zero nodes a b t la lb h = let e : a ≡ b = omega arith in record { top = a; rise = refl; fall = e }
way-by_nodes (suc k) nodes a b t la lb h =
    let pa : ℕ = (node_at nodes a).parent in
    let pb : ℕ = (node_at nodes b).parent in
    let P : List ℕ → List ℕ → Type 0 = λ ls es. IsWay nodes a b ls es in
    elim (test_cases (eqb a b)) [
      | inl e ↦ subst (λ (ls : List ℕ). P ls (entering (suc k) nodes a b)) (sym (leaving-here (suc k) nodes a b e)) (subst (λ (es : List ℕ). P [] es) (sym (entering-here (suc k) nodes a b e)) (record { top = a; rise = refl; fall = eqb-true a b e }))
      | inr e ↦ elim (test_cases (ltb b a)) [
        | inl l ↦ (let p : 0 < a = omega (arith, ltb-true b a l) in
            let below : pa < a = (t.children a p la).below in
            let rest : IsWay nodes pa b (leaving k nodes pa b) (entering k nodes pa b) = way-by_nodes k nodes pa b t (omega arith) lb (omega arith) in
            subst (λ (ls : List ℕ). P ls (entering (suc k) nodes a b)) (sym (leaving-up k nodes a b e l)) (subst (λ (es : List ℕ). P (a ∷ leaving k nodes pa b) es) (sym (entering-up k nodes a b e l)) (record { top = rest.top; rise = (refl, p, la, rest.rise); fall = rest.fall })))
        | inr l ↦ (let p : 0 < b = omega (arith, ltb-false b a l, eqb-false a b e) in
            let below : pb < b = (t.children b p lb).below in
            let rest : IsWay nodes a pb (leaving k nodes a pb) (entering k nodes a pb) = way-by_nodes k nodes a pb t la (omega arith) (omega arith) in
            subst (λ (ls : List ℕ). P ls (entering (suc k) nodes a b)) (sym (leaving-down k nodes a b e l)) (subst (λ (es : List ℕ). P (leaving k nodes a pb) es) (sym (entering-down k nodes a b e l)) (record { top = rest.top; rise = rest.rise; fall = fall-append nodes rest.top b b (entering k nodes a pb) rest.fall p lb })))
      ]
    ]

-- ---- what is remembered of a way

-- remembering leaves a tree, and changes heirs alone
remembered-tree : (nodes : List Node) (ns : List ℕ) (a : ℕ) → IsTree nodes → AreUpto a ns → a < length nodes → IsTreeAs (remembered nodes ns) nodes
remembered-tree nodes [] a t h lt = record { tree = t; same = same-refl nodes }
remembered-tree nodes (n ∷ ns) a t h lt =
    let there : n < length nodes = omega (arith, h.1) in
    let ms : List Node = with_heir (node_at nodes n).parent n nodes in
    let same : AreSame ms nodes = with_heir-same nodes (node_at nodes n).parent n (parent-there nodes n t h.0 there) in
    let rest : IsTreeAs (remembered ms ns) ms = remembered-tree ms ns a (with_heir-tree nodes n t h.0 there) h.2 (omega (arith, same.long)) in
    record { tree = rest.tree; same = same-trans _ ms nodes rest.same same }

pub remembering-tree : (k : ℕ) (nodes : List Node) (a b : ℕ) → IsTree nodes → a < length nodes → b < length nodes → IsTreeAs (remembering k nodes a b) nodes
remembering-tree k nodes a b t la lb =
    let ms : List Node = remembered nodes (leaving k nodes a b) in
    let up : IsTreeAs ms nodes = remembered-tree nodes (leaving k nodes a b) a t (leaving-upto k nodes a b t la lb) la in
    let down : IsTreeAs (remembering k nodes a b) ms = remembered-tree ms (entering k nodes a b) b up.tree (entering-upto k nodes a b t la lb) (omega (arith, up.same.long)) in
    record { tree = down.tree; same = same-trans _ ms nodes down.same up.same }

-- the steps are those of the parents alone
edges-same : (ms nodes : List Node) (ns : List ℕ) → AreSame ms nodes → map (edge_of ms) ns ≡ map (edge_of nodes) ns
edges-same ms nodes [] h = refl
edges-same ms nodes (n ∷ ns) h = ap₂ (λ p ss. (let s : TreeEdge = record { parent = p; child = n } in s) ∷ ss) (same-parent ms nodes n h) (edges-same ms nodes ns h)

heir_after-append : (o : Option ℕ) (n : ℕ) (ss ts : List TreeEdge) → heir_after o n (ss ++ ts) ≡ heir_after (heir_after o n ss) n ts
heir_after-append o n [] ts = refl
heir_after-append o n (s ∷ ss) ts = heir_after-append (cond (eqb s.parent n) (Some s.child) o) n ss ts

-- an heir behind a way is the child of the last step that has its parent
remembered-heir : (nodes : List Node) (ns : List ℕ) (a n : ℕ) → IsTree nodes → AreUpto a ns → a < length nodes → (node_at (remembered nodes ns) n).heir ≡ heir_after (node_at nodes n).heir n (map (edge_of nodes) ns)
remembered-heir nodes [] a n t h lt = refl
remembered-heir nodes (m ∷ ms) a n t h lt =
    let in_tree : m < length nodes = omega (arith, h.1) in
    let there : (node_at nodes m).parent < length nodes = parent-there nodes m t h.0 in_tree in
    let xs : List Node = with_heir (node_at nodes m).parent m nodes in
    let same : AreSame xs nodes = with_heir-same nodes (node_at nodes m).parent m there in
    remembered-heir xs ms a n (with_heir-tree nodes m t h.0 in_tree) h.2 (omega (arith, same.long)) ∙ ap₂ (λ o ss. heir_after o n ss) (heir-of_step nodes (node_at nodes m).parent m n there) (edges-same xs nodes ms same)

pub remembering-heir : (k : ℕ) (nodes : List Node) (a b n : ℕ) → IsTree nodes → a < length nodes → b < length nodes → (node_at (remembering k nodes a b) n).heir ≡ heir_after (node_at nodes n).heir n (crossed k nodes a b)
remembering-heir k nodes a b n t la lb =
    let ls : List ℕ = leaving k nodes a b in
    let es : List ℕ = entering k nodes a b in
    let heir : Option ℕ = (node_at nodes n).heir in
    let ms : List Node = remembered nodes ls in
    let up : IsTreeAs ms nodes = remembered-tree nodes ls a t (leaving-upto k nodes a b t la lb) la in
    remembered-heir ms es b n up.tree (entering-upto k nodes a b t la lb) (omega (arith, up.same.long)) ∙ ap₂ (λ o ss. heir_after o n ss) (remembered-heir nodes ls a n t (leaving-upto k nodes a b t la lb) la) (edges-same ms nodes es up.same) ∙ sym (ap (heir_after heir n) (map-append (edge_of nodes) ls es) ∙ heir_after-append heir n (map (edge_of nodes) ls) (map (edge_of nodes) es))

-- from a node to its parent and back
pub remembering-one_up : (k : ℕ) (nodes : List Node) (a p : ℕ) → 0 < k → (node_at nodes a).parent ≡ p → p < a → remembering k nodes a p ≡ with_heir p a nodes
remembering-one_up zero nodes a p h e lt = absurd (omega arith)
remembering-one_up (suc k) nodes a p h e lt =
    let rest : way_between k nodes (node_at nodes a).parent p ≡ no_way = way-here k nodes (node_at nodes a).parent p (eq-eqb (node_at nodes a).parent p e) in
    let way : way_between (suc k) nodes a p ≡ leaving_first a no_way = way-up k nodes a p (ne_eqb a p (λ q. omega arith)) (lt-ltb p a lt) ∙ ap (leaving_first a) rest in
    ap (λ (w : NodeWay). remembered (remembered nodes w.left) w.entered) way ∙ ap (λ m. with_heir m a nodes) e

pub remembering-one_down : (k : ℕ) (nodes : List Node) (p b : ℕ) → 0 < k → (node_at nodes b).parent ≡ p → p < b → remembering k nodes p b ≡ with_heir p b nodes
remembering-one_down zero nodes p b h e lt = absurd (omega arith)
remembering-one_down (suc k) nodes p b h e lt =
    let rest : way_between k nodes p (node_at nodes b).parent ≡ no_way = way-here k nodes p (node_at nodes b).parent (eq-eqb p (node_at nodes b).parent (sym e)) in
    let way : way_between (suc k) nodes p b ≡ entering_last b no_way = way-down k nodes p b (ne_eqb p b (λ q. omega arith)) (le-ltb b p (omega arith)) ∙ ap (entering_last b) rest in
    ap (λ (w : NodeWay). remembered (remembered nodes w.left) w.entered) way ∙ ap (λ m. with_heir m b nodes) e

-- ---- what a way changes

-- on the way up
rise-leads : (nodes : List Node) (a : ℕ) (ns : List ℕ) (c : ℕ) → IsTree nodes → IsRise nodes a ns c → Leads (node_at nodes a).text (node_at nodes c).text (rising nodes ns)
rise-leads nodes a [] c t h = record { steps = tt; lead = ap (λ m. (node_at nodes m).text) h }
rise-leads nodes a (n ∷ ns) c t h =
    let pn : ℕ = (node_at nodes n).parent in
    let one : Leads (node_at nodes n).text (node_at nodes pn).text (up nodes n) = record { steps = up-steps nodes n t h.1 h.2; lead = up-leads nodes n t h.1 h.2 } in
    let P : ℕ → Type 0 = λ m. Leads (node_at nodes m).text (node_at nodes c).text (rising nodes (n ∷ ns)) in
    subst P (sym h.0) (leads-append (node_at nodes n).text (node_at nodes pn).text (node_at nodes c).text (up nodes n) (rising nodes ns) one (rise-leads nodes pn ns c t h.3))

-- on the way down
fall-leads : (nodes : List Node) (c : ℕ) (ns : List ℕ) (b : ℕ) → IsTree nodes → IsFall nodes c ns b → Leads (node_at nodes c).text (node_at nodes b).text (falling nodes ns)
fall-leads nodes c [] b t h = record { steps = tt; lead = ap (λ m. (node_at nodes m).text) h }
fall-leads nodes c (n ∷ ns) b t h =
    let pn : ℕ = (node_at nodes n).parent in
    let child : IsChild n (node_at nodes pn) (node_at nodes n) = t.children n h.1 h.2 in
    let one : Leads (node_at nodes pn).text (node_at nodes n).text (node_at nodes n).changes = record { steps = child.steps; lead = sym child.made } in
    let P : ℕ → Type 0 = λ m. Leads (node_at nodes m).text (node_at nodes b).text (falling nodes (n ∷ ns)) in
    subst P h.0 (leads-append (node_at nodes pn).text (node_at nodes n).text (node_at nodes b).text (node_at nodes n).changes (falling nodes ns) one (fall-leads nodes n ns b t h.3))

-- a route leads from the one text to the other
pub route-leads : (k : ℕ) (nodes : List Node) (a b : ℕ) → IsTree nodes → a < length nodes → b < length nodes → a + b ≤ k → Leads (node_at nodes a).text (node_at nodes b).text (route k nodes a b)
route-leads k nodes a b t la lb h =
    let way : IsWay nodes a b (leaving k nodes a b) (entering k nodes a b) = way-by_nodes k nodes a b t la lb h in
    leads-append (node_at nodes a).text (node_at nodes way.top).text (node_at nodes b).text (rising nodes (leaving k nodes a b)) (falling nodes (entering k nodes a b)) (rise-leads nodes a (leaving k nodes a b) way.top t way.rise) (fall-leads nodes way.top (entering k nodes a b) b t way.fall)
