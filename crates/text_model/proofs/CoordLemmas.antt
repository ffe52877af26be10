-- Lemmas on coordinates.
use Rattle.std.proofs.Common.{◌≡◌, ℕ, zero, suc, ◌+◌, Bool, true, false, cond, eqb, List, [], ◌∷◌, ◌++◌, refl, sym, ap, ap₂, ◌∙◌, arith, inl, inr, ◌⊎◌}
use Rattle.std.proofs.Math.Dec.{eqb-suc-zero}
use Rattle.text_model.specs.declared.coords.Coord.{Coord}
use Rattle.text_model.specs.Coords.{origin, after, reached, further}

-- coordinates are equal in both parts
pub same_coord : (a b : Coord) → a.line ≡ b.line → a.column ≡ b.column → a ≡ b
same_coord a b l c =
    let P : ℕ → ℕ → Coord = λ m n. record { line = m; column = n } in ap₂ P l c

pub reached-append : (at : Coord) (xs ys : List ℕ) → reached at (xs ++ ys) ≡ reached (reached at xs) ys
reached-append at [] ys = refl
reached-append at (x ∷ xs) ys = reached-append (after at x) xs ys

pub further-origin : (at : Coord) → further at origin ≡ at
further-origin at = same_coord _ _ refl (omega arith)

pub further-same_line : (a b : Coord) → b.line ≡ 0 → further a b ≡ record { line = a.line; column = a.column + b.column }
further-same_line a b e =
    let e' : eqb b.line 0 ≡ true = rw e refl in
    let P : Bool → Coord = λ v. cond v (record { line = a.line; column = a.column + b.column }) (record { line = a.line + b.line; column = b.column }) in
    ap P e'

pub further-below : (a b : Coord) (n : ℕ) → b.line ≡ suc n → further a b ≡ record { line = a.line + b.line; column = b.column }
further-below a b n e =
    let e' : eqb b.line 0 ≡ false = rw e (eqb-suc-zero n) in
    let P : Bool → Coord = λ v. cond v (record { line = a.line; column = a.column + b.column }) (record { line = a.line + b.line; column = b.column }) in
    ap P e'

pub after-newline : (at : Coord) (c : ℕ) → eqb c 10 ≡ true → after at c ≡ record { line = at.line + 1; column = 0 }
after-newline at c e =
    let P : Bool → Coord = λ v. cond v (record { line = at.line + 1; column = 0 }) (record { line = at.line; column = at.column + 1 }) in
    ap P e

pub after-other : (at : Coord) (c : ℕ) → eqb c 10 ≡ false → after at c ≡ record { line = at.line; column = at.column + 1 }
after-other at c e =
    let P : Bool → Coord = λ v. cond v (record { line = at.line + 1; column = 0 }) (record { line = at.line; column = at.column + 1 }) in
    ap P e

-- a test is true or false
pub test_cases : (b : Bool) → (b ≡ true) ⊎ (b ≡ false)
test_cases true = inl refl
test_cases false = inr refl

-- a number is zero or another's successor
pub zero_or_suc : (n : ℕ) → (n ≡ 0) ⊎ ((m : ℕ) × (n ≡ suc m))
zero_or_suc zero = inl refl
zero_or_suc (suc m) = inr (m, refl)

pub after-further : (a b : Coord) (c : ℕ) → after (further a b) c ≡ further a (after b c)
after-further a b c =
    elim (test_cases (eqb c 10)) [
      | inl e ↦ after-newline (further a b) c e ∙ newline_further a b ∙ ap (further a) (sym (after-newline b c e))
      | inr e ↦ after-other (further a b) c e ∙ other_further a b ∙ ap (further a) (sym (after-other b c e))
    ]
  where
    newline_further : (a b : Coord) → (let r : Coord = record { line = (further a b).line + 1; column = 0 } in r) ≡ further a (record { line = b.line + 1; column = 0 })
    newline_further a b =
        let up : Coord = record { line = b.line + 1; column = 0 } in
        let e : further a up ≡ record { line = a.line + (b.line + 1); column = 0 } = further-below a up b.line (omega arith) in
        elim (zero_or_suc b.line) [
          | inl z ↦ same_coord _ _ (ap (λ (x : Coord). x.line + 1) (further-same_line a b z) ∙ omega arith) refl ∙ sym e
          | inr n ↦ same_coord _ _ (ap (λ (x : Coord). x.line + 1) (further-below a b n.0 n.1) ∙ omega arith) refl ∙ sym e
        ]

    other_further : (a b : Coord) → (let r : Coord = record { line = (further a b).line; column = (further a b).column + 1 } in r) ≡ further a (record { line = b.line; column = b.column + 1 })
    other_further a b =
        let right : Coord → Coord = λ x. record { line = x.line; column = x.column + 1 } in
        elim (zero_or_suc b.line) [
          | inl z ↦ ap right (further-same_line a b z) ∙ same_coord _ _ refl (omega arith) ∙ sym (further-same_line a (right b) z)
          | inr n ↦ ap right (further-below a b n.0 n.1) ∙ sym (further-below a (right b) n.0 n.1)
        ]

pub reached-further : (a b : Coord) (xs : List ℕ) → reached (further a b) xs ≡ further a (reached b xs)
reached-further a b [] = refl
reached-further a b (x ∷ xs) =
    ap (λ t. reached t xs) (after-further a b x) ∙ reached-further a (after b x) xs

-- going over characters from a coordinate, by going over them from the origin
pub reached-from : (at : Coord) (xs : List ℕ) → reached at xs ≡ further at (reached origin xs)
reached-from at xs = ap (λ t. reached t xs) (sym (further-origin at)) ∙ reached-further at origin xs
