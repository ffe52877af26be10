-- What is drawn of the characters of a stretch of a line.
use Rattle.std.proofs.Common.{◌≡◌, ℕ, zero, suc, ◌+◌, ◌-◌, ◌<◌, ◌≤◌, min, Bool, List, [], ◌∷◌, ◌++◌, length, take, drop, get_or, slice_range, refl, sym, ap, ap₂, ◌∙◌, arith, inl, inr, subst, append_assoc, append-nil, length-take, length-drop, take_all}
use Rattle.std.specs.List.{AllByRecursion}
use Rattle.std.proofs.lemmas.Bool.{cases_lt}
use Rattle.std.proofs.lemmas.List.{map-append, take-append-drop}
use Rattle.std.proofs.Math.Seq.{drop-cons}
use Rattle.kak_text.specs.Cells.{cells_of, column_behind}
use Rattle.window_view.specs.View.{View}
use Rattle.kak_faces.specs.declared.face.Face.{Face}
use Rattle.drawings.specs.declared.drawing.Atom.{Atom}
use Rattle.line_painting.specs.Atoms.{ShownChar, shown_in, with_all_shown}
use Rattle.line_painting.specs.Cells.{right_of, char_drawn}
use Rattle.line_painting.specs.Laws.{IsPlainChar}
use Rattle.line_painting.specs.Painting.{Grown, chars_drawn}
use Rattle.line_painting.proofs.AtomLemmas.{with_all_shown-append}
use Rattle.line_painting.proofs.CellLemmas.{drawn-behind}
use Rattle.line_painting.proofs.PlainLemmas.{plain-within}

further : (right column cells : ℕ) → right ≤ column → right ≤ column + cells
further right column cells h = omega arith

-- the characters before a place, cut before another
pub take-slice : (xs : List ℕ) (a b : ℕ) → a ≤ b → take b xs ≡ take a xs ++ slice_range xs a b
take-slice xs zero b h = let e : b - 0 ≡ b = omega arith in ap (λ n. take n xs) (sym e)
take-slice [] (suc a) zero h = absurd (omega arith)
take-slice [] (suc a) (suc b) h = sym (nothing (suc b - suc a) [] refl)
  where
    nothing : (n : ℕ) (none : List ℕ) → none ≡ [] → take n none ≡ []
    nothing zero none e = refl
    nothing (suc n) none e = ap (take (suc n)) e
take-slice (x ∷ xs) (suc a) zero h = absurd (omega arith)
take-slice (x ∷ xs) (suc a) (suc b) h = let e : b - a ≡ suc b - suc a = omega arith in ap (λ r. x ∷ r) (take-slice xs a b (omega arith) ∙ ap (λ n. take a xs ++ take n (drop a xs)) e)

shown_in-append : (face : Face) (a b : List ℕ) → shown_in face (a ++ b) ≡ shown_in face a ++ shown_in face b
shown_in-append face a b = map-append (λ (c : ℕ). let x : ShownChar = record { char = c; face = face } in x) a b

-- the characters up to the end
pub rest-is : (chars : List ℕ) (done : ℕ) → slice_range chars done (length chars) ≡ drop done chars
rest-is chars done = take_all (length chars - done) (drop done chars) (omega (arith, length-drop done chars))

-- a run ends within the characters
pub run-inside : (chars rest : List ℕ) (done count : ℕ) → done ≤ length chars → rest ≡ drop done chars → count ≤ length rest → done + count ≤ length chars
run-inside chars rest done count h r k = omega (arith, h, k, ap length r, length-drop done chars)

module _ (tabstop : ℕ) (signs : Bool) where
  -- characters one after another
  pub column_behind-append : (column : ℕ) (a b : List ℕ) → column_behind tabstop column (a ++ b) ≡ column_behind tabstop (column_behind tabstop column a) b
  column_behind-append column [] b = refl
  column_behind-append column (c ∷ a) b = column_behind-append (column + cells_of c column tabstop) a b

  pub chars_drawn-append : (view : View) (column : ℕ) (a b : List ℕ) → chars_drawn tabstop signs view column (a ++ b) ≡ chars_drawn tabstop signs view column a ++ chars_drawn tabstop signs view (column_behind tabstop column a) b
  chars_drawn-append view column [] b = refl
  chars_drawn-append view column (c ∷ a) b =
      let next : ℕ = column + cells_of c column tabstop in
      let first : List ℕ = char_drawn signs view column (cells_of c column tabstop) c in
      ap (λ r. first ++ r) (chars_drawn-append view next a b) ∙ sym (append_assoc first (chars_drawn tabstop signs view next a) (chars_drawn tabstop signs view (column_behind tabstop next a) b))

  -- nothing is drawn right of the window, and there it stays
  pub chars_drawn-behind : (view : View) (column : ℕ) (cs : List ℕ) → right_of view ≤ column → chars_drawn tabstop signs view column cs ≡ []
  chars_drawn-behind view column [] h = refl
  chars_drawn-behind view column (c ∷ cs) h =
      ap₂ (λ x y. x ++ y) (drawn-behind signs view column (cells_of c column tabstop) c h) (chars_drawn-behind view (column + cells_of c column tabstop) cs (further (right_of view) column (cells_of c column tabstop) h))

  pub column_behind-right : (right column : ℕ) (cs : List ℕ) → right ≤ column → right ≤ column_behind tabstop column cs
  column_behind-right right column [] h = h
  column_behind-right right column (c ∷ cs) h = column_behind-right right (column + cells_of c column tabstop) cs (further right column (cells_of c column tabstop) h)

  -- columns that are the same or both right of the window
  pub same-drawn : (view : View) (a b : ℕ) (cs : List ℕ) → min (right_of view) a ≡ min (right_of view) b → chars_drawn tabstop signs view a cs ≡ chars_drawn tabstop signs view b cs
  same-drawn view a b cs e =
      elim (cases_lt a (right_of view)) [
        | inl lt ↦ let s : a ≡ b = omega arith in ap (λ k. chars_drawn tabstop signs view k cs) s
        | inr ge ↦ chars_drawn-behind view a cs ge ∙ sym (chars_drawn-behind view b cs (omega arith))
      ]

  pub same-behind : (right a b : ℕ) (cs : List ℕ) → min right a ≡ min right b → min right (column_behind tabstop a cs) ≡ min right (column_behind tabstop b cs)
  same-behind right a b cs e =
      elim (cases_lt a right) [
        | inl lt ↦ let s : a ≡ b = omega arith in ap (λ k. min right (column_behind tabstop k cs)) s
        | inr ge ↦ omega (arith, column_behind-right right a cs ge, column_behind-right right b cs (omega arith))
      ]

  -- plain characters
  pub column_behind-plain : (column : ℕ) (cs : List ℕ) → AllByRecursion (IsPlainChar signs) cs → column_behind tabstop column cs ≡ column + length cs
  column_behind-plain column [] h = omega arith
  column_behind-plain column (c ∷ cs) h =
      let e : column + 1 + length cs ≡ column + suc (length cs) = omega arith in
      ap (λ w. column_behind tabstop (column + w) cs) (h.0.one_cell column tabstop) ∙ column_behind-plain (column + 1) cs h.1 ∙ e

  pub chars_drawn-plain : (view : View) (column : ℕ) (cs : List ℕ) → AllByRecursion (IsPlainChar signs) cs → view.left ≤ column → column + length cs ≤ right_of view → chars_drawn tabstop signs view column cs ≡ cs
  chars_drawn-plain view column [] h l r = refl
  chars_drawn-plain view column (c ∷ cs) h l r =
      ap (λ w. char_drawn signs view column w c ++ chars_drawn tabstop signs view (column + w) cs) (h.0.one_cell column tabstop)
      ∙ ap₂ (λ x y. x ++ y) (plain-within signs view column c l (omega arith) h.0.itself) (chars_drawn-plain view (column + 1) cs h.1 (omega arith) (omega arith))

  -- a run of plain characters of which some are there
  run-drawn : (view : View) (column : ℕ) (cs : List ℕ) → AllByRecursion (IsPlainChar signs) cs → (0 < length cs → view.left ≤ column) → (0 < length cs → column + length cs ≤ right_of view) → chars_drawn tabstop signs view column cs ≡ cs
  run-drawn view column [] h l r = refl
  run-drawn view column (c ∷ cs) h l r = chars_drawn-plain view column (c ∷ cs) h (l (omega arith)) (r (omega arith))

  -- the atoms after so many characters of a stretch, and the column
  pub record IsPushedTo (view : View) (old new : Grown) (face : Face) (chars : List ℕ) (column behind done : ℕ) : Type 0 where
    pub inside : done ≤ length chars
    pub drawn : new ≡ record { atoms = with_all_shown old.atoms (shown_in face (chars_drawn tabstop signs view column (take done chars))); face = face }
    pub column_is : behind ≡ column_behind tabstop column (take done chars)

  -- nothing is drawn yet
  pub pushed-none : (view : View) (old new : Grown) (face : Face) (chars : List ℕ) (column : ℕ) → new ≡ record { atoms = old.atoms; face = face } → IsPushedTo view old new face chars column column 0
  pushed-none view old new face chars column e = record { inside = omega arith; drawn = e; column_is = refl }

  -- more of a stretch is drawn
  pub pushed-more : (view : View) (old mid new : Grown) (face : Face) (chars more drawn : List ℕ) (column behind next done to : ℕ) → IsPushedTo view old mid face chars column behind done
      → done ≤ to → to ≤ length chars → more ≡ slice_range chars done to → new ≡ record { atoms = with_all_shown mid.atoms (shown_in mid.face drawn); face = mid.face }
      → drawn ≡ chars_drawn tabstop signs view behind more → next ≡ column_behind tabstop behind more → IsPushedTo view old new face chars column next to
  pushed-more view old mid new face chars more drawn column behind next done to p l k m n d b = record {
    inside = k;
    drawn =
        n
        ∙ ap (λ (g : Grown). let r : Grown = record { atoms = with_all_shown g.atoms (shown_in g.face drawn); face = g.face } in r) p.drawn
        ∙ ap (λ (t : List Atom). let r : Grown = record { atoms = t; face = face } in r)
        (ap (λ t. with_all_shown (with_all_shown old.atoms (shown_in face front)) (shown_in face t)) (d ∙ ap (λ k. chars_drawn tabstop signs view k more) p.column_is)
        ∙ sym (with_all_shown-append old.atoms (shown_in face front) (shown_in face (chars_drawn tabstop signs view at more)))
        ∙ ap (with_all_shown old.atoms) (sym (shown_in-append face front (chars_drawn tabstop signs view at more)) ∙ ap (shown_in face) (sym (chars_drawn-append view column (take done chars) more) ∙ ap (chars_drawn tabstop signs view column) whole)));
    column_is = b ∙ ap (λ k. column_behind tabstop k more) p.column_is ∙ sym (column_behind-append column (take done chars) more) ∙ ap (column_behind tabstop column) whole;
  }
    where
      at : ℕ
      at = column_behind tabstop column (take done chars)

      front : List ℕ
      front = chars_drawn tabstop signs view column (take done chars)

      whole : take done chars ++ more ≡ take to chars
      whole = ap (λ t. take done chars ++ t) m ∙ sym (take-slice chars done to l)

  -- a run of plain characters is
  pub pushed-run : (view : View) (old mid new : Grown) (face : Face) (chars rest run : List ℕ) (column behind next done count : ℕ) → IsPushedTo view old mid face chars column behind done
      → rest ≡ drop done chars → run ≡ slice_range chars done (done + count) → count ≤ length rest → AllByRecursion (IsPlainChar signs) (take count rest) → (0 < count → view.left ≤ behind) → (0 < count → behind + count ≤ right_of view)
      → new ≡ record { atoms = with_all_shown mid.atoms (shown_in mid.face run); face = mid.face }
      → next ≡ behind + count → IsPushedTo view old new face chars column next (done + count)
  pushed-run view old mid new face chars rest run column behind next done count p r s k a left right n b =
      pushed-more view old mid new face chars run run column behind next done (done + count) p (omega arith) inside s n
      (sym (run-drawn view behind run plain (λ h. left (omega (arith, h, size))) (λ h. let w : 0 < count = omega (arith, h, size) in omega (arith, right w, size))))
      (b ∙ sym (column_behind-plain behind run plain ∙ ap (λ k. behind + k) size))
    where
      same : run ≡ take count rest
      same = let e : done + count - done ≡ count = omega arith in s ∙ ap (λ k. take k (drop done chars)) e ∙ ap (take count) (sym r)

      size : length run ≡ count
      size = ap length same ∙ (omega (arith, length-take count rest))

      inside : done + count ≤ length chars
      inside = omega (arith, p.inside, k, ap length r, length-drop done chars)

      plain : AllByRecursion (IsPlainChar signs) run
      plain = subst (AllByRecursion (IsPlainChar signs)) (sym same) a

  -- another character is
  pub pushed-one : (view : View) (old mid new : Grown) (face : Face) (chars : List ℕ) (column behind next done c : ℕ) → IsPushedTo view old mid face chars column behind done
      → done < length chars → c ≡ get_or chars done 0 → new ≡ record { atoms = with_all_shown mid.atoms (shown_in mid.face (char_drawn signs view behind (cells_of c behind tabstop) c)); face = mid.face }
      → next ≡ behind + cells_of c behind tabstop → IsPushedTo view old new face chars column next (done + 1)
  pushed-one view old mid new face chars column behind next done c p l r n b =
      pushed-more view old mid new face chars (c ∷ []) (char_drawn signs view behind (cells_of c behind tabstop) c) column behind next done (done + 1) p (omega arith) (omega arith)
      (sym (slice-one chars done c l r)) n (sym (append-nil (char_drawn signs view behind (cells_of c behind tabstop) c))) b
    where
      slice-one : (xs : List ℕ) (i x : ℕ) → i < length xs → x ≡ get_or xs i 0 → slice_range xs i (i + 1) ≡ x ∷ []
      slice-one xs i x h e =
          let n : i + 1 - i ≡ 1 = omega arith in
          ap (λ k. take k (drop i xs)) n ∙ ap (take 1) (drop-cons xs i 0 h) ∙ ap (λ y. y ∷ []) (sym e)

  -- all of a stretch was drawn, or what is left lies right of the window
  pub pushed-all : (view : View) (old new : Grown) (face : Face) (chars : List ℕ) (column behind done : ℕ) → IsPushedTo view old new face chars column behind done → length chars ≤ done
      → new.atoms ≡ with_all_shown old.atoms (shown_in face (chars_drawn tabstop signs view column chars))
  pushed-all view old new face chars column behind done p h =
      ap (λ (g : Grown). g.atoms) p.drawn ∙ ap (λ t. with_all_shown old.atoms (shown_in face (chars_drawn tabstop signs view column t))) (take_all done chars h)

  pub pushed-cut : (view : View) (old new : Grown) (face : Face) (chars : List ℕ) (column behind done : ℕ) → IsPushedTo view old new face chars column behind done → right_of view ≤ behind
      → new.atoms ≡ with_all_shown old.atoms (shown_in face (chars_drawn tabstop signs view column chars))
  pushed-cut view old new face chars column behind done p h =
      let front : List ℕ = chars_drawn tabstop signs view column (take done chars) in
      ap (λ (g : Grown). g.atoms) p.drawn
      ∙ ap (λ t. with_all_shown old.atoms (shown_in face t))
      (sym (append-nil front)
      ∙ ap (λ r. front ++ r) (sym (chars_drawn-behind view behind (drop done chars) h))
      ∙ ap (λ k. front ++ chars_drawn tabstop signs view k (drop done chars)) p.column_is
      ∙ sym (chars_drawn-append view column (take done chars) (drop done chars))
      ∙ ap (chars_drawn tabstop signs view column) (take-append-drop done chars))

  pub column-all : (view : View) (old new : Grown) (face : Face) (chars : List ℕ) (column behind done : ℕ) → IsPushedTo view old new face chars column behind done → length chars ≤ done
      → min (right_of view) behind ≡ min (right_of view) (column_behind tabstop column chars)
  column-all view old new face chars column behind done p h = ap (min (right_of view)) (p.column_is ∙ ap (column_behind tabstop column) (take_all done chars h))

  pub column-cut : (view : View) (old new : Grown) (face : Face) (chars : List ℕ) (column behind done : ℕ) → IsPushedTo view old new face chars column behind done → right_of view ≤ behind
      → min (right_of view) behind ≡ min (right_of view) (column_behind tabstop column chars)
  column-cut view old new face chars column behind done p h =
      let rest : right_of view ≤ column_behind tabstop behind (drop done chars) = column_behind-right (right_of view) behind (drop done chars) h in
      let whole : column_behind tabstop behind (drop done chars) ≡ column_behind tabstop column chars =
      ap (λ k. column_behind tabstop k (drop done chars)) p.column_is ∙ sym (column_behind-append column (take done chars) (drop done chars)) ∙ ap (column_behind tabstop column) (take-append-drop done chars) in
      omega arith
