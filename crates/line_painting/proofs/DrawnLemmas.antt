-- How a line is drawn run by run of its ground.
use Rattle.std.proofs.Common.{◌≡◌, ℕ, suc, ◌+◌, ◌-◌, ◌<◌, ◌≤◌, min, max, Bool, List, [], ◌∷◌, ◌++◌, length, take, drop, get_or, slice_range, refl, sym, ap, ap₂, subst, ◌∙◌, arith, append-nil, length-take, length-drop, take_all}
use Rattle.std.proofs.lemmas.List.{map-append, take-append-drop, get_or-take, get_or-drop}
use Rattle.kak_text.specs.Cells.{cells_of, column_behind, display_column}
use Rattle.window_view.specs.View.{View}
use Rattle.kak_faces.specs.declared.face.Face.{Face}
use Rattle.kak_faces.specs.Standard.{default_face}
use Rattle.face_grounds.specs.declared.ground.Run.{Run}
use Rattle.face_grounds.specs.Grounds.{Seen, face_in, ground_at}
use Rattle.face_grounds.specs.Laying.{IsAhead}
use Rattle.face_grounds.proofs.RunLemmas.{ahead-next, none-ahead}
use Rattle.face_grounds.proofs.RunLemmas as runs
use Rattle.drawings.specs.declared.drawing.Atom.{Atom}
use Rattle.line_painting.specs.Atoms.{ShownChar, shown_in, with_all_shown}
use Rattle.line_painting.specs.Cells.{right_of, char_drawn}
use Rattle.line_painting.specs.Lines.{Looks, face_on, shown_from, text_shown}
use Rattle.line_painting.specs.Painting.{chars_drawn, ground_face, IsDrawnTo}
use Rattle.line_painting.proofs.AtomLemmas.{with_all_shown-append}
use Rattle.line_painting.proofs.LineLemmas.{shown_from-append, shown_from-behind}
use Rattle.line_painting.proofs.StretchLemmas.{column_behind-append, same-drawn, same-behind, take-slice, rest-is}

module _ (tabstop : ℕ) (signs : Bool) where
  -- characters of one face
  one_face : (look : ℕ → ℕ → Face) (view : View) (o column : ℕ) (face : Face) (cs : List ℕ) → ((i : ℕ) → i < length cs → look (o + i) (get_or cs i 0) ≡ face)
      → shown_from tabstop signs look view o column cs ≡ shown_in face (chars_drawn tabstop signs view column cs)
  one_face look view o column face [] h = refl
  one_face look view o column face (c ∷ cs) h =
      let e : o + 0 ≡ o = omega arith in
      let here : look o c ≡ face = ap (λ k. look k c) (sym e) ∙ h 0 (omega arith) in
      let next : ℕ = column + cells_of c column tabstop in
      let d : List ℕ = char_drawn signs view column (cells_of c column tabstop) c in
      ap₂ (λ f r. shown_in f d ++ r) here
      (one_face look view (o + 1) next face cs (λ i l. let n : o + 1 + i ≡ o + suc i = omega arith in ap (λ k. look k (get_or cs i 0)) n ∙ h (suc i) (omega arith)))
      ∙ sym (map-append (λ (x : ℕ). let s : ShownChar = record { char = x; face = face } in s) d (chars_drawn tabstop signs view next cs))

  -- a line of which nothing is drawn yet
  pub drawn-none : (look : ℕ → ℕ → Face) (view : View) (o : ℕ) (line : List ℕ) (old : List Atom) → IsDrawnTo tabstop signs look view o line old old 0 0
  drawn-none look view o line old = record { inside = omega arith; drawn = refl; column_is = refl }

  -- one more stretch of a line is drawn
  pub drawn-more : (look : ℕ → ℕ → Face) (view : View) (o : ℕ) (line : List ℕ) (old mid new : List Atom) (face : Face) (chars : List ℕ) (a b column behind : ℕ) → IsDrawnTo tabstop signs look view o line old mid a column
      → a ≤ b → b ≤ length line → chars ≡ slice_range line a b → new ≡ with_all_shown mid (shown_in face (chars_drawn tabstop signs view column chars))
      → min (right_of view) behind ≡ min (right_of view) (column_behind tabstop column chars) → ((i : ℕ) → a ≤ i → i < b → look (o + i) (get_or line i 0) ≡ face)
      → IsDrawnTo tabstop signs look view o line old new b behind
  drawn-more look view o line old mid new face chars a b column behind p l k m n e f = record {
    inside = k;
    drawn =
        n
        ∙ ap₂ (λ x y. with_all_shown x (shown_in face y)) p.drawn (same-drawn tabstop signs view column at chars p.column_is)
        ∙ sym (with_all_shown-append old front (shown_in face (chars_drawn tabstop signs view at chars)))
        ∙ ap (with_all_shown old) (ap (λ r. front ++ r) (sym shown) ∙ sym (shown_from-append tabstop signs look view o 0 (take a line) chars) ∙ ap (shown_from tabstop signs look view o 0) whole);
    column_is = e ∙ same-behind tabstop signs (right_of view) column at chars p.column_is ∙ ap (min (right_of view)) (sym (column_behind-append tabstop signs 0 (take a line) chars) ∙ ap (column_behind tabstop 0) whole);
  }
    where
      at : ℕ
      at = display_column line a tabstop

      front : List ShownChar
      front = shown_from tabstop signs look view o 0 (take a line)

      whole : take a line ++ chars ≡ take b line
      whole = ap (λ t. take a line ++ t) m ∙ sym (take-slice line a b l)

      size : length (take a line) ≡ a
      size = omega (arith, length-take a line)

      long : length (slice_range line a b) ≡ b - a
      long = omega (arith, length-take (b - a) (drop a line), length-drop a line)

      nth : (i : ℕ) → i < length chars → get_or chars i 0 ≡ get_or line (a + i) 0
      nth i h = ap (λ t. get_or t i 0) m ∙ get_or-take (b - a) (drop a line) i 0 (omega (arith, ap length m, long)) ∙ get_or-drop a line i 0

      faces : (i : ℕ) → i < length chars → look (o + length (take a line) + i) (get_or chars i 0) ≡ face
      faces i h =
          let s : o + length (take a line) + i ≡ o + (a + i) = omega (arith, size) in
          ap₂ (λ x y. look x y) s (nth i h) ∙ f (a + i) (omega arith) (omega (arith, ap length m, long))

      shown : shown_from tabstop signs look view (o + length (take a line)) at chars ≡ shown_in face (chars_drawn tabstop signs view at chars)
      shown = one_face look view (o + length (take a line)) at face chars faces

  -- all that is seen of a line is drawn: at its end, or right of the window
  pub drawn-all : (look : ℕ → ℕ → Face) (view : View) (o : ℕ) (line : List ℕ) (old new : List Atom) (place column : ℕ) → IsDrawnTo tabstop signs look view o line old new place column → length line ≤ place
      → new ≡ with_all_shown old (shown_from tabstop signs look view o 0 line)
  drawn-all look view o line old new place column p h =
      p.drawn ∙ ap (λ t. with_all_shown old (shown_from tabstop signs look view o 0 t)) (take_all place line h)

  pub drawn-cut : (look : ℕ → ℕ → Face) (view : View) (o : ℕ) (line : List ℕ) (old new : List Atom) (place column : ℕ) → IsDrawnTo tabstop signs look view o line old new place column → right_of view ≤ column
      → new ≡ with_all_shown old (shown_from tabstop signs look view o 0 line)
  drawn-cut look view o line old new place column p h =
      let front : List ShownChar = shown_from tabstop signs look view o 0 (take place line) in
      let right : right_of view ≤ display_column line place tabstop = omega (arith, p.column_is) in
      let rest : shown_from tabstop signs look view (o + length (take place line)) (display_column line place tabstop) (drop place line) ≡ [] =
      shown_from-behind tabstop signs look view (o + length (take place line)) (display_column line place tabstop) (drop place line) right in
      p.drawn
      ∙ ap (with_all_shown old) (sym (append-nil front) ∙ ap (λ r. front ++ r) (sym rest)
      ∙ sym (shown_from-append tabstop signs look view o 0 (take place line) (drop place line)) ∙ ap (λ t. shown_from tabstop signs look view o 0 t) (take-append-drop place line))

  -- faces that are the same on a line
  pub same-looks : (look other : ℕ → ℕ → Face) (view : View) (o column : ℕ) (cs : List ℕ) → ((i : ℕ) → i < length cs → look (o + i) (get_or cs i 0) ≡ other (o + i) (get_or cs i 0))
      → shown_from tabstop signs look view o column cs ≡ shown_from tabstop signs other view o column cs
  same-looks look other view o column [] h = refl
  same-looks look other view o column (c ∷ cs) h =
      let e : o + 0 ≡ o = omega arith in
      let here : look o c ≡ other o c = ap (λ k. look k c) (sym e) ∙ h 0 (omega arith) ∙ ap (λ k. other k c) e in
      let next : ℕ = column + cells_of c column tabstop in
      ap₂ (λ f r. shown_in f (char_drawn signs view column (cells_of c column tabstop) c) ++ r) here
      (same-looks look other view (o + 1) next cs (λ i l. let n : o + 1 + i ≡ o + suc i = omega arith in
      ap (λ k. look k (get_or cs i 0)) n ∙ h (suc i) (omega (arith, l)) ∙ ap (λ k. other k (get_or cs i 0)) (sym n)))

  -- a line is drawn before a place over the first runs of its ground
  pub record IsPushed (g : Seen) (view : View) (line : List ℕ) (old new : List Atom) (k place column : ℕ) : Type 0 where
    pub so_far : IsDrawnTo tabstop signs (ground_face g) view 0 line old new (min (length line) place) column
    pub ahead : IsAhead g.runs g.rest k place

  pub ground-first : (g : Seen) (view : View) (line : List ℕ) (old : List Atom) → IsPushed g view line old old 0 0 0
  ground-first g view line old =
      let e : 0 ≡ min (length line) 0 = omega arith in
      record {
        so_far = subst (λ n. IsDrawnTo tabstop signs (ground_face g) view 0 line old old n 0) e (drawn-none (ground_face g) view 0 line old);
        ahead = λ n h. refl;
      }

  -- the places of one more run are drawn
  pub ground-run : (g : Seen) (view : View) (line chars : List ℕ) (old mid new : List Atom) (k place to stop column behind : ℕ) (r d : Run) → IsPushed g view line old mid k place column → place < length line
      → k < length g.runs → r ≡ get_or g.runs k d → to ≡ max r.end place → stop ≡ min to (length line) → chars ≡ slice_range line place stop
      → new ≡ with_all_shown mid (shown_in r.face (chars_drawn tabstop signs view column chars)) → min (right_of view) behind ≡ min (right_of view) (column_behind tabstop column chars)
      → IsPushed g view line old new (k + 1) to behind
  ground-run g view line chars old mid new k place to stop column behind r d p b h e t s m n f =
      let here : min (length line) place ≡ place = omega (arith, b) in
      let there : stop ≡ min (length line) to = omega (arith, s) in
      let end : r.end ≡ (get_or g.runs k d).end = ap (λ (x : Run). x.end) e in
      record {
        so_far = subst (λ n. IsDrawnTo tabstop signs (ground_face g) view 0 line old new n behind) there
            (drawn-more (ground_face g) view 0 line old mid new r.face chars place stop column behind (subst (λ n. IsDrawnTo tabstop signs (ground_face g) view 0 line old mid n column) here p.so_far)
            (omega (arith, s, t, b)) (omega (arith, s)) m n f faces);
        ahead = ahead-next g.runs g.rest k place to d h (omega (arith, t, end)) p.ahead;
      }
    where
      faces : (i : ℕ) → place ≤ i → i < stop → face_in g.runs g.rest (0 + i) ≡ r.face
      faces i x y =
          let z : 0 + i ≡ i = omega arith in
          let end : r.end ≡ (get_or g.runs k d).end = ap (λ (x : Run). x.end) e in
          ap (λ j. face_in g.runs g.rest j) z ∙ sym (p.ahead i x) ∙ runs.here g.runs g.rest k i d h (omega (arith, end, t, s, x, y)) ∙ ap (λ (x : Run). x.face) (sym e)

  -- what is left is drawn behind the last run
  pub ground-rest : (g : Seen) (view : View) (line chars : List ℕ) (old mid new : List Atom) (k place column behind : ℕ) → IsPushed g view line old mid k place column → place < length line
      → length g.runs ≤ k → chars ≡ drop place line → new ≡ with_all_shown mid (shown_in g.rest (chars_drawn tabstop signs view column chars))
      → min (right_of view) behind ≡ min (right_of view) (column_behind tabstop column chars)
      → new ≡ with_all_shown old (shown_from tabstop signs (ground_face g) view 0 0 line)
  ground-rest g view line chars old mid new k place column behind p b h m n f =
      let here : min (length line) place ≡ place = omega (arith, b) in
      drawn-all (ground_face g) view 0 line old new (length line) behind
      (drawn-more (ground_face g) view 0 line old mid new g.rest chars place (length line) column behind (subst (λ n. IsDrawnTo tabstop signs (ground_face g) view 0 line old mid n column) here p.so_far)
      (omega (arith, b)) (omega arith) (m ∙ sym (rest-is line place)) n f
      (λ i x y. let z : 0 + i ≡ i = omega arith in ap (λ j. face_in g.runs g.rest j) z ∙ sym (p.ahead i x) ∙ none-ahead g.runs g.rest k i h)) (omega arith)

  pub ground-all : (g : Seen) (view : View) (line : List ℕ) (old new : List Atom) (k place column : ℕ) → IsPushed g view line old new k place column → length line ≤ place
      → new ≡ with_all_shown old (shown_from tabstop signs (ground_face g) view 0 0 line)
  ground-all g view line old new k place column p h = drawn-all (ground_face g) view 0 line old new (min (length line) place) column p.so_far (omega (arith, h))

  pub ground-cut : (g : Seen) (view : View) (line : List ℕ) (old new : List Atom) (k place column : ℕ) → IsPushed g view line old new k place column → right_of view ≤ column
      → new ≡ with_all_shown old (shown_from tabstop signs (ground_face g) view 0 0 line)
  ground-cut g view line old new k place column p h = drawn-cut (ground_face g) view 0 line old new (min (length line) place) column p.so_far h

-- what is shown of a line whose ground has the faces that it is to have
pub text-drawn : (looks : Looks) (g : Seen) (o n : ℕ) (line cs : List ℕ) (old new : List Atom) → cs ≡ line
    → ((i : ℕ) → i < length line → ground_at g i ≡ face_on looks.palette looks.sels (looks.base n) o i (get_or line i 0))
    → new ≡ with_all_shown old (shown_from looks.tabstop looks.signs (ground_face g) looks.view 0 0 cs) → new ≡ with_all_shown old (text_shown looks o n line)
text-drawn looks g o n line cs old new e h p =
    p ∙ ap (λ t. with_all_shown old (shown_from looks.tabstop looks.signs (ground_face g) looks.view 0 0 t)) e
    ∙ ap (with_all_shown old) (same-looks looks.tabstop looks.signs (ground_face g) (face_on looks.palette looks.sels (looks.base n) o) looks.view 0 0 line faces)
  where
    faces : (i : ℕ) → i < length line → ground_at g (0 + i) ≡ face_on looks.palette looks.sels (looks.base n) o (0 + i) (get_or line i 0)
    faces i l = let z : 0 + i ≡ i = omega arith in ap (λ j. ground_at g j) z ∙ h i l ∙ ap (λ j. face_on looks.palette looks.sels (looks.base n) o j (get_or line i 0)) (sym z)

-- any run
abbrev pub zero_run : Run
zero_run = record { end = 0; face = default_face }

-- a run that was read in a slice
pub read-run : (slice list : List Run) (k : ℕ) → slice ≡ list → get_or slice k zero_run ≡ get_or list k zero_run
read-run slice list k s = ap (λ xs. get_or xs k zero_run) s

-- how many characters stand between two places
pub slice-length : (xs : List ℕ) (a b : ℕ) → length (slice_range xs a b) ≤ b - a
slice-length xs a b = omega (arith, length-take (b - a) (drop a xs))
