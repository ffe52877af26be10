-- The characters without cells that a window shows of a line.
use Rattle.std.proofs.Common.{◌≡◌, ℕ, zero, suc, ◌+◌, ◌-◌, ◌<◌, ◌≤◌, Bool, true, false, ◌==◌, ◌&&◌, eqb, List, [], ◌∷◌, ◌++◌, length, map, take, get_or, replicate, refl, sym, ap, ap₂, ◌∙◌, arith, inl, inr, eq-eqb, ne_eqb, add-one, append-nil, length-take, take_all}
use Rattle.std.specs.Prelude.{if◌then◌else◌, filter}
use Rattle.std.specs.List.{range_with_len}
use Rattle.std.proofs.lemmas.List.{map-append, take_more}
use Rattle.std.proofs.lemmas.List.Elements.{filter-append}
use Rattle.text_model.proofs.CoordLemmas.{test_cases}
use Rattle.kak_text.specs.Cells.{cells_of, display_column}
use Rattle.window_view.specs.View.{View}
use Rattle.kak_faces.specs.declared.face.Face.{Face}
use Rattle.line_painting.specs.Atoms.{ShownChar, shown_in}
use Rattle.line_painting.specs.Cells.{is_inside, cells_inside, tab_drawn, whole_drawn, char_drawn}
use Rattle.line_painting.specs.Lines.{shown_from}
use Rattle.line_painting.specs.Laws.{look_of, itself_of, has_no_cells, is_mark_inside, WindowsShowCells}
use Rattle.line_painting.proofs.LineLemmas.{shown_from-append}
use Rattle.line_painting.proofs.HolderLemmas.{mark-cells, cells-tab, cells-other, look-cells, space_cells, arrow_cells, whole-tab, whole-other, drawn-some, holder, mark, width}

-- the marks of what is drawn of a character: itself, where it is one and begins inside
abbrev kept : Bool → Bool → ShownChar → List ShownChar
kept a b s = if a && b then s ∷ [] else []

-- numbers up to one more
range-more : (a n : ℕ) → range_with_len a (suc n) ≡ range_with_len a n ++ (a + n) ∷ []
range-more a zero = let e : a ≡ a + 0 = omega arith in ap (λ x. x ∷ []) e
range-more a (suc n) =
    let e : a + 1 + n ≡ a + suc n = omega arith in
    ap (λ r. a ∷ r) (range-more (a + 1) n ∙ ap (λ x. range_with_len (a + 1) n ++ x ∷ []) e)

module _ (tabstop : ℕ) (signs : Bool) (some : 0 < tabstop) where
  abbrev shows_mark : ShownChar → Bool
  shows_mark s = has_no_cells tabstop s.char

  -- a character with cells has some wherever it begins, and one without has none
  some_cells : (c column at : ℕ) → 0 < cells_of c column tabstop → 0 < cells_of c at tabstop
  some_cells c column at h =
      elim (test_cases (eqb c 9)) [
        | inl t ↦ cells-tab tabstop signs some c at t
        | inr t ↦ omega (arith, cells-other tabstop signs some c at t, cells-other tabstop signs some c column t, h)
      ]

  no_mark : (c column : ℕ) → 0 < cells_of c column tabstop → has_no_cells tabstop c ≡ false
  no_mark c column h = ne_eqb (cells_of c 0 tabstop) 0 (λ e. omega (arith, e, some_cells c column 0 h))

  a_mark : (c column : ℕ) → cells_of c column tabstop ≡ 0 → has_no_cells tabstop c ≡ true
  a_mark c column e = eq-eqb (cells_of c 0 tabstop) 0 (mark-cells tabstop signs some c column 0 e)

  -- what is drawn of a character with cells has no marks
  not_kept : (s : ShownChar) (rest : List ShownChar) → has_no_cells tabstop s.char ≡ false → filter shows_mark (s ∷ rest) ≡ filter shows_mark rest
  not_kept s rest e = ap (λ t. if t then s ∷ filter shows_mark rest else filter shows_mark rest) e

  spaces-unmarked : (face : Face) (n : ℕ) → filter shows_mark (shown_in face (replicate n 32)) ≡ []
  spaces-unmarked face zero = refl
  spaces-unmarked face (suc n) =
      let one : 0 < cells_of 32 0 tabstop = omega (arith, space_cells tabstop signs some 0) in
      not_kept (record { char = 32; face = face }) (shown_in face (replicate n 32)) (no_mark 32 0 one) ∙ spaces-unmarked face n

  arrow-unmarked : (t : Bool) (face : Face) (w : ℕ) → filter shows_mark (shown_in face (tab_drawn t w)) ≡ []
  arrow-unmarked false face w = spaces-unmarked face w
  arrow-unmarked true face w =
      let one : 0 < cells_of 0x2192 0 tabstop = omega (arith, arrow_cells tabstop signs some 0) in
      not_kept (record { char = 0x2192; face = face }) (shown_in face (replicate (w - 1) 32)) (no_mark 0x2192 0 one) ∙ spaces-unmarked face (w - 1)

  whole-unmarked : (face : Face) (c column w : ℕ) → cells_of c column tabstop ≡ w → 0 < w → filter shows_mark (shown_in face (whole_drawn signs c w)) ≡ []
  whole-unmarked face c column w e h =
      elim (test_cases (eqb c 9)) [
        | inl t ↦ ap (λ d. filter shows_mark (shown_in face d)) (whole-tab signs c w t) ∙ arrow-unmarked signs face w
        | inr t ↦
            let x : ℕ = look_of signs true c in
            let several : 0 < cells_of x 0 tabstop = omega (arith, look-cells tabstop signs some true c column 0 w t e, h) in
            ap (λ d. filter shows_mark (shown_in face d)) (whole-other signs true c w t) ∙ not_kept (record { char = x; face = face }) [] (no_mark x 0 several)
      ]

  drawn-unmarked : (face : Face) (view : View) (column w c : ℕ) → cells_of c column tabstop ≡ w → 0 < w → filter shows_mark (shown_in face (char_drawn signs view column w c)) ≡ []
  drawn-unmarked face view column w c e h =
      let k : ℕ = cells_inside view column w in
      ap (λ d. filter shows_mark (shown_in face d)) (drawn-some signs view column w c h)
      ∙ choose (k == w) (whole_drawn signs c w) (replicate k 32) (whole-unmarked face c column w e h) (spaces-unmarked face k)
    where
      choose : (t : Bool) (a b : List ℕ) → filter shows_mark (shown_in face a) ≡ [] → filter shows_mark (shown_in face b) ≡ [] → filter shows_mark (shown_in face (if t then a else b)) ≡ []
      choose true a b p q = p
      choose false a b p q = q

  drawn-marks : (face : Face) (view : View) (column w c : ℕ) → cells_of c column tabstop ≡ w
      → filter shows_mark (shown_in face (char_drawn signs view column w c)) ≡ kept (has_no_cells tabstop c) (is_inside view column) (record { char = c; face = face })
  drawn-marks face view column zero c e =
      let s : ShownChar = record { char = c; face = face } in
      inside (is_inside view column) ∙ ap (λ t. kept t (is_inside view column) s) (sym (a_mark c column e))
    where
      inside : (b : Bool) → filter shows_mark (shown_in face (if b then c ∷ [] else [])) ≡ kept true b (record { char = c; face = face })
      inside true = ap (λ t. if t then (let s : ShownChar = record { char = c; face = face } in s) ∷ [] else []) (a_mark c column e)
      inside false = refl
  drawn-marks face view column (suc w) c e =
      let s : ShownChar = record { char = c; face = face } in
      drawn-unmarked face view column (suc w) c e (omega arith)
      ∙ ap (λ t. kept t (is_inside view column) s) (sym (no_mark c column (omega (arith, e))))

  -- the marks that a window shows of the first characters of a line
  abbrev marks_to : (ℕ → ℕ → Face) → View → ℕ → List ℕ → ℕ → List ShownChar
  marks_to look view o line k = map (itself_of look o line) (filter (is_mark_inside tabstop view line) (range_with_len 0 k))

  one-more : (look : ℕ → ℕ → Face) (view : View) (o : ℕ) (line : List ℕ) (k : ℕ)
      → marks_to look view o line (suc k) ≡ marks_to look view o line k ++ kept (has_no_cells tabstop (get_or line k 0)) (is_inside view (display_column line k tabstop)) (itself_of look o line k)
  one-more look view o line k =
      let e : 0 + k ≡ k = omega arith in
      ap (λ r. map (itself_of look o line) (filter (is_mark_inside tabstop view line) r)) (range-more 0 k ∙ ap (λ x. range_with_len 0 k ++ x ∷ []) e)
      ∙ ap (map (itself_of look o line)) (filter-append (is_mark_inside tabstop view line) (range_with_len 0 k) (k ∷ []))
      ∙ map-append (itself_of look o line) (filter (is_mark_inside tabstop view line) (range_with_len 0 k)) (filter (is_mark_inside tabstop view line) (k ∷ []))
      ∙ ap (λ r. marks_to look view o line k ++ r) (choose (is_mark_inside tabstop view line k))
    where
      choose : (b : Bool) → map (itself_of look o line) (if b then k ∷ [] else []) ≡ (if b then itself_of look o line k ∷ [] else [])
      choose true = refl
      choose false = refl

  marks-to : (look : ℕ → ℕ → Face) (view : View) (o : ℕ) (line : List ℕ) (k : ℕ) → k ≤ length line → filter shows_mark (shown_from tabstop signs look view o 0 (take k line)) ≡ marks_to look view o line k
  marks-to look view o line zero h = refl
  marks-to look view o line (suc k) h =
      let c : ℕ = get_or line k 0 in
      let column : ℕ = display_column line k tabstop in
      let drawn : List ℕ = char_drawn signs view column (cells_of c column tabstop) c in
      let front : List ShownChar = shown_from tabstop signs look view o 0 (take k line) in
      let size : length (take k line) ≡ k = omega (arith, length-take k line, h) in
      ap (λ t. filter shows_mark (shown_from tabstop signs look view o 0 t)) (ap (λ j. take j line) (sym (add-one k)) ∙ take_more line k 0 (omega (arith, h)))
      ∙ ap (filter shows_mark) (shown_from-append tabstop signs look view o 0 (take k line) (c ∷ []))
      ∙ ap (λ n. filter shows_mark (front ++ (shown_in (look (o + n) c) drawn ++ []))) size
      ∙ ap (λ r. filter shows_mark (front ++ r)) (append-nil (shown_in (look (o + k) c) drawn))
      ∙ filter-append shows_mark front (shown_in (look (o + k) c) drawn)
      ∙ ap₂ (λ a b. a ++ b) (marks-to look view o line k (omega (arith, h))) (drawn-marks (look (o + k) c) view column (cells_of c column tabstop) c refl)
      ∙ sym (one-more look view o line k)

  marks : (look : ℕ → ℕ → Face) (view : View) (o : ℕ) (line : List ℕ)
      → filter shows_mark (shown_from tabstop signs look view o 0 line) ≡ map (itself_of look o line) (filter (is_mark_inside tabstop view line) (range_with_len 0 (length line)))
  marks look view o line =
      ap (λ t. filter shows_mark (shown_from tabstop signs look view o 0 t)) (sym (take_all (length line) line (omega arith)))
      ∙ marks-to look view o line (length line) (omega arith)

  pub windows_show_cells : WindowsShowCells tabstop signs
  windows_show_cells = record { holder = holder tabstop signs some; width = width tabstop signs some; marks = marks; mark = mark tabstop signs some }
