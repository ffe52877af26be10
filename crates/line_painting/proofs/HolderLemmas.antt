-- Each cell of a window shows the character of the line that holds it.
use Rattle.std.proofs.Common.{◌≡◌, ℕ, zero, suc, ◌+◌, ◌-◌, ◌<◌, ◌≤◌, ◌%◌, min, max, Bool, true, false, ◌==◌, ◌&&◌, ◌||◌, eqb, leb, ltb, List, [], ◌∷◌, ◌++◌, length, take, get_or, replicate, Some, None, refl, sym, ap, ap₂, subst, ◌∙◌, arith, inl, inr, ne_eqb, eq-eqb, add-one, lt-ltb, le-ltb, leb-true, eqb-true, ltb-true, ◌⊎◌}
use Rattle.std.specs.Prelude.{if◌then◌else◌, slice_get, unwrap_or}
use Rattle.std.specs.Char.{is_control}
use Rattle.std.proofs.lemmas.Bool.{cases_lt}
use Rattle.std.proofs.lemmas.List.{map-append}
use Rattle.text_model.proofs.CoordLemmas.{test_cases}
use Rattle.text_model.proofs.PlaceLemmas.{leb_true, leb_false}
use Rattle.unicode_width.specs.Width.{char_width, alone}
use Rattle.unicode_width.proofs.Computing.{unicode_width}
use Rattle.kak_text.specs.Cells.{cells_of, column_behind, display_column, width_of}
use Rattle.kak_text.proofs.CellLemmas.{printable-width, display_column-more}
use Rattle.window_view.specs.View.{View}
use Rattle.window_view.specs.Holding.{HoldsCell}
use Rattle.kak_faces.specs.declared.face.Face.{Face}
use Rattle.line_painting.specs.Atoms.{ShownChar, shown_in}
use Rattle.line_painting.specs.Cells.{right_of, is_inside, cells_inside, tab_drawn, newline_drawn, space_drawn, whole_drawn, char_drawn}
use Rattle.line_painting.specs.Lines.{shown_from}
use Rattle.line_painting.specs.Laws.{shown_chars, ShowsInCell, ShowsAtColumn, tab_look, look_of, seen_as, seen_of, itself_of, has_no_cells, is_mark_inside}
use Rattle.line_painting.proofs.StretchLemmas.{column_behind-append}

or_cases : (a b : Bool) → (a || b) ≡ true → (a ≡ true) ⊎ (b ≡ true)
or_cases true b h = inl refl
or_cases false b h = inr h

and_parts : (a b : Bool) → (a && b) ≡ true → (a ≡ true) × (b ≡ true)
and_parts true b h = (refl, h)
and_parts false b h = absurd (let f : false ≡ true → ⊥ = λ e. cc in f h)

-- a character below a printable one has one cell, and so has one between them and the letters of Latin-1
low-width : (c : ℕ) → c ≤ 0x1F → width_of c ≡ 1
unfolding char_width
low-width c h =
    ap (λ t. unwrap_or (if t then (if leb 0x20 c then Some 1 else None) else (if leb 0xA0 c then Some (alone false c).0 else None)) 1) (lt-ltb c 0x7F (omega (arith, h)))
    ∙ ap (λ t. unwrap_or (if t then Some 1 else None) 1) (leb_false 0x20 c (omega (arith, h)))

late-width : (c : ℕ) → 0x7F ≤ c → c ≤ 0x9F → width_of c ≡ 1
unfolding char_width
late-width c h k =
    ap (λ t. unwrap_or (if t then (if leb 0x20 c then Some 1 else None) else (if leb 0xA0 c then Some (alone false c).0 else None)) 1) (le-ltb c 0x7F h)
    ∙ ap (λ t. unwrap_or (if t then Some (alone false c).0 else None) 1) (leb_false 0xA0 c (omega (arith, k)))

-- a control character has one cell
control-width : (c : ℕ) → is_control c ≡ true → width_of c ≡ 1
control-width c h =
    elim (or_cases (leb 0 c && leb c 0x1F) (leb 0x7F c && leb c 0x9F) h) [
      | inl e ↦ low-width c (leb-true c 0x1F (and_parts (leb 0 c) (leb c 0x1F) e).1)
      | inr e ↦ let p = and_parts (leb 0x7F c) (leb c 0x9F) e in late-width c (leb-true 0x7F c p.0) (leb-true c 0x9F p.1)
    ]

-- how a character is drawn where it is seen whole
abbrev whole_by : Bool → ℕ → ℕ → Bool → List ℕ
whole_by signs c w t =
    if t then tab_drawn signs w
    else (if eqb c 10 then newline_drawn signs ∷ [] else (if eqb c 32 then space_drawn signs ∷ [] else (if is_control c then 0xFFFD ∷ [] else c ∷ [])))

abbrev look_by : Bool → Bool → ℕ → Bool → ℕ
look_by signs first c t =
    if t then tab_look signs first else (if eqb c 10 then newline_drawn signs else (if eqb c 32 then space_drawn signs else (if is_control c then 0xFFFD else c)))

pub whole-tab : (signs : Bool) (c w : ℕ) → eqb c 9 ≡ true → whole_drawn signs c w ≡ tab_drawn signs w
whole-tab signs c w h = ap (whole_by signs c w) h

look-tab : (signs first : Bool) (c : ℕ) → eqb c 9 ≡ true → look_of signs first c ≡ tab_look signs first
look-tab signs first c h = ap (look_by signs first c) h

pub whole-other : (signs first : Bool) (c w : ℕ) → eqb c 9 ≡ false → whole_drawn signs c w ≡ look_of signs first c ∷ []
whole-other signs first c w h =
    ap (whole_by signs c w) h ∙ choose (eqb c 10) (eqb c 32) (is_control c) ∙ sym (ap (λ t. look_by signs first c t ∷ []) h)
  where
    choose : (n s k : Bool) → (if n then newline_drawn signs ∷ [] else (if s then space_drawn signs ∷ [] else (if k then 0xFFFD ∷ [] else c ∷ [])))
        ≡ (if n then newline_drawn signs else (if s then space_drawn signs else (if k then 0xFFFD else c))) ∷ []
    choose true s k = refl
    choose false true k = refl
    choose false false true = refl
    choose false false false = refl

-- what is drawn of a character with cells, by how many of them are inside
pub drawn-some : (signs : Bool) (view : View) (column w c : ℕ) → 0 < w → char_drawn signs view column w c ≡ (if cells_inside view column w == w then whole_drawn signs c w else replicate (cells_inside view column w) 32)
drawn-some signs view column w c h =
    ap (λ t. if t then (if is_inside view column then c ∷ [] else []) else (if cells_inside view column w == w then whole_drawn signs c w else replicate (cells_inside view column w) 32)) (ne_eqb w 0 (λ e. omega (arith, e, h)))

drawn-whole : (signs : Bool) (view : View) (column w c : ℕ) → 0 < w → cells_inside view column w ≡ w → char_drawn signs view column w c ≡ whole_drawn signs c w
drawn-whole signs view column w c h e =
    drawn-some signs view column w c h ∙ ap (λ t. if t then whole_drawn signs c w else replicate (cells_inside view column w) 32) (eq-eqb (cells_inside view column w) w e)

drawn-cut : (signs : Bool) (view : View) (column w c : ℕ) → 0 < w → (cells_inside view column w ≡ w → ⊥) → char_drawn signs view column w c ≡ replicate (cells_inside view column w) 32
drawn-cut signs view column w c h e =
    drawn-some signs view column w c h ∙ ap (λ t. if t then whole_drawn signs c w else replicate (cells_inside view column w) 32) (ne_eqb (cells_inside view column w) w e)

-- a character without cells is drawn as itself where it begins inside
drawn-mark : (signs : Bool) (view : View) (column w c : ℕ) → w ≡ 0 → view.left ≤ column → column < right_of view → char_drawn signs view column w c ≡ c ∷ []
drawn-mark signs view column w c e h k =
    ap (λ t. if t then (if is_inside view column then c ∷ [] else []) else (if cells_inside view column w == w then whole_drawn signs c w else replicate (cells_inside view column w) 32)) (eq-eqb w 0 e)
    ∙ ap₂ (λ a b. if a && b then c ∷ [] else []) (leb_true view.left column h) (lt-ltb column (right_of view) k)

drawn-no_mark : (signs : Bool) (view : View) (column w c : ℕ) → w ≡ 0 → is_inside view column ≡ false → char_drawn signs view column w c ≡ []
drawn-no_mark signs view column w c e h =
    ap (λ t. if t then (if is_inside view column then c ∷ [] else []) else (if cells_inside view column w == w then whole_drawn signs c w else replicate (cells_inside view column w) 32)) (eq-eqb w 0 e)
    ∙ ap (λ a. if a then c ∷ [] else []) h

chars-shown_in : (face : Face) (cs : List ℕ) → shown_chars (shown_in face cs) ≡ cs
chars-shown_in face [] = refl
chars-shown_in face (c ∷ cs) = ap (λ r. c ∷ r) (chars-shown_in face cs)

chars-append : (a b : List ShownChar) → shown_chars (a ++ b) ≡ shown_chars a ++ shown_chars b
chars-append a b = map-append (λ (s : ShownChar). s.char) a b

none_inside : (right left column : ℕ) → min (column + 0) right - max column left ≡ 0
none_inside right left column = omega arith

-- a line has as many cells as of its own are inside
fits : (at column w right left behind : ℕ) → column + w ≤ behind → (at + (min (column + w) right - max column left)) + (min behind right - max (column + w) left) ≡ at + (min behind right - max column left)
fits at column w right left behind h = omega (arith, h)

-- where what is shown of the next character begins
next-at : (at column w right left : ℕ) → at ≡ max column left - left → column + w ≤ right → at + (min (column + w) right - max column left) ≡ max (column + w) left - left
next-at at column w right left e h = omega (arith, e, h)

-- each cell of a character shows what stands there
seen-whole : (signs : Bool) (view : View) (begin behind cell c : ℕ) → view.left ≤ begin → behind ≤ right_of view → seen_as signs view begin behind cell c ≡ look_of signs (eqb cell begin) c
seen-whole signs view begin behind cell c h k = ap₂ (λ a b. if a && b then look_of signs (eqb cell begin) c else 32) (leb_true view.left begin h) (leb_true behind (right_of view) k)

seen-cut_left : (signs : Bool) (view : View) (begin behind cell c : ℕ) → begin < view.left → seen_as signs view begin behind cell c ≡ 32
seen-cut_left signs view begin behind cell c h = ap (λ a. if a && leb behind (right_of view) then look_of signs (eqb cell begin) c else 32) (leb_false view.left begin h)

and_false : (a b : Bool) → b ≡ false → (a && b) ≡ false
and_false true b e = e
and_false false b e = refl

seen-cut_right : (signs : Bool) (view : View) (begin behind cell c : ℕ) → right_of view < behind → seen_as signs view begin behind cell c ≡ 32
seen-cut_right signs view begin behind cell c h =
    ap (λ a. if a then look_of signs (eqb cell begin) c else 32) (and_false (leb view.left begin) (leb behind (right_of view)) (leb_false behind (right_of view) h))

-- the n-th of some characters, the first of which begins at a column, where it has no cells
abbrev mark_from : (ℕ → ℕ → Face) → ℕ → List ℕ → ℕ → ShownChar
mark_from look o cs n = record { char = get_or cs n 0; face = look (o + n) (get_or cs n 0) }

-- where the line begins
start : (left : ℕ) → 0 ≡ max 0 left - left
start left = omega arith

module _ (tabstop : ℕ) (signs : Bool) (some : 0 < tabstop) where
  -- which character holds a cell, where the first one begins at a display column
  record HoldsFrom (start : ℕ) (cs : List ℕ) (n cell : ℕ) : Type 0 where
    inside : n < length cs
    begins : column_behind tabstop start (take n cs) ≤ cell
    ends : cell < column_behind tabstop start (take (suc n) cs)

  record InCellFrom (start : ℕ) (shown : List ShownChar) (cell : ℕ) (s : ShownChar) : Type 0 where
    place : ℕ
    holds : HoldsFrom start (shown_chars shown) place cell
    is : slice_get shown place ≡ Some s

  record AtColumnFrom (start : ℕ) (shown : List ShownChar) (column : ℕ) (s : ShownChar) : Type 0 where
    place : ℕ
    begins : column_behind tabstop start (take place (shown_chars shown)) ≡ column
    is : slice_get shown place ≡ Some s

  holds-down : (start c : ℕ) (cs : List ℕ) (n cell : ℕ) → HoldsFrom start (c ∷ cs) (suc n) cell → HoldsFrom (start + cells_of c start tabstop) cs n cell
  holds-down start c cs n cell h = record { inside = omega (arith, h.inside); begins = h.begins; ends = h.ends }

  holds-up : (start c : ℕ) (cs : List ℕ) (n cell : ℕ) → HoldsFrom (start + cells_of c start tabstop) cs n cell → HoldsFrom start (c ∷ cs) (suc n) cell
  holds-up start c cs n cell h = record { inside = omega (arith, h.inside); begins = h.begins; ends = h.ends }

  -- what one more character before leaves
  in_cell-up : (start : ℕ) (x : ShownChar) (shown : List ShownChar) (cell : ℕ) (s : ShownChar) → InCellFrom (start + cells_of x.char start tabstop) shown cell s → InCellFrom start (x ∷ shown) cell s
  in_cell-up start x shown cell s f = record { place = suc f.place; holds = holds-up start x.char (shown_chars shown) f.place cell f.holds; is = f.is }

  at_column-up : (start : ℕ) (x : ShownChar) (shown : List ShownChar) (column : ℕ) (s : ShownChar) → AtColumnFrom (start + cells_of x.char start tabstop) shown column s → AtColumnFrom start (x ∷ shown) column s
  at_column-up start x shown column s f = record { place = suc f.place; begins = f.begins; is = f.is }

  in_cell-behind : (start : ℕ) (a b : List ShownChar) (cell : ℕ) (s : ShownChar) → InCellFrom (column_behind tabstop start (shown_chars a)) b cell s → InCellFrom start (a ++ b) cell s
  in_cell-behind start [] b cell s f = f
  in_cell-behind start (x ∷ a) b cell s f = in_cell-up start x (a ++ b) cell s (in_cell-behind (start + cells_of x.char start tabstop) a b cell s f)

  at_column-behind : (start : ℕ) (a b : List ShownChar) (column : ℕ) (s : ShownChar) → AtColumnFrom (column_behind tabstop start (shown_chars a)) b column s → AtColumnFrom start (a ++ b) column s
  at_column-behind start [] b column s f = f
  at_column-behind start (x ∷ a) b column s f = at_column-up start x (a ++ b) column s (at_column-behind (start + cells_of x.char start tabstop) a b column s f)

  -- the first character holds its cells
  first-holds : (start w : ℕ) (x : ShownChar) (shown : List ShownChar) (cell : ℕ) → cells_of x.char start tabstop ≡ w → start ≤ cell → cell < start + w → InCellFrom start (x ∷ shown) cell x
  first-holds start w x shown cell e h k = record { place = 0; holds = record { inside = omega arith; begins = h; ends = omega (arith, e, k) }; is = refl }

  -- a space has one cell
  pub space_cells : (column : ℕ) → cells_of 32 column tabstop ≡ 1
  space_cells column = printable-width 32 (omega arith) (omega arith)

  -- and so many spaces hold as many
  spaces-hold : (start n : ℕ) (face : Face) (shown : List ShownChar) (cell : ℕ) → start ≤ cell → cell < start + n → InCellFrom start (shown_in face (replicate n 32) ++ shown) cell (record { char = 32; face = face })
  spaces-hold start zero face shown cell h k = absurd (omega arith)
  spaces-hold start (suc n) face shown cell h k =
      let x : ShownChar = record { char = 32; face = face } in
      let rest : List ShownChar = shown_in face (replicate n 32) ++ shown in
      elim (cases_lt cell (start + 1)) [
        | inl lt ↦ first-holds start 1 x rest cell (space_cells start) h lt
        | inr ge ↦ in_cell-up start x rest cell x
            (let P : ℕ → Type 0 = λ w. InCellFrom (start + w) rest cell x in subst P (sym (space_cells start)) (spaces-hold (start + 1) n face shown cell ge (omega arith)))
      ]

  spaces-width : (start n : ℕ) → column_behind tabstop start (replicate n 32) ≡ start + n
  spaces-width start zero = omega arith
  spaces-width start (suc n) =
      let e : start + 1 + n ≡ start + suc n = omega arith in
      ap (λ w. column_behind tabstop (start + w) (replicate n 32)) (space_cells start) ∙ spaces-width (start + 1) n ∙ e

  -- the cells of a character that is no tab don't depend on where it begins
  pub cells-other : (c column : ℕ) → eqb c 9 ≡ false → cells_of c column tabstop ≡ width_of c
  cells-other c column h = ap (λ t. if t then tabstop - column % tabstop else width_of c) h

  -- a tab has some
  pub cells-tab : (c column : ℕ) → eqb c 9 ≡ true → 0 < cells_of c column tabstop
  cells-tab c column h =
      let e : cells_of c column tabstop ≡ tabstop - column % tabstop = ap (λ t. if t then tabstop - column % tabstop else width_of c) h in
      omega (arith, e)

  replacement_cells : (column : ℕ) → cells_of 0xFFFD column tabstop ≡ 1
  unfolding unicode_width
  replacement_cells column = refl

  -- each sign has one cell
  pub arrow_cells : (column : ℕ) → cells_of 0x2192 column tabstop ≡ 1
  unfolding unicode_width
  arrow_cells column = refl

  newline_cells : (t : Bool) (column : ℕ) → cells_of (newline_drawn t) column tabstop ≡ 1
  unfolding unicode_width
  newline_cells true column = refl
  newline_cells false column = refl

  dot_cells : (column : ℕ) → cells_of 0xB7 column tabstop ≡ 1
  unfolding unicode_width
  dot_cells column = refl

  pub sign_cells : (t : Bool) (column : ℕ) → cells_of (space_drawn t) column tabstop ≡ 1
  sign_cells true column = dot_cells column
  sign_cells false column = space_cells column

  -- and so have a newline and a space
  newline-one : (c column w : ℕ) → eqb c 10 ≡ true → cells_of c column tabstop ≡ w → w ≡ 1
  newline-one c column w h e = sym e ∙ ap (λ n. cells_of n column tabstop) (eqb-true c 10 h) ∙ newline_cells false column

  space-one : (c column w : ℕ) → eqb c 32 ≡ true → cells_of c column tabstop ≡ w → w ≡ 1
  space-one c column w h e = sym e ∙ ap (λ n. cells_of n column tabstop) (eqb-true c 32 h) ∙ space_cells column

  -- what stands for a character that is no tab has as many cells as the character
  pub look-cells : (first : Bool) (c column at w : ℕ) → eqb c 9 ≡ false → cells_of c column tabstop ≡ w → cells_of (look_of signs first c) at tabstop ≡ w
  look-cells first c column at w h e =
      let same : cells_of c at tabstop ≡ w = cells-other c at h ∙ sym (cells-other c column h) ∙ e in
      ap (λ t. cells_of (look_by signs first c t) at tabstop) h
      ∙ elim (test_cases (eqb c 10)) [
        | inl n ↦ ap (λ t. cells_of (if t then newline_drawn signs else (if eqb c 32 then space_drawn signs else (if is_control c then 0xFFFD else c))) at tabstop) n
            ∙ newline_cells signs at ∙ sym (newline-one c column w n e)
        | inr n ↦ ap (λ t. cells_of (if t then newline_drawn signs else (if eqb c 32 then space_drawn signs else (if is_control c then 0xFFFD else c))) at tabstop) n
            ∙ elim (test_cases (eqb c 32)) [
              | inl b ↦ ap (λ t. cells_of (if t then space_drawn signs else (if is_control c then 0xFFFD else c)) at tabstop) b ∙ sign_cells signs at ∙ sym (space-one c column w b e)
              | inr b ↦ ap (λ t. cells_of (if t then space_drawn signs else (if is_control c then 0xFFFD else c)) at tabstop) b
                  ∙ elim (test_cases (is_control c)) [
                    | inl k ↦ ap (λ t. cells_of (if t then 0xFFFD else c) at tabstop) k ∙ replacement_cells at ∙ sym (control-width c k) ∙ sym (cells-other c column h) ∙ e
                    | inr k ↦ ap (λ t. cells_of (if t then 0xFFFD else c) at tabstop) k ∙ same
                  ]
            ]
      ]

  -- what is drawn of a whole tab
  tab-width : (t : Bool) (at w : ℕ) → 0 < w → column_behind tabstop at (tab_drawn t w) ≡ at + w
  tab-width false at w h = spaces-width at w
  tab-width true at w h =
      let e : at + 1 + (w - 1) ≡ at + w = omega (arith, h) in
      ap (λ n. column_behind tabstop (at + n) (replicate (w - 1) 32)) (arrow_cells at) ∙ spaces-width (at + 1) (w - 1) ∙ e

  -- each cell of it shows what stands there: in that which is so far behind the first, the first one or another
  tab-holds : (t : Bool) (at w : ℕ) (face : Face) (shown : List ShownChar) (cell column from : ℕ) → at ≤ cell → cell < at + w → at + column ≡ cell + from
      → InCellFrom at (shown_in face (tab_drawn t w) ++ shown) cell (record { char = tab_look t (eqb column from); face = face })
  tab-holds false at w face shown cell column from h k e = spaces-hold at w face shown cell h k
  tab-holds true at w face shown cell column from h k e =
      let x : ShownChar = record { char = 0x2192; face = face } in
      let rest : List ShownChar = shown_in face (replicate (w - 1) 32) ++ shown in
      let Q : Bool → Type 0 = λ b. InCellFrom at (x ∷ rest) cell (record { char = tab_look true b; face = face }) in
      elim (cases_lt cell (at + 1)) [
        | inl lt ↦ subst Q (sym (eq-eqb column from (omega (arith, e, h, lt)))) (first-holds at 1 x rest cell (arrow_cells at) h lt)
        | inr ge ↦
            let s : ShownChar = record { char = 32; face = face } in
            let P : ℕ → Type 0 = λ n. InCellFrom (at + n) rest cell s in
            subst Q (sym (ne_eqb column from (λ q. omega (arith, e, ge, q))))
            (in_cell-up at x rest cell s (subst P (sym (arrow_cells at)) (spaces-hold (at + 1) (w - 1) face shown cell ge (omega (arith, k, ge)))))
      ]

  -- what is drawn of a character has as many cells as of its own are inside
  one-width : (start w x : ℕ) → cells_of x start tabstop ≡ w → column_behind tabstop start (x ∷ []) ≡ start + w
  one-width start w x e = ap (λ n. start + n) e

  whole-width : (c column at w : ℕ) → 0 < w → cells_of c column tabstop ≡ w → column_behind tabstop at (whole_drawn signs c w) ≡ at + w
  whole-width c column at w h e =
      elim (test_cases (eqb c 9)) [
        | inl t ↦ ap (column_behind tabstop at) (whole-tab signs c w t) ∙ tab-width signs at w h
        | inr t ↦ ap (column_behind tabstop at) (whole-other signs true c w t) ∙ one-width at w (look_of signs true c) (look-cells true c column at w t e)
      ]

  some-width : (view : View) (column at w c : ℕ) → 0 < w → cells_of c column tabstop ≡ w → column_behind tabstop at (char_drawn signs view column w c) ≡ at + cells_inside view column w
  some-width view column at w c h e =
      ap (column_behind tabstop at) (drawn-some signs view column w c h)
      ∙ elim (test_cases (eqb (cells_inside view column w) w)) [
        | inl y ↦
            ap (λ t. column_behind tabstop at (if t then whole_drawn signs c w else replicate (cells_inside view column w) 32)) y
            ∙ whole-width c column at w h e ∙ ap (λ n. at + n) (sym (eqb-true (cells_inside view column w) w y))
        | inr y ↦
            ap (λ t. column_behind tabstop at (if t then whole_drawn signs c w else replicate (cells_inside view column w) 32)) y
            ∙ spaces-width at (cells_inside view column w)
      ]

  pub mark-cells : (c column at : ℕ) → cells_of c column tabstop ≡ 0 → cells_of c at tabstop ≡ 0
  mark-cells c column at e =
      elim (test_cases (eqb c 9)) [
        | inl t ↦ absurd (omega (arith, cells-tab c column t, e))
        | inr t ↦ cells-other c at t ∙ sym (cells-other c column t) ∙ e
      ]

  no-width : (view : View) (column at c : ℕ) → cells_of c column tabstop ≡ 0 → column_behind tabstop at (char_drawn signs view column 0 c) ≡ at + cells_inside view column 0
  no-width view column at c e =
      let k : at ≡ at + cells_inside view column 0 = omega (arith, none_inside (right_of view) view.left column) in
      elim (test_cases (is_inside view column)) [
        | inl y ↦ ap (λ t. column_behind tabstop at (if t then c ∷ [] else [])) y ∙ one-width at 0 c (mark-cells c column at e) ∙ omega (arith, k)
        | inr y ↦ ap (λ t. column_behind tabstop at (if t then c ∷ [] else [])) y ∙ k
      ]

  drawn-width : (view : View) (column at w c : ℕ) → cells_of c column tabstop ≡ w → column_behind tabstop at (char_drawn signs view column w c) ≡ at + cells_inside view column w
  drawn-width view column at zero c e = no-width view column at c e
  drawn-width view column at (suc w) c e = some-width view column at (suc w) c (omega arith) e

  behind-le : (column : ℕ) (cs : List ℕ) → column ≤ column_behind tabstop column cs
  behind-le column [] = omega arith
  behind-le column (c ∷ cs) = further column (cells_of c column tabstop) _ (behind-le (column + cells_of c column tabstop) cs)
    where
      further : (a b c : ℕ) → a + b ≤ c → a ≤ c
      further a b c h = omega (arith, h)

  line-width : (look : ℕ → ℕ → Face) (view : View) (o column at : ℕ) (cs : List ℕ)
      → column_behind tabstop at (shown_chars (shown_from tabstop signs look view o column cs)) ≡ at + (min (column_behind tabstop column cs) (right_of view) - max column view.left)
  line-width look view o column at [] = nothing at column (right_of view) view.left
    where
      nothing : (at column right left : ℕ) → at ≡ at + (min column right - max column left)
      nothing at column right left = omega arith
  line-width look view o column at (c ∷ cs) =
      let w : ℕ = cells_of c column tabstop in
      let d : List ℕ = char_drawn signs view column w c in
      let rest : List ShownChar = shown_from tabstop signs look view (o + 1) (column + w) cs in
      let e : column_behind tabstop at d ≡ at + cells_inside view column w = drawn-width view column at w c refl in
      ap (column_behind tabstop at) (chars-append (shown_in (look o c) d) rest ∙ ap (λ x. x ++ shown_chars rest) (chars-shown_in (look o c) d))
      ∙ column_behind-append tabstop signs at d (shown_chars rest)
      ∙ ap (λ n. column_behind tabstop n (shown_chars rest)) e
      ∙ line-width look view (o + 1) (column + w) (at + cells_inside view column w) cs
      ∙ fits at column w (right_of view) view.left (column_behind tabstop (column + w) cs) (behind-le (column + w) cs)

  behind_first : (view : View) (column at w c : ℕ) (face : Face) → cells_of c column tabstop ≡ w → at ≡ max column view.left - view.left → column + w ≤ right_of view
      → column_behind tabstop at (shown_chars (shown_in face (char_drawn signs view column w c))) ≡ max (column + w) view.left - view.left
  behind_first view column at w c face k e h =
      ap (column_behind tabstop at) (chars-shown_in face (char_drawn signs view column w c))
      ∙ drawn-width view column at w c k ∙ next-at at column w (right_of view) view.left e h

  -- a character of which the first begins at a column, where it holds the cell
  record IsHeld (view : View) (column at w c cell : ℕ) : Type 0 where
    cells : cells_of c column tabstop ≡ w
    begins : at ≡ max column view.left - view.left
    from : column ≤ cell
    to : cell < column + w
    left : view.left ≤ cell
    right : cell < right_of view

  shows-whole : (view : View) (column at w c cell : ℕ) (face : Face) (rest : List ShownChar) → IsHeld view column at w c cell → view.left ≤ column → column + w ≤ right_of view
      → InCellFrom at (shown_in face (char_drawn signs view column w c) ++ rest) (cell - view.left) (record { char = look_of signs (eqb cell column) c; face = face })
  shows-whole view column at w c cell face rest h l r =
      let first : Bool = eqb cell column in
      let P : List ℕ → Type 0 = λ d. InCellFrom at (shown_in face d ++ rest) (cell - view.left) (record { char = look_of signs (eqb cell column) c; face = face }) in
      let some : 0 < w = omega (arith, h.from, h.to) in
      let low : at ≤ cell - view.left = omega (arith, h.begins, h.from, l) in
      let high : cell - view.left < at + w = omega (arith, h.begins, h.to, l, h.left) in
      let k : cells_inside view column w ≡ w = all_inside (right_of view) view.left column w l r in
      let apart : at + cell ≡ (cell - view.left) + column = omega (arith, h.begins, l, h.left) in
      subst P (sym (drawn-whole signs view column w c some k))
      (elim (test_cases (eqb c 9)) [
        | inl t ↦ subst P (sym (whole-tab signs c w t))
            (let Q : ℕ → Type 0 = λ x. InCellFrom at (shown_in face (tab_drawn signs w) ++ rest) (cell - view.left) (record { char = x; face = face }) in
            subst Q (sym (look-tab signs first c t)) (tab-holds signs at w face rest (cell - view.left) cell column low high apart))
        | inr t ↦ subst P (sym (whole-other signs first c w t))
            (first-holds at w (record { char = look_of signs first c; face = face }) rest (cell - view.left) (look-cells first c column at w t h.cells) low high)
      ])
    where
      all_inside : (right left column w : ℕ) → left ≤ column → column + w ≤ right → min (column + w) right - max column left ≡ w
      all_inside right left column w l r = omega (arith, l, r)

  shows-cut : (view : View) (column at w c cell : ℕ) (face : Face) (rest : List ShownChar) → IsHeld view column at w c cell → (cells_inside view column w ≡ w → ⊥)
      → InCellFrom at (shown_in face (char_drawn signs view column w c) ++ rest) (cell - view.left) (record { char = 32; face = face })
  shows-cut view column at w c cell face rest h cut =
      let P : List ℕ → Type 0 = λ d. InCellFrom at (shown_in face d ++ rest) (cell - view.left) (record { char = 32; face = face }) in
      let some : 0 < w = omega (arith, h.from, h.to) in
      subst P (sym (drawn-cut signs view column w c some cut))
      (spaces-hold at (cells_inside view column w) face rest (cell - view.left) (low at column view.left cell h.begins h.from h.left) (high at column view.left cell w (right_of view) h.begins h.to h.left h.right))
    where
      low : (at column left cell : ℕ) → at ≡ max column left - left → column ≤ cell → left ≤ cell → at ≤ cell - left
      low at column left cell e h k = omega (arith, e, h, k)

      high : (at column left cell w right : ℕ) → at ≡ max column left - left → cell < column + w → left ≤ cell → cell < right → cell - left < at + (min (column + w) right - max column left)
      high at column left cell w right e h k r = omega (arith, e, h, k, r)

  shows-first : (view : View) (column at w c cell : ℕ) (face : Face) (rest : List ShownChar) → IsHeld view column at w c cell
      → InCellFrom at (shown_in face (char_drawn signs view column w c) ++ rest) (cell - view.left) (record { char = seen_as signs view column (column + w) cell c; face = face })
  shows-first view column at w c cell face rest h =
      let P : ℕ → Type 0 = λ x. InCellFrom at (shown_in face (char_drawn signs view column w c) ++ rest) (cell - view.left) (record { char = x; face = face }) in
      elim (cases_lt column view.left) [
        | inl lt ↦ subst P (sym (seen-cut_left signs view column (column + w) cell c lt)) (shows-cut view column at w c cell face rest h (λ k. cut_left (right_of view) view.left column w lt (omega (arith, h.from, h.to)) k))
        | inr ge ↦ elim (cases_lt (right_of view) (column + w)) [
          | inl lt ↦ subst P (sym (seen-cut_right signs view column (column + w) cell c lt)) (shows-cut view column at w c cell face rest h (λ k. cut_right (right_of view) view.left column w ge lt (omega (arith, h.from, h.to)) k))
          | inr le ↦ subst P (sym (seen-whole signs view column (column + w) cell c ge le)) (shows-whole view column at w c cell face rest h ge le)
        ]
      ]
    where
      cut_left : (right left column w : ℕ) → column < left → 0 < w → min (column + w) right - max column left ≡ w → ⊥
      cut_left right left column w h s k = omega (arith, h, s, k)

      cut_right : (right left column w : ℕ) → left ≤ column → right < column + w → 0 < w → min (column + w) right - max column left ≡ w → ⊥
      cut_right right left column w l h s k = omega (arith, l, h, s, k)

  -- the n-th of some characters, the first of which begins at a column, as a window shows it
  abbrev seen_from : (ℕ → ℕ → Face) → View → ℕ → ℕ → List ℕ → ℕ → ℕ → ShownChar
  seen_from look view o column cs n cell = record {
    char = seen_as signs view (column_behind tabstop column (take n cs)) (column_behind tabstop column (take (suc n) cs)) cell (get_or cs n 0);
    face = look (o + n) (get_or cs n 0);
  }

  shown-in_cells : (look : ℕ → ℕ → Face) (view : View) (o column at : ℕ) (cs : List ℕ) (n cell : ℕ) → at ≡ max column view.left - view.left → HoldsFrom column cs n cell → view.left ≤ cell → cell < right_of view
      → InCellFrom at (shown_from tabstop signs look view o column cs) (cell - view.left) (seen_from look view o column cs n cell)
  shown-in_cells look view o column at [] n cell e h l r = absurd (omega (arith, h.inside))
  shown-in_cells look view o column at (c ∷ cs) zero cell e h l r =
      let w : ℕ = cells_of c column tabstop in
      let n : o + 0 ≡ o = omega arith in
      let P : ℕ → Type 0 = λ k. InCellFrom at (shown_from tabstop signs look view o column (c ∷ cs)) (cell - view.left) (record { char = seen_as signs view column (column + w) cell c; face = look k c }) in
      subst P (sym n)
      (shows-first view column at w c cell (look o c) (shown_from tabstop signs look view (o + 1) (column + w) cs) (record { cells = refl; begins = e; from = h.begins; to = h.ends; left = l; right = r }))
  shown-in_cells look view o column at (c ∷ cs) (suc m) cell e h l r =
      let w : ℕ = cells_of c column tabstop in
      let first : List ShownChar = shown_in (look o c) (char_drawn signs view column w c) in
      let rest : List ShownChar = shown_from tabstop signs look view (o + 1) (column + w) cs in
      let down : HoldsFrom (column + w) cs m cell = holds-down column c cs m cell h in
      let before : column + w ≤ right_of view = omega (arith, behind-le (column + w) (take m cs), down.begins, r) in
      let f : (o + 1) + m ≡ o + suc m = omega arith in
      let P : ℕ → Type 0 = λ k. InCellFrom at (first ++ rest) (cell - view.left)
      (record { char = seen_as signs view (column_behind tabstop (column + w) (take m cs)) (column_behind tabstop (column + w) (take (suc m) cs)) cell (get_or cs m 0); face = look k (get_or cs m 0) }) in
      subst P f
      (in_cell-behind at first rest (cell - view.left) (seen_from look view (o + 1) (column + w) cs m cell)
      (shown-in_cells look view (o + 1) (column + w) (column_behind tabstop at (shown_chars first)) cs m cell (behind_first view column at w c (look o c) refl e before) down l r))

  shown-marks : (look : ℕ → ℕ → Face) (view : View) (o column at : ℕ) (cs : List ℕ) (n begin : ℕ) → at ≡ max column view.left - view.left → n < length cs → begin ≡ column_behind tabstop column (take n cs)
      → column_behind tabstop column (take (suc n) cs) ≡ begin → view.left ≤ begin → begin < right_of view → AtColumnFrom at (shown_from tabstop signs look view o column cs) (begin - view.left) (mark_from look o cs n)
  shown-marks look view o column at [] n begin e h b z l r = absurd (omega (arith, h))
  shown-marks look view o column at (c ∷ cs) zero begin e h b z l r =
      let w : ℕ = cells_of c column tabstop in
      let none : w ≡ 0 = omega (arith, z, b) in
      let n : o + 0 ≡ o = omega arith in
      let rest : List ShownChar = shown_from tabstop signs look view (o + 1) (column + w) cs in
      let P : ℕ → Type 0 = λ k. AtColumnFrom at (shown_from tabstop signs look view o column (c ∷ cs)) (begin - view.left) (record { char = c; face = look k c }) in
      let Q : List ℕ → Type 0 = λ d. AtColumnFrom at (shown_in (look o c) d ++ rest) (begin - view.left) (record { char = c; face = look o c }) in
      subst P (sym n)
      (subst Q (sym (drawn-mark signs view column w c none (omega (arith, b, l)) (omega (arith, b, r))))
      (record { place = 0; begins = omega (arith, e, b, l); is = refl }))
  shown-marks look view o column at (c ∷ cs) (suc m) begin e h b z l r =
      let w : ℕ = cells_of c column tabstop in
      let first : List ShownChar = shown_in (look o c) (char_drawn signs view column w c) in
      let rest : List ShownChar = shown_from tabstop signs look view (o + 1) (column + w) cs in
      let before : column + w ≤ right_of view = omega (arith, behind-le (column + w) (take m cs), b, r) in
      let f : (o + 1) + m ≡ o + suc m = omega arith in
      let P : ℕ → Type 0 = λ k. AtColumnFrom at (first ++ rest) (begin - view.left) (record { char = get_or cs m 0; face = look k (get_or cs m 0) }) in
      subst P f
      (at_column-behind at first rest (begin - view.left) (mark_from look (o + 1) cs m)
      (shown-marks look view (o + 1) (column + w) (column_behind tabstop at (shown_chars first)) cs m begin (behind_first view column at w c (look o c) refl e before) (omega (arith, h)) b z l r))

  from_start : (shown : List ShownChar) (cell : ℕ) (s : ShownChar) → InCellFrom 0 shown cell s → ShowsInCell tabstop shown cell s
  from_start shown cell s f = record {
    place = f.place;
    holds = record {
      inside = f.holds.inside;
      begins = f.holds.begins;
      ends = subst (λ k. cell < column_behind tabstop 0 (take k (shown_chars shown))) (sym (add-one f.place)) f.holds.ends;
    };
    is = f.is;
  }

  to_start : (line : List ℕ) (n cell : ℕ) → HoldsCell line tabstop n cell → HoldsFrom 0 line n cell
  to_start line n cell h = record { inside = h.inside; begins = h.begins; ends = subst (λ k. cell < column_behind tabstop 0 (take k line)) (add-one n) h.ends }

  pub holder : (look : ℕ → ℕ → Face) (view : View) (o : ℕ) (line : List ℕ) (n cell : ℕ) → HoldsCell line tabstop n cell → view.left ≤ cell → cell < right_of view
      → ShowsInCell tabstop (shown_from tabstop signs look view o 0 line) (cell - view.left) (seen_of tabstop signs look view o line n cell)
  holder look view o line n cell h l r =
      let P : ℕ → Type 0 = λ k. ShowsInCell tabstop (shown_from tabstop signs look view o 0 line) (cell - view.left)
      (record { char = seen_as signs view (display_column line n tabstop) (display_column line k tabstop) cell (get_or line n 0); face = look (o + n) (get_or line n 0) }) in
      subst P (sym (add-one n))
      (from_start (shown_from tabstop signs look view o 0 line) (cell - view.left) (seen_from look view o 0 line n cell) (shown-in_cells look view o 0 0 line n cell (start view.left) (to_start line n cell h) l r))

  pub mark : (look : ℕ → ℕ → Face) (view : View) (o : ℕ) (line : List ℕ) (n : ℕ) → n < length line → is_mark_inside tabstop view line n ≡ true
      → ShowsAtColumn tabstop (shown_from tabstop signs look view o 0 line) (display_column line n tabstop - view.left) (itself_of look o line n)
  mark look view o line n h t =
      let p = and_parts (has_no_cells tabstop (get_or line n 0)) (is_inside view (display_column line n tabstop)) t in
      let q = and_parts (leb view.left (display_column line n tabstop)) (ltb (display_column line n tabstop) (right_of view)) p.1 in
      let l : view.left ≤ display_column line n tabstop = leb-true view.left (display_column line n tabstop) q.0 in
      let r : display_column line n tabstop < right_of view = ltb-true (display_column line n tabstop) (right_of view) q.1 in
      let w : cells_of (get_or line n 0) (display_column line n tabstop) tabstop ≡ 0 =
      mark-cells (get_or line n 0) 0 (display_column line n tabstop) (eqb-true (cells_of (get_or line n 0) 0 tabstop) 0 p.0) in
      let none : column_behind tabstop 0 (take (suc n) line) ≡ display_column line n tabstop =
      ap (λ k. display_column line k tabstop) (sym (add-one n)) ∙ display_column-more line n tabstop h ∙ omega (arith, w) in
      let f : AtColumnFrom 0 (shown_from tabstop signs look view o 0 line) (display_column line n tabstop - view.left) (mark_from look o line n) =
      shown-marks look view o 0 0 line n (display_column line n tabstop) (start view.left) h refl none l r in
      record { place = f.place; begins = f.begins; is = f.is }

  pub width : (look : ℕ → ℕ → Face) (view : View) (o : ℕ) (line : List ℕ) → column_behind tabstop 0 (shown_chars (shown_from tabstop signs look view o 0 line)) ≡ cells_inside view 0 (column_behind tabstop 0 line)
  width look view o line =
      let e : 0 + (min (column_behind tabstop 0 line) (right_of view) - max 0 view.left) ≡ cells_inside view 0 (column_behind tabstop 0 line) = same (column_behind tabstop 0 line) (right_of view) view.left in
      line-width look view o 0 0 line ∙ e
    where
      same : (behind right left : ℕ) → 0 + (min behind right - max 0 left) ≡ min (0 + behind) right - max 0 left
      same behind right left = omega arith
