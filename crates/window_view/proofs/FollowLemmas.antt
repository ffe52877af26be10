-- A window follows by the least amount.
use Rattle.std.proofs.Common.{◌≡◌, ℕ, ◌+◌, ◌-◌, ◌<◌, ◌≤◌, false, min, max, refl, subst, sym, ◌∙◌, arith, inl, inr}
use Rattle.std.specs.Prelude.{nat_le}
use Rattle.std.proofs.lemmas.Bool.{cases_lt, lt-ltb, le-ltb, le-leb}
use Rattle.std.proofs.lemmas.Bool.Decides.{leb_tells}
use Rattle.window_view.specs.View.{View, followed_top, followed_left, text_columns}
use Rattle.window_view.specs.Least.{IsLineIn, AreCellsIn, IsNearest, WindowsFollowLeast}

-- where the first line goes
top-above : (view : View) (line : ℕ) → line < view.top → followed_top view line ≡ line
top-above view line h = rw (lt-ltb line view.top h) refl

top-below : (view : View) (line : ℕ) → view.top ≤ line → view.top + view.rows ≤ line → followed_top view line ≡ line + 1 - view.rows
top-below view line h k = rw (le-ltb line view.top h, le-leb (view.top + view.rows) line k) refl

top-inside : (view : View) (line : ℕ) → view.top ≤ line → nat_le (view.top + view.rows) line ≡ false → followed_top view line ≡ view.top
top-inside view line h k = rw (le-ltb line view.top h, k) refl

top-nearest : (view : View) (line : ℕ) → 1 ≤ view.rows → IsNearest (λ top. IsLineIn top view.rows line) view.top (followed_top view line)
top-nearest view line some =
    elim (cases_lt line view.top) [
      | inl above ↦ subst Nearest (sym (top-above view line above)) (record { there = record { from_top = omega arith; to_bottom = omega (arith, some) }; least = λ n h. omega (arith, above, h.from_top) })
      | inr below ↦ elim (leb_tells (view.top + view.rows) line) [
        | inl far ↦ subst Nearest (sym (top-below view line below far.1)) (record { there = record { from_top = omega (arith, some, far.1); to_bottom = omega (arith, some, far.1) }; least = λ n h. omega (arith, some, far.1, h.to_bottom) })
        | inr near ↦ subst Nearest (sym (top-inside view line below near.0)) (record { there = record { from_top = below; to_bottom = near.1 }; least = λ n h. omega arith })
      ]
    ]
  where
    Nearest : ℕ → Type 0
    Nearest top = IsNearest (λ t. IsLineIn t view.rows line) view.top top

-- where the first column goes
left-before : (left part column cells : ℕ) → column < left → followed_left left part column cells ≡ column
left-before left part column cells h = rw (lt-ltb column left h) refl

left-behind : (left part column cells : ℕ) → left ≤ column → left + part < column + cells → followed_left left part column cells ≡ column + min cells part - part
left-behind left part column cells h k = rw (le-ltb column left h, lt-ltb (left + part) (column + cells) k) refl

left-inside : (left part column cells : ℕ) → left ≤ column → column + cells ≤ left + part → followed_left left part column cells ≡ left
left-inside left part column cells h k = rw (le-ltb column left h, le-ltb (left + part) (column + cells) k) refl

left-nearest : (left part column cells : ℕ) → cells ≤ part → IsNearest (λ n. AreCellsIn n part column cells) left (followed_left left part column cells)
left-nearest left part column cells fits =
    elim (cases_lt column left) [
      | inl before ↦ subst Nearest (sym (left-before left part column cells before)) (record { there = record { from_left = omega arith; to_right = omega (arith, fits) }; least = λ n h. omega (arith, before, h.from_left) })
      | inr behind ↦ elim (cases_lt (left + part) (column + cells)) [
        | inl far ↦ subst Nearest (sym (left-behind left part column cells behind far)) (record { there = record { from_left = omega (arith, fits, far); to_right = omega (arith, fits, far) }; least = λ n h. omega (arith, fits, far, h.to_right) })
        | inr near ↦ subst Nearest (sym (left-inside left part column cells behind near)) (record { there = record { from_left = behind; to_right = near }; least = λ n h. omega arith })
      ]
    ]
  where
    Nearest : ℕ → Type 0
    Nearest n = IsNearest (λ l. AreCellsIn l part column cells) left n

-- cells that are too many
left-first : (left part column cells : ℕ) → part < cells → followed_left left part column cells ≡ column
left-first left part column cells many =
    elim (cases_lt column left) [
      | inl before ↦ left-before left part column cells before
      | inr behind ↦ left-behind left part column cells behind (omega (arith, many, behind)) ∙ omega (arith, many)
    ]

pub windows_follow_least : WindowsFollowLeast
windows_follow_least view line column width gutter w = record {
  top = top-nearest view line w.some_rows;
  left = λ fits. left-nearest view.left (text_columns view gutter) column (max 1 width) fits;
  too_many = λ many. left-first view.left (text_columns view gutter) column (max 1 width) many;
  rows = refl;
  columns = refl;
}
