-- The status line and the mode line.
use Rattle.std.proofs.Common.{◌≡◌, ℕ, List, [], ◌∷◌, ◌++◌, drop, refl, sym, ap, ap₂, ◌∙◌, append_assoc}
use Rattle.kak_faces.specs.declared.face.Face.{Face}
use Rattle.face_texts.specs.declared.palette.Palette.{Palette}
use Rattle.drawings.specs.declared.drawing.Atom.{Atom}
use Rattle.line_painting.specs.Atoms.{ShownChar, shown_in, with_shown, with_all_shown, atoms_of}
use Rattle.std.specs.Str.{chars}
use Rattle.directions.specs.declared.direction.Direction.TheVariants.{Forward, Backward}
use Rattle.kak_world.specs.declared.purpose.Use.TheVariants as matches
use Rattle.kak_world.specs.declared.purpose.Purpose.{Purpose}
use Rattle.kak_world.specs.declared.purpose.Purpose.TheVariants.{Commands, Pattern}
use Rattle.draw_model.specs.Drawings.{under_cursor, prompt_name, prompt_shown}
use Rattle.line_painting.proofs.AtomLemmas.{two_steps, three_steps}

-- the names of prompts have characters of one byte
pub name-chars : (purpose : Purpose) → chars (prompt_name purpose) ≡ prompt_name purpose
unfolding chars
name-chars Commands = refl
name-chars (Pattern matches.Select) = refl
name-chars (Pattern matches.Split) = refl
name-chars (Pattern matches.Keep) = refl
name-chars (Pattern matches.Drop) = refl
name-chars (Pattern (matches.Search Forward)) = refl
name-chars (Pattern (matches.Search Backward)) = refl
name-chars (Pattern (matches.Reach Forward)) = refl
name-chars (Pattern (matches.Reach Backward)) = refl
name-chars (Pattern (matches.Step Forward further)) = refl
name-chars (Pattern (matches.Step Backward further)) = refl
name-chars (Pattern (matches.Add Forward further)) = refl
name-chars (Pattern (matches.Add Backward further)) = refl

-- a prompt's four parts
abbrev parts : Face → Face → Face → List ℕ → List ℕ → ℕ → List ℕ → List ShownChar
parts f g h begin before under rest = shown_in f begin ++ (shown_in g before ++ (shown_in h (under ∷ []) ++ shown_in g rest))

four_parts : (first second third fourth : List Atom) (f g h : Face) (begin before rest : List ℕ) (under : ℕ)
    → first ≡ with_all_shown [] (shown_in f begin) → second ≡ with_all_shown first (shown_in g before) → third ≡ with_shown second (record { char = under; face = h }) → fourth ≡ with_all_shown third (shown_in g rest)
    → fourth ≡ atoms_of (parts f g h begin before under rest)
four_parts first second third fourth f g h begin before rest under a b c d =
    let name = shown_in f begin in
    let front = shown_in g before in
    let cursor = shown_in h (under ∷ []) in
    let back = shown_in g rest in
    two_steps [] third fourth (name ++ (front ++ cursor)) back (parts f g h begin before under rest)
    (three_steps first second third name front cursor (name ++ (front ++ cursor)) a b c refl) d
    (sym (append_assoc name (front ++ cursor) back ∙ ap (λ t. name ++ t) (append_assoc front cursor back)))

-- so it is drawn
pub prompt-drawn : (palette : Palette) (purpose : Purpose) (none first second third fourth : List Atom) (begin before behind rest : List ℕ) (under : ℕ)
    → begin ≡ prompt_name purpose → under ≡ under_cursor behind → rest ≡ drop 1 behind → none ≡ [] → first ≡ with_all_shown none (shown_in palette.prompt begin) → second ≡ with_all_shown first (shown_in palette.status_line before)
    → third ≡ with_shown second (record { char = under; face = palette.status_cursor }) → fourth ≡ with_all_shown third (shown_in palette.status_line rest)
    → fourth ≡ atoms_of (prompt_shown palette purpose (record { before = before; behind = behind }))
prompt-drawn palette purpose none first second third fourth begin before behind rest under en eu er n a b c d =
    let f : Face = palette.prompt in
    let g : Face = palette.status_line in
    let h : Face = palette.status_cursor in
    four_parts first second third fourth f g h begin before rest under (a ∙ ap (λ r. with_all_shown r (shown_in f begin)) n) b c d
    ∙ ap₂ (λ u r. atoms_of (parts f g h begin before u r)) eu er
    ∙ ap (λ t. atoms_of (parts f g h t before (under_cursor behind) (drop 1 behind))) en
