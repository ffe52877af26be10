-- Where the lines of all that was told are empty, nothing was told.
use Rattle.std.proofs.Common.{◌≡◌, ℕ, List, [], ◌∷◌, ◌++◌, refl}
use Rattle.std.specs.Prelude.{⊤}
use Rattle.drawings.specs.declared.drawing.Drawing.{Drawing}
use Rattle.json_writing.specs.Drawings.{options_lines, draw_lines, status_lines, cursor_lines, info_lines, refresh_lines, drawing_bytes}
use Rattle.json_writing.specs.Refusals.{refusal_bytes}
use Rattle.ui_board.specs.Told.{Told, Drawn, Refused, told_bytes, json_lines}

abbrev IsEmpty : List ℕ → Type 0
IsEmpty [] = ⊤
IsEmpty (b ∷ bytes) = ⊥

empty-is : (bytes : List ℕ) → bytes ≡ [] → IsEmpty bytes
empty-is [] e = tt
empty-is (b ∷ bytes) e = cc

front-none : (a b : List ℕ) → a ++ b ≡ [] → a ≡ []
front-none [] b e = refl
front-none (x ∷ a) b e = cc

rest-none : (a b : List ℕ) → a ++ b ≡ [] → b ≡ []
rest-none [] b e = e
rest-none (x ∷ a) b e = cc

-- the lines of a drawing behind those of the options
abbrev behind-options : Drawing → List ℕ
behind-options d =
    draw_lines d.lines d.default_face d.padding_face
    ++ (status_lines d.status d.mode_line d.status_face
    ++ (cursor_lines d.cursor
    ++ (info_lines d.info
    ++ refresh_lines)))

some-told : (what : Told) (more : List ℕ) → told_bytes what ++ more ≡ [] → ⊥
some-told (Drawn d) more e = empty-is (behind-options d) (rest-none (options_lines d.first) (behind-options d) (front-none (drawing_bytes d) more e))
some-told (Refused refusal) more e = empty-is (refusal_bytes refusal) (front-none (refusal_bytes refusal) more e)

pub none-told : (told : List Told) → json_lines told ≡ [] → told ≡ []
none-told [] e = refl
none-told (what ∷ more) e = absurd (some-told what (json_lines more) e)
