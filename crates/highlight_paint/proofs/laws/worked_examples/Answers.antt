use Rattle.std.proofs.Common.{◌≡◌, [], ◌∷◌, ◌++◌, refl, ap, ◌∙◌, arith}
use Rattle.std.specs.Prelude.{decimal}
use Rattle.std.proofs.lemmas.Fmt.{decimal_digit, decimal_step}
use Rattle.unicode_width.proofs.Computing.{unicode_width}
use Rattle.face_texts.specs.Palettes.{palette_of}
use Rattle.highlight_paint.proofs.laws.worked_examples.Goals as goal

pub returns : goal.returns
unfolding palette_of unicode_width
returns c =
    let one : decimal 1 ≡ 49 ∷ [] = decimal_digit 1 (omega arith) in
    let ten : decimal 10 ≡ 49 ∷ 48 ∷ [] = decimal_step 10 (omega arith) (omega arith) ∙ ap (λ ds. ds ++ 48 ∷ []) one in
    record {
      fill = refl;
      a_line = refl;
      another_line = refl;
      no_line = refl;
      a_column = refl;
      before_it = refl;
      no_column = refl;
      whitespace = refl;
      numbers = refl;
      group = refl;
      order = refl;
      other_buffer = refl;
      other_client = refl;
      first_of_ten = rw (ten, one) refl;
      last_of_ten = rw (ten) refl;
      no_gutter = refl;
      gutter = rw (ten) refl;
      tab_behind = rw (ten) refl;
      merged_face = refl;
      bare = refl;
    }
