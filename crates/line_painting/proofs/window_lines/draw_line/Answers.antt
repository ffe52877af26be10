use Rattle.std.proofs.Common.{◌≡◌, ◌++◌, List, [], map, refl, ap, ◌∙◌}
use Rattle.std.specs.Prelude.{flat_map}
use Rattle.text_model.specs.Texts.{line_count}
use Rattle.highlight_paint.specs.Numbers.{numbering}
use Rattle.drawings.specs.declared.drawing.Atom.{Atom}
use Rattle.drawings.specs.declared.drawing.DrawnLine.{DrawnLine}
use Rattle.line_painting.specs.Atoms.{ShownChar, with_all_shown}
use Rattle.line_painting.specs.Lines.{number_cells}
use Rattle.line_painting.specs.Painting.{text_on, slice_index_seen}
use Rattle.line_painting.proofs.AtomLemmas.{two_steps}
use Rattle.line_painting.proofs.window_lines.draw_line.Goals as goal

pub returns : goal.returns
returns c =
    let numbers : List ShownChar = flat_map (number_cells c.args.scene.palette.now c.args.scene.cursor_line (line_count c.args.scene.lines.now) c.args.n) (map numbering c.args.scene.numbers.now) in
    let text : List ShownChar = text_on c.args.scene (slice_index_seen c.args.overlay.now.grounds.items c.args.k) c.args.n in
    let mid : c.push_numbers.new.atoms.atoms ≡ with_all_shown [] (flat_map (number_cells c.args.scene.palette.now c.args.scene.cursor_line (line_count c.args.scene.lines.now) c.args.n) (map numbering c.args.scene.numbers.now)) =
    c.in_ok-push_numbers.ensures
    ∙ ap (λ k. with_all_shown c.args.atoms.now.atoms (flat_map (number_cells c.args.scene.palette.now c.args.scene.cursor_line k c.args.n) (map numbering c.args.scene.numbers.now))) c.line_count.ensures.value
    ∙ ap (λ t. with_all_shown t (flat_map (number_cells c.args.scene.palette.now c.args.scene.cursor_line (line_count c.args.scene.lines.now) c.args.n) (map numbering c.args.scene.numbers.now))) c.requires.none in
    record {
      drawn = ap (λ (a : List Atom). let l : DrawnLine = record { atoms = a } in l)
          (c.of_vec.ensures ∙ c.in_ok-take_atoms.ensures.taken
          ∙ two_steps [] c.push_numbers.new.atoms.atoms c.push_text.new.atoms.atoms numbers text (numbers ++ text) mid c.in_ok-push_text.ensures.drawn refl);
      left = c.in_ok-take_atoms.ensures.left;
      others = c.in_ok-push_text.ensures.others;
    }
