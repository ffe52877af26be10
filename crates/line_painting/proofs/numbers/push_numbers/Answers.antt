use Rattle.std.proofs.Common.{map, ap, ◌∙◌, arith, take_all}
use Rattle.std.specs.Prelude.{flat_map}
use Rattle.std.proofs.lemmas.List.{length-map}
use Rattle.line_painting.specs.Atoms.{with_all_shown}
use Rattle.line_painting.specs.Lines.{number_cells}
use Rattle.highlight_paint.specs.Numbers.{numbering}
use Rattle.line_painting.proofs.RunLemmas.{rows-more}
use Rattle.line_painting.proofs.numbers.push_numbers.Goals as goal

pub loop-k-preserved : goal.loop-k-preserved
loop-k-preserved c =
    rows-more c.args.scene.numbers.now c.loop-k.k _ (number_cells c.args.scene.palette.now c.args.scene.cursor_line c.args.lines c.args.n) c.args.atoms.now.atoms c.loop-k.atoms.atoms c.push_row.new.atoms.atoms
    c.loop-k-test.true c.loop-k.invariant c.in_ok-push_row.ensures

pub returns : goal.returns
returns c =
    c.loop-k.invariant
    ∙ ap (λ rows. with_all_shown c.args.atoms.now.atoms (flat_map (number_cells c.args.scene.palette.now c.args.scene.cursor_line c.args.lines c.args.n) rows))
    (take_all c.loop-k.k (map numbering c.args.scene.numbers.now) (omega (arith, c.loop-k-test.false, length-map c.args.scene.numbers.now numbering)))
