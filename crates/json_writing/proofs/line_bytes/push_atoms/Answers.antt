use Rattle.std.proofs.Common.{◌+◌, ◌==◌, map, take}
use Rattle.json_writing.specs.JsonText.{separated, comma_unless}
use Rattle.json_writing.specs.Drawings.{atom_text}
use Rattle.json_writing.proofs.Bytes.{grows_then, written_part, rows-more}
use Rattle.json_writing.proofs.line_bytes.push_atoms.Goals as goal

pub loop-i-preserved : goal.loop-i-preserved
loop-i-preserved c =
    let i = c.loop-i.i in
    let xs = c.args.atoms.now in (
      written_part c.args.out.now.items c.loop-i.out.items c.push_comma.new.out.items c.push_atom.new.out.items (separated (map atom_text (take i xs))) (separated (map atom_text (take (i + 1) xs))) (comma_unless (i == 0)) (atom_text c.index-atoms-i.result)
          c.loop-i.invariant.0 c.in_ok-push_comma.ensures.ok c.in_ok-push_atom.ensures.ok (rows-more atom_text xs i c.index-atoms-i.result c.loop-i-test.true c.index-atoms-i.is),
      grows_then _ _ _ c.loop-i.invariant.1 (grows_then _ _ _ c.in_ok-push_comma.ensures.grows c.in_ok-push_atom.ensures.grows),
    )
