use Rattle.std.proofs.Common.{◌+◌, ◌==◌, map, take}
use Rattle.json_writing.specs.JsonText.{separated, comma_unless}
use Rattle.json_writing.specs.Drawings.{line_text}
use Rattle.json_writing.proofs.Bytes.{grows_then, written_part, rows-more}
use Rattle.json_writing.proofs.line_bytes.push_line_row.Goals as goal

pub loop-i-preserved : goal.loop-i-preserved
loop-i-preserved c =
    let i = c.loop-i.i in
    let xs = c.args.lines.now in (
      written_part c.args.out.now.items c.loop-i.out.items c.push_comma.new.out.items c.push_line.new.out.items (separated (map line_text (take i xs))) (separated (map line_text (take (i + 1) xs))) (comma_unless (i == 0)) (line_text c.index-lines-i.result)
          c.loop-i.invariant.0 c.in_ok-push_comma.ensures.ok c.in_ok-push_line.ensures.ok (rows-more line_text xs i c.index-lines-i.result c.loop-i-test.true c.index-lines-i.is),
      grows_then _ _ _ c.loop-i.invariant.1 (grows_then _ _ _ c.in_ok-push_comma.ensures.grows c.in_ok-push_line.ensures.grows),
    )
