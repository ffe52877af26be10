use Rattle.std.proofs.Common.{◌++◌}
use Rattle.json_writing.specs.JsonText.{all_escaped}
use Rattle.json_writing.proofs.Bytes.{grows_then, written_parts}
use Rattle.json_writing.proofs.text_bytes.push_characters.Goals as goal

pub loop-rest-preserved : goal.loop-rest-preserved
loop-rest-preserved c = record {
  whole = written_parts (c.args.out.now.items ++ all_escaped c.args.text.now) c.loop-rest.out.items c.push_piece.new.out.items c.loop-rest.rest.now c.split_at.result.0.now c.split_at.result.1.now 64
      c.split_at.ensures.front c.split_at.ensures.back c.loop-rest.invariant.whole c.in_ok-push_piece.ensures.ok;
  grown = grows_then _ _ _ c.loop-rest.invariant.grown c.in_ok-push_piece.ensures.grows;
}
