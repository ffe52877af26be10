use Rattle.std.proofs.Common.{arith}
use Rattle.std.specs.Prelude.{codes}
use Rattle.serde_json.specs.View.{view}
use Rattle.json_ui.proofs.Sizes.{items_len-read}
use Rattle.json_ui.proofs.decoding.decode_line.Goals as goal

pub read_value-requires : goal.read_value-requires
read_value-requires c = λ items found. omega (arith, items_len-read c.args.line.now (view c.in_ok-value.value) (codes "params") items c.in_ok-value.ensures.value.1 found)
