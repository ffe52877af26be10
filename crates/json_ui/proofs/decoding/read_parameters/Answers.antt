use Rattle.std.proofs.Common.{length, sym, ap, ◌∙◌, arith}
use Rattle.std.specs.Prelude.{option_and_then}
use Rattle.serde_json.specs.Find.{as_array}
use Rattle.serde_json.specs.View.{items_view}
use Rattle.json_ui.proofs.ParameterLemmas.{length-items_view}
use Rattle.json_ui.proofs.decoding.read_parameters.Goals as goal

pub read_array-requires : goal.read_array-requires
read_array-requires c =
    let few = c.requires (items_view c.in-Some-as_array.items.now.items) (ap (option_and_then as_array) (sym c.in-Some.ensures) ∙ sym c.in-Some-as_array.ensures) in
    omega (arith, few, length-items_view c.in-Some-as_array.items.now.items, ap length c.deref.ensures.value)
