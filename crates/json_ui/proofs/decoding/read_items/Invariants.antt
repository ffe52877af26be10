use Rattle.std.proofs.Common.{◌≡◌, drop}
use Rattle.json_ui.specs.Requests.{keys_of_texts}
use Rattle.json_ui.specs.Parameters.{texts_seen}
use Rattle.json_ui.proofs.ParameterLemmas.{keys_before}
use Rattle.json_ui.proofs.decoding.read_items.Given as goal

abbrev pub invariant-loop-k : goal.invariant-loop-k
invariant-loop-k l =
    keys_before l.keys.items (keys_of_texts l.k (drop l.k (texts_seen l.items))) ≡ keys_of_texts 0 (texts_seen l.items)
