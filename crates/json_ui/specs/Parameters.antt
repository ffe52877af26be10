-- Parameters as they are read, for the clauses of the parts of the decoder.
use Rattle.std.specs.Prelude.{◌≡◌, ℕ, List, [], false, Result, Err, Some, is_ok, unwrap_or, option_and_then, codes, ◌≤◌, ◌^◌}
use Rattle.serde_json.specs.declared.value.Value.{Value}
use Rattle.serde_json.specs.View.{items_view}
use Rattle.key_names.specs.declared.key.Key as key
use Rattle.drawings.specs.declared.refusal.Refusal.TheVariants.{Parse, Key}
use Rattle.requests.specs.declared.request.LineError.{LineError}
use Rattle.requests.specs.declared.request.LineError.TheVariants.{Refused, NoMemory}
use Rattle.serde_json.specs.Data.{Data, Items}
use Rattle.serde_json.specs.Find.{get, as_array}
use Rattle.serde_json.specs.Events.{items_len}
use Rattle.json_ui.specs.Requests.{item_texts, request_in}

-- what an error says of the reading of the parameter of this number
abbrev pub IsParameterError : LineError → ℕ → Result (List key.Key) ℕ → Type 0
IsParameterError (Refused refusal) number reading = (refusal ≡ Key number) × (is_ok reading ≡ false)
IsParameterError NoMemory number reading = Unit {0}

-- the texts of values, none where one is no string
abbrev pub texts_seen : List Value → List (List ℕ)
texts_seen values = unwrap_or (item_texts (items_view values)) []

-- an array of parameters has so few items that their numbers fit
abbrev pub HasFewParameters : Data → Type 0
HasFewParameters value = (items : Items) → option_and_then as_array (get (codes "params") value) ≡ Some items → items_len items ≤ 2 ^ 32

-- what an error says of a line in which no value was read
abbrev pub IsJsonError : LineError → List ℕ → Type 0
IsJsonError (Refused refusal) line = (refusal ≡ Parse) × (request_in line ≡ Err Parse)
IsJsonError NoMemory line = Unit {0}
