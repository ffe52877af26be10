-- Which request a line is, or why it is refused.
use Rattle.std.specs.Prelude.{◌≡◌, ℕ, ◌+◌, ◌==◌, ◌||◌, List, [], ◌∷◌, ◌++◌, length, Bool, false, nat_lt, if◌then◌else◌, Option, Some, None, option_map, option_and_then, Result, Ok, Err, codes}
use Rattle.std.specs.List.{list_all}
use Rattle.std.specs.Str.{bytes_eq, chars, is_utf8}
use Rattle.serde_json.specs.Data.{Data, Items, no_items, item}
use Rattle.serde_json.specs.Find.{get, as_str, as_array}
use Rattle.serde_json.specs.Read.{read}
use Rattle.key_names.specs.declared.key.Key as key
use Rattle.key_names.specs.Reading.{read_text}
use Rattle.requests.specs.declared.request.Request.{Request}
use Rattle.requests.specs.declared.request.Request.TheVariants.{Nothing, Keys}
use Rattle.drawings.specs.declared.refusal.Refusal.{Refusal}
use Rattle.drawings.specs.declared.refusal.Refusal.TheVariants.{TooLong, Parse, Invalid, Method, Params, Key}
use Rattle.requests.specs.Reading.{Reads}
use Rattle.json_ui.specs.Methods.{fitting, resize_in, scroll_in, move_in, press_in, release_in, menu_select_in}

-- how many bytes a line may have
abbrev pub max_line : ℕ
max_line = 1048576

-- a space, a tab or a carriage return
abbrev pub is_blank : ℕ → Bool
is_blank byte = byte == 32 || byte == 9 || byte == 13

-- the text at a name of an object
abbrev pub text_at : List ℕ → Data → Option (List ℕ)
text_at name value = option_and_then as_str (get name value)

-- whether it is that text
abbrev pub is_text : List ℕ → Option (List ℕ) → Bool
is_text wanted None = false
is_text wanted (Some text) = bytes_eq text wanted

-- the texts of items that are all strings
abbrev pub item_texts : Items → Option (List (List ℕ))
item_texts no_items = Some []
item_texts (item value more) = option_and_then (λ text. option_map (λ texts. text ∷ texts) (item_texts more)) (as_str value)

-- the texts of parameters, where they are missing or an array of strings
abbrev pub texts_in : Option Data → Option (List (List ℕ))
texts_in None = Some []
texts_in (Some value) = option_and_then item_texts (as_array value)

-- the keys of a key text before those of others; without a reading its number is told
abbrev pub keys_then : Result (List key.Key) ℕ → ℕ → Result (List key.Key) ℕ → Result (List key.Key) ℕ
keys_then (Err at) k more = Err k
keys_then (Ok keys) k (Ok more) = Ok (keys ++ more)
keys_then (Ok keys) k (Err j) = Err j

-- the keys of key texts, numbered from k, or the number of the first that is none
abbrev pub keys_of_texts : ℕ → List (List ℕ) → Result (List key.Key) ℕ
keys_of_texts k [] = Ok []
keys_of_texts k (text ∷ texts) = keys_then (read_text (chars text)) k (keys_of_texts (k + 1) texts)

-- the request of keys
abbrev pub keys_request : Result (List key.Key) ℕ → Result Request Refusal
keys_request (Ok keys) = Ok (Keys keys)
keys_request (Err k) = Err (Key k)

-- the request of the texts that are the parameters, if they are texts
abbrev pub texts_request : Option (List (List ℕ)) → Result Request Refusal
texts_request None = Err Params
texts_request (Some texts) = keys_request (keys_of_texts 0 texts)

-- the request of `keys`: strings, each any number of keys; missing parameters are none
abbrev pub keys_in : Data → Result Request Refusal
keys_in request = texts_request (texts_in (get (codes "params") request))

-- the methods by their names, and what each makes of a request object
abbrev pub methods : Data → List (List ℕ × Result Request Refusal)
methods request =
    (codes "keys", keys_in request) ∷
    (codes "resize", fitting (resize_in request)) ∷
    (codes "scroll", fitting (scroll_in request)) ∷
    (codes "mouse_move", fitting (move_in request)) ∷
    (codes "mouse_press", fitting (press_in request)) ∷
    (codes "mouse_release", fitting (release_in request)) ∷
    (codes "menu_select", fitting (menu_select_in request)) ∷
    []

-- what the method of a name makes, if it is one of these
abbrev pub named_in : List (List ℕ × Result Request Refusal) → List ℕ → Result Request Refusal
named_in [] name = Err Method
named_in (method ∷ methods) name = if bytes_eq name method.0 then method.1 else named_in methods name

-- the request of a request object with a method, if that is told
abbrev pub method_request : Option (List ℕ) → Data → Result Request Refusal
method_request None request = Err Invalid
method_request (Some name) request = named_in (methods request) name

-- the request of a JSON value
abbrev pub value_request : Data → Result Request Refusal
value_request value =
    if is_text (codes "2.0") (text_at (codes "jsonrpc") value) then method_request (text_at (codes "method") value) value
    else Err Invalid

-- the request of a value, if one was read
abbrev pub request_of : Option Data → Result Request Refusal
request_of None = Err Parse
request_of (Some value) = value_request value

-- the request of a line's bytes as UTF-8
abbrev pub request_in : List ℕ → Result Request Refusal
request_in line = if is_utf8 line then request_of (read line) else Err Parse

-- the request of a line, or the first refusal that holds
abbrev pub read_request : Reads
read_request line =
    if nat_lt max_line (length line) then Err TooLong else (if list_all is_blank line then Ok Nothing else request_in line)
