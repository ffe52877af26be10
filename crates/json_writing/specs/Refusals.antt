-- The line that answers a refused line.
use Rattle.std.specs.Prelude.{ℕ, List, [], ◌∷◌, ◌++◌, codes, decimal}
use Rattle.drawings.specs.declared.refusal.Refusal.{Refusal}
use Rattle.drawings.specs.declared.refusal.Refusal.TheVariants.{TooLong, Parse, Invalid, Method, Params, Key}
use Rattle.json_writing.specs.JsonText.{plain_string, member_text, object_text}

-- the code of a refusal
abbrev pub refusal_code : Refusal → List ℕ
refusal_code TooLong = codes "-32600"
refusal_code Parse = codes "-32700"
refusal_code Invalid = codes "-32600"
refusal_code Method = codes "-32601"
refusal_code Params = codes "-32602"
refusal_code (Key k) = codes "-32602"

-- its message
abbrev pub refusal_message : Refusal → List ℕ
refusal_message TooLong = codes "TooLong"
refusal_message Parse = codes "Parse"
refusal_message Invalid = codes "Invalid"
refusal_message Method = codes "Method"
refusal_message Params = codes "Params"
refusal_message (Key k) = codes "Key " ++ decimal k

-- the line of a refusal
abbrev pub refusal_bytes : Refusal → List ℕ
refusal_bytes refusal = object_text (
    member_text (codes "error") (object_text (
    member_text (codes "code") (refusal_code refusal)
    ∷ member_text (codes "message") (plain_string (refusal_message refusal))
    ∷ []))
    ∷ member_text (codes "id") (codes "null")
    ∷ member_text (codes "jsonrpc") (plain_string (codes "2.0"))
    ∷ [])
    ++ 10 ∷ []
