-- The names of hooks.
use Rattle.std.specs.Prelude.{ℕ, Bool, List, [], ◌∷◌, Option, find, codes}
use Rattle.std.specs.Str.{bytes_eq}
use Rattle.scope_tables.specs.declared.names.HookName.{HookName}
use Rattle.scope_tables.specs.declared.names.HookName.TheVariants.{NormalKey, InsertKey, InsertChar, ModeChange, BufCreate, BufOpenFile, BufClose, BufWritePre, BufWritePost, WinDisplay, GlobalSetOption, BufSetOption, WinSetOption, ClientCreate, ClientClose, RegisterModified}

-- a name as it is written
abbrev pub name_text : HookName → List ℕ
name_text NormalKey = codes "NormalKey"
name_text InsertKey = codes "InsertKey"
name_text InsertChar = codes "InsertChar"
name_text ModeChange = codes "ModeChange"
name_text BufCreate = codes "BufCreate"
name_text BufOpenFile = codes "BufOpenFile"
name_text BufClose = codes "BufClose"
name_text BufWritePre = codes "BufWritePre"
name_text BufWritePost = codes "BufWritePost"
name_text WinDisplay = codes "WinDisplay"
name_text GlobalSetOption = codes "GlobalSetOption"
name_text BufSetOption = codes "BufSetOption"
name_text WinSetOption = codes "WinSetOption"
name_text ClientCreate = codes "ClientCreate"
name_text ClientClose = codes "ClientClose"
name_text RegisterModified = codes "RegisterModified"

-- all names
abbrev pub hook_names : List HookName
hook_names =
    NormalKey ∷ InsertKey ∷ InsertChar ∷ ModeChange ∷ BufCreate ∷ BufOpenFile ∷ BufClose ∷ BufWritePre ∷ BufWritePost
    ∷ WinDisplay ∷ GlobalSetOption ∷ BufSetOption ∷ WinSetOption ∷ ClientCreate ∷ ClientClose ∷ RegisterModified ∷ []

-- the name that a word is, if it is one
abbrev pub hook_named : List ℕ → Option HookName
hook_named word = find (λ name. bytes_eq word (name_text name)) hook_names

-- whether two names are one
abbrev pub is_same_name : HookName → HookName → Bool
is_same_name a b = bytes_eq (name_text a) (name_text b)
