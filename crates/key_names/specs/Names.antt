-- What stands between the brackets of a key text, behind the modifiers: names and single characters.
use Rattle.std.specs.Prelude.{ℕ, ◌-◌, ◌==◌, ◌&&◌, ◌||◌, List, [], ◌∷◌, Bool, false, nat_le, if◌then◌else◌, Option, Some, None, option_map, find, codes}
use Rattle.std.specs.Char.{is_control}
use Rattle.std.specs.Str.{bytes_eq}
use Rattle.key_names.specs.declared.key.Base.{Base}
use Rattle.key_names.specs.declared.key.Base.TheVariants.{Char, Ret, Tab, Esc, Backspace, Del, Up, Down, Left, Right, Home, End, PageUp, PageDown, F}

-- the name of a character that isn't written as itself: space < > + - ; % ' "
abbrev pub character_name : ℕ → Option (List ℕ)
character_name c =
    if c == 32 then Some (codes "space") else (if c == 60 then Some (codes "lt") else (if c == 62 then Some (codes "gt") else
    (if c == 43 then Some (codes "plus") else (if c == 45 then Some (codes "minus") else (if c == 59 then Some (codes "semicolon") else
    (if c == 37 then Some (codes "percent") else (if c == 39 then Some (codes "quote") else (if c == 34 then Some (codes "dquote") else None))))))))

-- the name of a base, function keys aside
abbrev pub base_name : Base → Option (List ℕ)
base_name (Char c) = character_name c
base_name Ret = Some (codes "ret")
base_name Tab = Some (codes "tab")
base_name Esc = Some (codes "esc")
base_name Backspace = Some (codes "backspace")
base_name Del = Some (codes "del")
base_name Up = Some (codes "up")
base_name Down = Some (codes "down")
base_name Left = Some (codes "left")
base_name Right = Some (codes "right")
base_name Home = Some (codes "home")
base_name End = Some (codes "end")
base_name PageUp = Some (codes "pageup")
base_name PageDown = Some (codes "pagedown")
base_name (F n) = None

-- all bases that have one
abbrev pub named_bases : List Base
named_bases =
    Ret ∷ Tab ∷ Esc ∷ Backspace ∷ Del ∷ Up ∷ Down ∷ Left ∷ Right ∷ Home ∷ End ∷ PageUp ∷ PageDown
    ∷ Char 32 ∷ Char 60 ∷ Char 62 ∷ Char 43 ∷ Char 45 ∷ Char 59 ∷ Char 37 ∷ Char 39 ∷ Char 34 ∷ []

-- whether a text is the name, if there is one
abbrev pub is_name : List ℕ → Option (List ℕ) → Bool
is_name text None = false
is_name text (Some name) = bytes_eq name text

-- the base that has the text as its name
abbrev pub base_named : List ℕ → Option Base
base_named text = find (λ base. is_name text (base_name base)) named_bases

-- the number of a function key from its digits: 1 to 9, or 10 to 12
abbrev pub function_number : List ℕ → Option ℕ
function_number [] = None
function_number (d ∷ []) = if nat_le 49 d && nat_le d 57 then Some (d - 48) else None
function_number (t ∷ d ∷ []) = if t == 49 && nat_le 48 d && nat_le d 50 then Some (d - 38) else None
function_number (t ∷ d ∷ c ∷ cs) = None

-- the base that a text stands for: one character as itself, unless it is a bracket or a control
-- character; F or f and the number of a function key; or a name
abbrev pub base_of : List ℕ → Option Base
base_of [] = None
base_of (c ∷ []) = if c == 60 || c == 62 || is_control c then None else Some (Char c)
base_of (c ∷ d ∷ cs) =
    if c == 70 || c == 102 then option_map F (function_number (d ∷ cs)) else base_named (c ∷ d ∷ cs)
