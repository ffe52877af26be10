-- What a `%` begins: letters that name a kind, if any, a mark, a text, and what closes the mark.
use Rattle.std.specs.Prelude.{ℕ, suc, ◌==◌, ◌&&◌, ◌||◌, not, Bool, false, true, List, [], ◌∷◌, take, drop, if◌then◌else◌, Option, Some, None, Result, Ok, Err}
use Rattle.std.specs.Char.Unicode.Alphabetic.{is_alphabetic}
use Rattle.kak_words.specs.declared.placed.Placed.{Placed}
use Rattle.kak_words.specs.Characters.{is_mark}
use Rattle.kak_words.specs.Closing.{SplitAtMark, closed_by}

-- a form: the letters of its kind, its text and what stands behind it
pub record Form : Type 0 where
  pub kind : List Placed
  pub split : SplitAtMark

-- how many letters a text begins with
abbrev pub letter_count : List Placed → ℕ
letter_count [] = 0
letter_count (p ∷ ps) = if is_alphabetic p.c then suc (letter_count ps) else 0

-- whether there are no letters
abbrev pub is_nameless : List Placed → Bool
is_nameless [] = true
is_nameless (p ∷ ps) = false

-- whether a mark opens a form: in double quotes only behind a kind, and not a double quote (34)
abbrev pub opens : Bool → List Placed → ℕ → Bool
opens quoted kind c = is_mark c && not (quoted && (is_nameless kind || c == 34))

-- a form of a kind, if it is closed; else the place of its `%` is the error
abbrev pub closed_form : ℕ → List Placed → Option SplitAtMark → Result (Option Form) ℕ
closed_form at kind None = Err at
closed_form at kind (Some split) = Ok (Some (record { kind = kind; split = split }))

-- the form of a kind and of what stands behind it, if a mark stands there
abbrev pub form_of : Bool → ℕ → List Placed → List Placed → Result (Option Form) ℕ
form_of quoted at kind [] = Ok None
form_of quoted at kind (p ∷ ps) = if opens quoted kind p.c then closed_form at kind (closed_by p.c ps) else Ok None

-- the form that a `%` at a place begins, by what stands behind it; None where it stands for itself
abbrev pub form_at : Bool → ℕ → List Placed → Result (Option Form) ℕ
form_at quoted at ps = form_of quoted at (take (letter_count ps) ps) (drop (letter_count ps) ps)
