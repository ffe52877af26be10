-- What the bytes of a file are as a text, and the bytes that a text is saved as.
use Rattle.std.specs.Prelude.{◌≡◌, ℕ, ◌+◌, Bool, true, false, ◌==◌, ◌&&◌, nat_eq, nat_le, if◌then◌else◌, List, [], ◌∷◌, ◌++◌, length, drop, chars, encode_utf8_all, Result, Ok, Err, IsOk}
use Rattle.std.specs.Str.{is_utf8}
use Rattle.std.specs.Str.Lossy.{utf8_valid_len}
use Rattle.std.specs.List.{list_any, starts_with}
use Rattle.text_model.specs.declared.TheConstants.{MAX_CHARS}
use Rattle.text_model.specs.Changes.{ended}
use Rattle.text_coding.specs.declared.form.Eol.{Eol}
use Rattle.text_coding.specs.declared.form.Eol.TheVariants.{Lf, Crlf}
use Rattle.text_coding.specs.declared.form.Bom.{Bom}
use Rattle.text_coding.specs.declared.form.Bom.TheVariants.{No, Utf8}
use Rattle.text_coding.specs.declared.form.Loaded.{Loaded}
use Rattle.text_coding.specs.declared.form.DecodeError.{DecodeError}
use Rattle.text_coding.specs.declared.form.DecodeError.TheVariants.{NotUtf8, TextFull, NoMemory}

-- the three bytes of the mark of the byte order in UTF-8
abbrev pub utf8_mark : List ℕ
utf8_mark = 0xEF ∷ 0xBB ∷ 0xBF ∷ []

-- what stands before a text
abbrev pub mark_of : Bom → List ℕ
mark_of No = []
mark_of Utf8 = utf8_mark

-- whether bytes begin with the mark
abbrev pub bom_of : List ℕ → Bom
bom_of bytes = if starts_with nat_eq bytes utf8_mark then Utf8 else No

-- the bytes behind the mark
abbrev pub body : List ℕ → List ℕ
body bytes = drop (length (mark_of (bom_of bytes))) bytes

-- whether there is a newline (10)
abbrev pub has_newline : List ℕ → Bool
has_newline cs = list_any (λ c. c == 10) cs

-- whether a carriage return (13) stands before each newline; `before` stands before the first character
abbrev pub each_returned : ℕ → List ℕ → Bool
each_returned before [] = true
each_returned before (c ∷ cs) = (if c == 10 then before == 13 else true) && each_returned c cs

-- the form of the line ends: carriage returns belong to them where there are newlines, and each has one
abbrev pub eol_of : List ℕ → Eol
eol_of cs = if has_newline cs && each_returned 0 cs then Crlf else Lf

-- whether the first character is a newline
abbrev pub begins_newline : List ℕ → Bool
begins_newline [] = false
begins_newline (c ∷ cs) = c == 10

-- without the carriage returns that stand before newlines
abbrev pub without_returns : List ℕ → List ℕ
without_returns [] = []
without_returns (c ∷ cs) = if (c == 13) && begins_newline cs then without_returns cs else c ∷ without_returns cs

-- with a carriage return before each newline
abbrev pub with_returns : List ℕ → List ℕ
with_returns [] = []
with_returns (c ∷ cs) = if c == 10 then 13 ∷ 10 ∷ with_returns cs else c ∷ with_returns cs

-- the characters of a file as those of a text, and those of a text as they stand in a file
abbrev pub from_form : Eol → List ℕ → List ℕ
from_form Lf cs = cs
from_form Crlf cs = without_returns cs

abbrev pub to_form : Eol → List ℕ → List ℕ
to_form Lf cs = cs
to_form Crlf cs = with_returns cs

-- the text of a file's characters: a text without a last newline gets one
abbrev pub text_from : List ℕ → List ℕ
text_from cs = ended (from_form (eol_of cs) cs)

-- a text with its form, where it isn't too long
abbrev pub fitting : List ℕ → Eol → Bom → Result Loaded DecodeError
fitting text eol bom = if nat_le (length text) MAX_CHARS then Ok (record { text = text; eol = eol; bom = bom }) else Err TextFull

-- What bytes are loaded as. Where they aren't UTF-8 that is said first, with the place of the first byte, from the
-- first of all, that begins no character.
abbrev pub loaded : List ℕ → Result Loaded DecodeError
loaded bytes = if is_utf8 (body bytes)
    then fitting (text_from (chars (body bytes))) (eol_of (chars (body bytes))) (bom_of bytes)
    else Err (NotUtf8 (length (mark_of (bom_of bytes)) + utf8_valid_len (body bytes)))

-- an answer is what is meant, unless memory ran out for what would have been loaded
abbrev pub IsDecoded : Result Loaded DecodeError → Result Loaded DecodeError → Type 0
IsDecoded (Err NoMemory) meant = IsOk meant
IsDecoded answer meant = answer ≡ meant

-- the bytes that a text is saved as
abbrev pub saved : List ℕ → Eol → Bom → List ℕ
saved text eol bom = mark_of bom ++ encode_utf8_all (to_form eol text)
