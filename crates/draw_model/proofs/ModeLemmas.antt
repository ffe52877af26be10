-- What the mode line says behind the buffer's name is ASCII.
use Rattle.std.proofs.Common.{◌≡◌, ℕ, ◌+◌, ◌<◌, ◌^◌, Bool, true, false, ◌&&◌, List, [], ◌∷◌, ◌++◌, length, refl, sym, ap, ap₂, subst, ◌∙◌, codes}
use Rattle.std.specs.Prelude.{decimal, nat_lt, chars}
use borrow.Author.Tests.{ltb-true}
use Rattle.std.specs.Str.{IsAscii}
use Rattle.std.proofs.lemmas.Str.{chars-IsAscii, IsAscii-append}
use Rattle.std.proofs.lemmas.Str.Ascii.{IsAscii-nil, IsAscii-cons}
use Rattle.std.proofs.lemmas.Fmt.{IsAscii-decimal}
use Rattle.text_model.specs.declared.coords.Coord.{Coord}
use Rattle.list_model.specs.Ranges.{Selected}
use Rattle.kak_world.specs.declared.own.Mode.{Mode}
use Rattle.kak_world.specs.declared.own.Mode.TheVariants.{Normal, Insert, Prompt}
use Rattle.draw_model.specs.Drawings.{mode_name, mode_line_text}

abbrev all_ascii : List ℕ → Bool
all_ascii [] = true
all_ascii (b ∷ bs) = nat_lt b 128 && all_ascii bs

and_left : (a b : Bool) → (a && b) ≡ true → a ≡ true
and_left true b h = refl
and_left false b h = h

and_right : (a b : Bool) → (a && b) ≡ true → b ≡ true
and_right true b h = h
and_right false b h = cc

tested : (bs : List ℕ) → all_ascii bs ≡ true → IsAscii bs
tested [] h = IsAscii-nil
tested (b ∷ bs) h = IsAscii-cons b bs (ltb-true b 128 (and_left (nat_lt b 128) (all_ascii bs) h)) (tested bs (and_right (nat_lt b 128) (all_ascii bs) h))

name_is_ascii : (mode : Mode) → IsAscii (mode_name mode)
name_is_ascii Normal = tested (codes "normal") refl
name_is_ascii Insert = tested (codes "insert") refl
name_is_ascii Prompt = tested (codes "prompt") refl

-- what the mode line says behind the name, as it is written
abbrev pub written : ℕ → ℕ → List ℕ → ℕ → ℕ → ℕ → List ℕ
written line column word nth count number =
    codes " " ++ (decimal (line + 1) ++ (codes ":" ++ (decimal (column + 1) ++ (codes " " ++ (word ++ (codes " "
    ++ (decimal (nth + 1) ++ (codes "/" ++ (decimal count ++ (codes " - client" ++ decimal number))))))))))

written_is_ascii : (line column nth count number : ℕ) (mode : Mode) → line + 1 < 2 ^ 64 → column + 1 < 2 ^ 64 → nth + 1 < 2 ^ 64 → count < 2 ^ 64 → number < 2 ^ 64
    → IsAscii (written line column (mode_name mode) nth count number)
written_is_ascii line column nth count number mode h k m n l =
    let last : List ℕ = codes " - client" ++ decimal number in
    let counted : List ℕ = codes "/" ++ (decimal count ++ last) in
    let nths : List ℕ = codes " " ++ (decimal (nth + 1) ++ counted) in
    let named : List ℕ = codes " " ++ (mode_name mode ++ nths) in
    let placed : List ℕ = codes ":" ++ (decimal (column + 1) ++ named) in
    IsAscii-append (codes " ") (decimal (line + 1) ++ placed) (tested (codes " ") refl)
    (IsAscii-append (decimal (line + 1)) placed (IsAscii-decimal (line + 1) h)
    (IsAscii-append (codes ":") (decimal (column + 1) ++ named) (tested (codes ":") refl)
    (IsAscii-append (decimal (column + 1)) named (IsAscii-decimal (column + 1) k)
    (IsAscii-append (codes " ") (mode_name mode ++ nths) (tested (codes " ") refl)
    (IsAscii-append (mode_name mode) nths (name_is_ascii mode)
    (IsAscii-append (codes " ") (decimal (nth + 1) ++ counted) (tested (codes " ") refl)
    (IsAscii-append (decimal (nth + 1)) counted (IsAscii-decimal (nth + 1) m)
    (IsAscii-append (codes "/") (decimal count ++ last) (tested (codes "/") refl)
    (IsAscii-append (decimal count) last (IsAscii-decimal count n)
    (IsAscii-append (codes " - client") (decimal number) (tested (codes " - client") refl) (IsAscii-decimal number l)))))))))))

-- it says of a list what is to be said
written-is : (at : Coord) (mode : Mode) (sels : Selected) (nth count number : ℕ) → sels.main ≡ nth → length sels.list ≡ count
    → written at.line at.column (mode_name mode) nth count number ≡ mode_line_text at mode sels number
written-is at mode sels nth count number m n = ap₂ (λ a b. written at.line at.column (mode_name mode) a b number) (sym m) (sym n)

-- the characters that are read from it
pub mode-chars : (at : Coord) (mode : Mode) (sels : Selected) (line column nth count number : ℕ) (word bytes text : List ℕ) → line ≡ at.line → column ≡ at.column → word ≡ mode_name mode
    → line + 1 < 2 ^ 64 → column + 1 < 2 ^ 64 → nth + 1 < 2 ^ 64 → count < 2 ^ 64 → number < 2 ^ 64 → bytes ≡ written line column word nth count number → text ≡ chars bytes
    → sels.main ≡ nth → length sels.list ≡ count → text ≡ mode_line_text at mode sels number
mode-chars at mode sels line column nth count number word bytes text el ek ew h k a c l b t m n =
    let same : bytes ≡ written line column (mode_name mode) nth count number = b ∙ ap (λ w. written line column w nth count number) ew in
    let P : List ℕ → Type 0 = λ s. IsAscii s in
    t ∙ chars-IsAscii bytes (subst P (sym same) (written_is_ascii line column nth count number mode h k a c l)) ∙ same
    ∙ ap₂ (λ x y. written x y (mode_name mode) nth count number) el ek ∙ written-is at mode sels nth count number m n
