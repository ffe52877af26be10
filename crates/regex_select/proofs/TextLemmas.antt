-- The characters of selections as texts of bytes.
use Rattle.std.proofs.Common.{◌≡◌, ℕ, ◌+◌, ◌<◌, ◌≤◌, Bool, List, [], ◌∷◌, ◌++◌, length, get_or, map, encode_utf8_all, refl, sym, ap, ap₂, ◌∙◌}
use Rattle.std.proofs.lemmas.List.{drop_more, drop_all}
use Rattle.std.proofs.lemmas.Str.{encodes-IsAscii}
use Rattle.std.specs.Prelude.{not, if◌then◌else◌, IsAscii}
use Rattle.list_model.specs.Ranges.{Range}
use Rattle.selection_set.specs.declared.sel.Sel.{Sel}
use Rattle.selection_set.specs.Inside.{range_of}
use Rattle.selection_set.specs.Listing.{ranges_of}
use Rattle.regex_ports.specs.Matching.{is_found_in}
use Rattle.regex_select.specs.Rows.{selected_bytes, bytes_left, is_kept}

-- the next of the selections that are left, and that none is left
pub left-first : (text : List ℕ) (sels : List Sel) (n : ℕ) (d sel : Sel) → n < length sels → sel ≡ get_or sels n d → bytes_left text sels n ≡ selected_bytes text (range_of text sel) ∷ bytes_left text sels (n + 1)
left-first text sels n d sel h e =
    ap (λ ss. map (selected_bytes text) (ranges_of text ss)) (drop_more sels n d h) ∙ ap (λ (s : Sel). selected_bytes text (range_of text s) ∷ bytes_left text sels (n + 1)) (sym e)

pub left-none : (text : List ℕ) (sels : List Sel) (n : ℕ) → length sels ≤ n → bytes_left text sels n ≡ []
left-none text sels n h = ap (λ ss. map (selected_bytes text) (ranges_of text ss)) (drop_all n sels h)

-- which selections are kept, by whether their texts have a match
pub kept-flags : (matching : Bool) (source text : List ℕ) (rs : List Range) → map (λ found. if matching then found else not found) (map (is_found_in source) (map (selected_bytes text) rs)) ≡ map (is_kept matching source text) rs
kept-flags matching source text [] = refl
kept-flags matching source text (r ∷ rs) = ap₂ ◌∷◌ refl (kept-flags matching source text rs)

-- a text with what waited behind it is all that was gathered
pub waited-added : (old waiting lent new all : List ℕ) → new ≡ old ++ encode_utf8_all lent → lent ≡ waiting → IsAscii waiting → old ++ waiting ≡ all → new ≡ all
waited-added old waiting lent new all added same ascii both = added ∙ ap (λ t. old ++ t) (ap encode_utf8_all same ∙ encodes-IsAscii waiting ascii) ∙ both
