-- Selections that reach a text's last character.
use Rattle.std.proofs.Common.{◌≡◌, ℕ, ◌+◌, ◌<◌, List, length, drop, get_or, ap, ◌∙◌, inl}
use Rattle.std.specs.Prelude.{nat_le, ◌||◌}
use Rattle.std.proofs.lemmas.List.{drop_more}
use Rattle.text_model.specs.declared.coords.Coord.{Coord}
use Rattle.text_model.specs.Coords.{is_at_most}
use Rattle.text_model.specs.Texts.{offset, IsPlace, last_place}
use Rattle.text_model.proofs.PlaceLemmas.{is_at_most-offset}
use Rattle.selection_set.specs.declared.sel.Sel.{Sel}
use Rattle.selection_set.specs.Inside.{IsInside}
use Rattle.selection_set.specs.Listing.{ranges_of}
use Rattle.key_rows.specs.Entering.{reaches_end}

-- whether one does
pub reaches-by : (text : List ℕ) (last : Coord) (s : Sel) → IsPlace text last → offset text last ≡ last_place text → IsInside text s → is_at_most last s.high ≡ nat_le (last_place text) (offset text s.high)
reaches-by text last s p o h = is_at_most-offset text last s.high (inl p) (inl h.high) ∙ ap (λ n. nat_le n (offset text s.high)) o

-- the selections from one on: it, or those behind it
pub reaches-next : (text : List ℕ) (sels : List Sel) (i : ℕ) (d : Sel) → i < length sels
    → reaches_end text (ranges_of text (drop i sels)) ≡ (nat_le (last_place text) (offset text (get_or sels i d).high) || reaches_end text (ranges_of text (drop (i + 1) sels)))
reaches-next text sels i d h = ap (λ xs. reaches_end text (ranges_of text xs)) (drop_more sels i d h)
