-- Lists on a shelf are settled, and lie inside their text.
use Rattle.std.proofs.Common.{ℕ, ◌<◌, List, [], ◌∷◌, length, map}
use Rattle.std.specs.List.{AllByRecursion}
use Rattle.text_model.proofs.PlaceLemmas.{offset-below}
use Rattle.list_model.specs.Ranges.{Range}
use Rattle.selection_set.specs.declared.sel.Sel.{Sel}
use Rattle.selection_set.specs.Listing.{AreInside, ranges_of}
use Rattle.selection_set.specs.Held.{IsHeld}
use Rattle.change_list.specs.Logs.{Logged}
use Rattle.list_shelf.specs.declared.rows.ShelfRow.{ShelfRow}
use Rattle.list_shelf.specs.Lagging.{seen_by}
use Rattle.list_shelf.specs.Shelves.{Held, seen_in, AllLag}
use Rattle.list_shelf.proofs.LagLemmas.{seen-held}
use Rattle.kak_world.specs.Settled.{AreSettledInside}

all-inside : (text : List ℕ) (list : List Sel) → AreInside text list → AllByRecursion (λ (r : Range). r.high < length text) (ranges_of text list)
all-inside text [] a = tt
all-inside text (x ∷ list) a = (offset-below text x.high a.0.high, all-inside text list a.1)

pub lists-settled : (text : List ℕ) (log : Logged) (rows : List ShelfRow) → AllLag text log rows → AllByRecursion (λ (held : Held). AreSettledInside text held.sels) (map (seen_in text log) rows)
lists-settled text log [] a = tt
lists-settled text log (row ∷ rows) a =
    let held : IsHeld text (seen_by log row.lag) = seen-held text log row.lag a.0 in
    (record { settled = held.settled; inside = all-inside text (seen_by log row.lag).list held.inside }, lists-settled text log rows a.1)
