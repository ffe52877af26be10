use Rattle.std.proofs.Common.{◌≡◌, ℕ, List, None, false, ap, arith}
use Rattle.text_model.specs.declared.coords.Coord.{Coord}
use Rattle.text_model.specs.Texts.{IsStored, IsPlace, offset, last_place}
use Rattle.text_model.proofs.PlaceLemmas.{some_lines}
use Rattle.line_buffer.proofs.StepLemmas.{next_line_place}
use Rattle.list_model.specs.Ranges.{Range}
use Rattle.selection_set.specs.declared.sel.Sel.{Sel}
use Rattle.selection_set.specs.Inside.{range_of, IsInside}
use Rattle.selection_set.proofs.HeldLemmas.{one-held, one-selected}
use Rattle.list_keys.proofs.main_selection.whole_text.Goals as goal

-- the selection up to a place
abbrev upto : Coord → Sel
upto last = record { low = record { line = 0; column = 0 }; high = last; turned = false; target = None }

upto-inside : (text : List ℕ) (last : Coord) → IsStored text → IsPlace text last → IsInside text (upto last)
upto-inside text last t p = record { low = next_line_place text 0 t (some_lines text t.is_text); high = p; ordered = omega arith }

upto-range : (text : List ℕ) (last : Coord) (o : ℕ) → offset text last ≡ o → range_of text (upto last) ≡ record { low = 0; high = o; turned = false; target = None }
upto-range text last o e = ap (λ n. let r : Range = record { low = 0; high = n; turned = false; target = None } in r) e

pub returns : goal.returns
returns c = record {
  held = one-held c.args.lines.now (upto c.last_place.result) c.one.result c.one.ensures (upto-inside c.args.lines.now c.last_place.result c.last_place.ensures.valid c.last_place.ensures.place);
  whole = one-selected c.args.lines.now (upto c.last_place.result) c.one.result _ c.one.ensures (upto-range c.args.lines.now c.last_place.result (last_place c.args.lines.now) c.last_place.ensures.last);
}
