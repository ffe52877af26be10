use Rattle.std.proofs.Common.{◌≡◌, ℕ, ◌+◌, ◌<◌, ◌≤◌, [], ◌++◌, List, length, refl, sym, ap, subst, ◌∙◌, arith, append-nil}
use Rattle.text_model.specs.declared.coords.Coord.{Coord}
use Rattle.text_model.specs.Texts.{IsPlace, offset, lines_of}
use Rattle.text_model.proofs.PlaceLemmas.{nth_line_is_line}
use Rattle.line_buffer.proofs.FlatLemmas.{start-le-offset}
use Rattle.list_model.specs.Ranges.{Range}
use Rattle.selection_set.specs.Inside.{range_of, IsInside}
use Rattle.selection_set.specs.Listing.{AreInside, ranges_of}
use Rattle.motion_keys.specs.Landmarks.{line_begin}
use Rattle.list_keys.specs.Cuts.{parts_of}
use Rattle.list_keys.proofs.CopyLemmas.{spans}
use Rattle.list_keys.proofs.EachLemmas.{inside-more}
use Rattle.list_keys.proofs.LineLemmas.{line_size}
use Rattle.list_keys.proofs.PartLemmas.{parts_from, line-part, last-part, part-pushed, part-room}
use Rattle.list_keys.proofs.parts.push_line_parts.Goals as goal

-- the end of a line is behind each place of it
last_behind : (text : List ℕ) (at end : Coord) → IsPlace text at → end.line ≡ at.line → end.column + 1 ≡ line_size text at.line → offset text at ≤ offset text end
last_behind text at end p l e = omega (arith, p.in_line, ap (line_begin text) l)

pub loop-from-init : goal.loop-from-init
loop-from-init c = record {
  place = c.requires.inside.low;
  ordered = c.requires.inside.ordered;
  upto = spans c.args.lines.now c.args.sel c.requires.inside;
  parts = refl;
  inside = c.requires.listed;
  capacity = refl;
}

pub push_reserved-requires : goal.push_reserved-requires
push_reserved-requires c =
    let next = line-part c.args.lines.now c.args.sel.turned c.loop-from.from c.line_end-end.result c.args.sel.high c.len-stored.ensures.valid.is_text c.loop-from.invariant.place c.requires.inside.high c.loop-from-test.true c.line_end-end.ensures.line
    (c.line_end-end.ensures.last ∙ ap (line_size c.args.lines.now) (sym c.line_end-end.ensures.line)) in
    let room : length c.loop-from.list.items + 1 ≤ c.args.list.now.capacity = part-room c.args.lines.now c.loop-from.list.items c.args.list.now.items _ _ (parts_of c.args.lines.now (range_of c.args.lines.now c.args.sel)) c.args.list.now.capacity (ap (λ (l : List Range). ranges_of c.args.lines.now c.loop-from.list.items ++ l) (sym next) ∙ c.loop-from.invariant.parts) c.requires.room in
    (omega arith, omega (arith, room, c.loop-from.invariant.capacity))

pub loop-from-preserved : goal.loop-from-preserved
loop-from-preserved c =
    let next = line-part c.args.lines.now c.args.sel.turned c.loop-from.from c.line_end-end.result c.args.sel.high c.len-stored.ensures.valid.is_text c.loop-from.invariant.place c.requires.inside.high c.loop-from-test.true c.line_end-end.ensures.line
    (c.line_end-end.ensures.last ∙ ap (line_size c.args.lines.now) (sym c.line_end-end.ensures.line)) in
    let there : c.loop-from.from.line + 1 < length (lines_of c.args.lines.now) = omega (arith, c.loop-from-test.true, c.requires.inside.high.on_line) in
    record {
      place = record { on_line = there; in_line = (nth_line_is_line c.args.lines.now (c.loop-from.from.line + 1) c.len-stored.ensures.valid.is_text there).some };
      ordered = start-le-offset c.args.lines.now (c.loop-from.from.line + 1) c.args.sel.high (omega (arith, c.loop-from-test.true));
      upto = omega (arith, c.loop-from-test.true);
      parts =
          ap (λ l. ranges_of c.args.lines.now l ++ parts_from c.args.lines.now c.args.sel.turned (offset c.args.lines.now c.args.sel.high) (line_begin c.args.lines.now (c.loop-from.from.line + 1))) c.push_reserved.ensures.items
          ∙ part-pushed c.args.lines.now c.loop-from.list.items c.part.result _ _ _ (ap (range_of c.args.lines.now) c.part.ensures) (ap (λ (l : List Range). ranges_of c.args.lines.now c.loop-from.list.items ++ l) (sym next) ∙ c.loop-from.invariant.parts);
      inside =
          subst (AreInside c.args.lines.now) (sym c.push_reserved.ensures.items)
          (inside-more c.args.lines.now c.loop-from.list.items c.part.result c.loop-from.invariant.inside
          (subst (IsInside c.args.lines.now) (sym c.part.ensures) (record { low = c.loop-from.invariant.place; high = c.line_end-end.ensures.place; ordered = last_behind c.args.lines.now c.loop-from.from c.line_end-end.result c.loop-from.invariant.place c.line_end-end.ensures.line c.line_end-end.ensures.last })));
      capacity = c.push_reserved.ensures.capacity ∙ c.loop-from.invariant.capacity;
    }

pub push_reserved-requires-2 : goal.push_reserved-requires-2
push_reserved-requires-2 c =
    let last = last-part c.args.lines.now c.args.sel.turned c.loop-from.from c.args.sel.high c.len-stored.ensures.valid.is_text c.loop-from.invariant.place c.requires.inside.high (omega (arith, c.loop-from-test.false, c.loop-from.invariant.upto)) c.loop-from.invariant.ordered in
    let room : length c.loop-from.list.items + 1 ≤ c.args.list.now.capacity = part-room c.args.lines.now c.loop-from.list.items c.args.list.now.items _ _ (parts_of c.args.lines.now (range_of c.args.lines.now c.args.sel)) c.args.list.now.capacity (ap (λ (l : List Range). ranges_of c.args.lines.now c.loop-from.list.items ++ l) (sym last) ∙ c.loop-from.invariant.parts) c.requires.room in
    (omega arith, omega (arith, room, c.loop-from.invariant.capacity))

pub returns-clause-ranges : goal.returns-clause-ranges
returns-clause-ranges c =
    let last = last-part c.args.lines.now c.args.sel.turned c.loop-from.from c.args.sel.high c.len-stored.ensures.valid.is_text c.loop-from.invariant.place c.requires.inside.high (omega (arith, c.loop-from-test.false, c.loop-from.invariant.upto)) c.loop-from.invariant.ordered in
    sym (append-nil (ranges_of c.args.lines.now c.push_reserved-2.new.self.items)) ∙ ap (λ l. ranges_of c.args.lines.now l ++ []) c.push_reserved-2.ensures.items
    ∙ part-pushed c.args.lines.now c.loop-from.list.items c.part-2.result _ _ _ (ap (range_of c.args.lines.now) c.part-2.ensures) (ap (λ (l : List Range). ranges_of c.args.lines.now c.loop-from.list.items ++ l) (sym last) ∙ c.loop-from.invariant.parts)
