use Rattle.std.proofs.Common.{◌≡◌, ◌+◌, ◌-◌, ◌<◌, [], ◌++◌, List, map, length, get_or, ap, ap₂, ◌∙◌, arith, subst}
use Rattle.std.specs.Prelude.{flat_map}
use Rattle.std.proofs.lemmas.List.{get_or_read}
use Rattle.text_model.specs.Texts.{nth_line}
use Rattle.regex_ports.specs.declared.pattern.GroupSpan.{GroupSpan}
use Rattle.regex_ports.specs.Grouping.{groups_found}
use Rattle.highlight_paint.specs.Overs.{line_bytes, seen_overs, matches_over}
use Rattle.highlight_paint.specs.Texts.{bytes_between}
use Rattle.highlight_paint.specs.Painting.{IsLaidAt}
use Rattle.highlight_paint.proofs.PaintLemmas.{upto-more, found-long, found-at}
use Rattle.highlight_paint.proofs.painting.lay_matches.Goals as goal

pub index-list-requires : goal.index-list-requires
index-list-requires g c =
    let source = g.P.Pattern.source c.args.pattern.now in
    let all : c.in_ok-found.found.items ≡ map (groups_found (g.P.Pattern.source c.args.pattern.now)) (bytes_between c.args.part.lines.now c.args.part.top c.args.part.below) = c.in_ok-found.ensures ∙ ap (map (groups_found source)) c.new-texts.ensures in
    let long : length c.in_ok-found.found.items ≡ c.args.part.below - c.args.part.top = ap length all ∙ found-long (groups_found source) c.args.part.lines.now c.args.part.top c.args.part.below in
    omega (arith, c.loop-k-test.true, c.len-k-end.ensures, c.in_ok-found.found.ok.0, long, c.requires.all, c.args.grounds.now.ok.0)

pub loop-k-preserved : goal.loop-k-preserved
loop-k-preserved g c =
    let source = g.P.Pattern.source c.args.pattern.now in
    let text = c.args.part.lines.now in
    let line = nth_line c.args.part.lines.now (c.args.part.top + c.loop-k.k) in
    let all : c.in_ok-found.found.items ≡ map (groups_found (g.P.Pattern.source c.args.pattern.now)) (bytes_between c.args.part.lines.now c.args.part.top c.args.part.below) = c.in_ok-found.ensures ∙ ap (map (groups_found source)) c.new-texts.ensures in
    let long : length c.in_ok-found.found.items ≡ c.args.part.below - c.args.part.top = ap length all ∙ found-long (groups_found source) text c.args.part.top c.args.part.below in
    let below : c.loop-k.k < c.args.part.below - c.args.part.top = omega (arith, c.loop-k-test.true, c.len-k-end.ensures, c.requires.all, c.args.grounds.now.ok.0) in
    let inside : c.loop-k.k < length c.in_ok-found.found.items = omega (arith, below, long) in
    let list : c.as_slice.result.now ≡ groups_found (g.P.Pattern.source c.args.pattern.now) (line_bytes (nth_line c.args.part.lines.now (c.args.part.top + c.loop-k.k))) =
    c.as_slice.ensures ∙ get_or_read c.in_ok-found.found.items c.loop-k.k c.index-list.result.now inside c.index-list.ensures []
    ∙ ap (λ (xs : List (List GroupSpan)). get_or xs c.loop-k.k []) all ∙ found-at (groups_found source) text c.args.part.top c.args.part.below c.loop-k.k [] below in
    let same : c.as_slice-in-loop-k-2.result.now ≡ matches_over c.args.faces.now (g.P.Pattern.source c.args.pattern.now) c.args.groups.now (c.args.part.top + c.loop-k.k) (nth_line c.args.part.lines.now (c.args.part.top + c.loop-k.k)) =
    c.as_slice-in-loop-k-2.ensures.value ∙ c.in_ok-push_groups.ensures
    ∙ ap₂ (λ os cs. os ++ flat_map (seen_overs cs c.as_slice.result.now) c.as_slice-in-loop-k.result.now) c.clear.ensures.items c.line.ensures.value
    ∙ ap₂ (λ found seen. flat_map (seen_overs line found) seen) list (c.as_slice-in-loop-k.ensures.value ∙ c.in_ok-seen.ensures) in
    upto-more (matches_over c.args.faces.now source c.args.groups.now) text c.args.part.top c.args.grounds.now.items c.loop-k.k c.loop-k.grounds.items c.lay_at.new.grounds.items c.loop-k.invariant
    (subst (λ os. IsLaidAt c.loop-k.k os c.loop-k.grounds.items c.lay_at.new.grounds.items) same c.in_ok-lay_at.ensures)
