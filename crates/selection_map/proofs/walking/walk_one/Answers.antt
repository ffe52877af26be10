use Rattle.std.proofs.Common.{◌∙◌, ap₂, arith}
use Rattle.text_model.specs.declared.coords.Coord.{Coord}
use Rattle.selection_set.specs.declared.sel.Sel.{Sel}
use Rattle.selection_map.proofs.WalkLemmas.{over-low, over-high, over-next}
use Rattle.selection_map.proofs.walking.walk_one.Goals as goal

pub advance-low-requires : goal.advance-low-requires
advance-low-requires g c = over-low _ _ _ _ _ c.requires

pub advance-high-requires : goal.advance-high-requires
advance-high-requires g c = over-high _ _ _ _ _ _ c.requires c.advance-low.ensures.goes_on c.advance-low.ensures.few

pub goes-requires-clause-at_small : goal.goes-requires-clause-at_small
goes-requires-clause-at_small g c = (over-next _ _ _ _ _ _ _ c.requires c.advance-low.ensures.goes_on c.advance-low.ensures.few c.advance-high.ensures.goes_on c.advance-high.ensures.few).low_small.end

pub goes-requires-clause-onto_small : goal.goes-requires-clause-onto_small
goes-requires-clause-onto_small g c = (over-next _ _ _ _ _ _ _ c.requires c.advance-low.ensures.goes_on c.advance-low.ensures.few c.advance-high.ensures.goes_on c.advance-high.ensures.few).low_small.reach.onto

pub goes-requires-2-clause-at_small : goal.goes-requires-2-clause-at_small
goes-requires-2-clause-at_small g c = (over-next _ _ _ _ _ _ _ c.requires c.advance-low.ensures.goes_on c.advance-low.ensures.few c.advance-high.ensures.goes_on c.advance-high.ensures.few).high_small.end

pub goes-requires-2-clause-onto_small : goal.goes-requires-2-clause-onto_small
goes-requires-2-clause-onto_small g c = (over-next _ _ _ _ _ _ _ c.requires c.advance-low.ensures.goes_on c.advance-low.ensures.few c.advance-high.ensures.goes_on c.advance-high.ensures.few).high_small.reach.onto

pub returns : goal.returns
returns g c =
    let put : Coord → Coord → Sel = λ a b. record { low = a; high = b; turned = c.args.sel.turned; target = c.args.sel.target } in
    record {
      through = ap₂ put (c.goes.ensures ∙ (over-next _ _ _ _ _ _ _ c.requires c.advance-low.ensures.goes_on c.advance-low.ensures.few c.advance-high.ensures.goes_on c.advance-high.ensures.few).low_right) (c.goes-2.ensures ∙ (over-next _ _ _ _ _ _ _ c.requires c.advance-low.ensures.goes_on c.advance-low.ensures.few c.advance-high.ensures.goes_on c.advance-high.ensures.few).high_right);
      goes_on = λ rest here. (over-next _ _ _ _ _ _ _ here c.advance-low.ensures.goes_on c.advance-low.ensures.few c.advance-high.ensures.goes_on c.advance-high.ensures.few).over;
      few = c.advance-high.ensures.few;
      turns = omega (arith, c.advance-low.ensures.turns, c.advance-high.ensures.turns);
    }
