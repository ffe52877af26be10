use Rattle.std.proofs.Common.{◌≡◌, List, [], ◌∷◌, ◌++◌, length, map, sym, ap, ◌∙◌, arith, append_assoc, append-nil}
use Rattle.std.specs.Prelude.{Some}
use Rattle.std.specs.Vec.Iter.{into_iter_items}
use Rattle.std.proofs.lemmas.List.{map-append}
use Rattle.ui_board.proofs.board.Board.of.Goals as goal

all-done : {B : Type 0} (done rest all : List B) → done ++ rest ≡ all → length rest ≡ 0 → done ≡ all
all-done done [] all e none = sym (append-nil done) ∙ e
all-done done (next ∷ rest) all e none = absurd (omega (arith, none))

pub loop-ui-preserved : goal.loop-ui-preserved
loop-ui-preserved g c = record {
  all = append_assoc c.loop-ui.yielded (c.in-Some.ui ∷ []) (into_iter_items c.next.new.self) ∙ ap (λ q. c.loop-ui.yielded ++ q) (sym c.in-Some.ensures.steps.0) ∙ c.loop-ui.invariant.all;
  left = omega (arith, c.loop-ui.invariant.left, ap length c.in-Some.ensures.steps.0, c.in-Some.ensures.steps.1);
  boxes = c.in_ok-push.ensures.items ∙ ap (λ q. q ++ Some c.in-Some.ui ∷ []) c.loop-ui.invariant.boxes ∙ sym (map-append Some c.loop-ui.yielded (c.in-Some.ui ∷ []));
}

pub returns : goal.returns
returns g c = c.loop-ui.invariant.boxes ∙ ap (λ q. map Some q) (all-done c.loop-ui.yielded (into_iter_items c.loop-ui.ui-iterator) c.args.uis.items c.loop-ui.invariant.all (sym c.loop-ui.invariant.left ∙ c.in-None.ensures.steps.0))
