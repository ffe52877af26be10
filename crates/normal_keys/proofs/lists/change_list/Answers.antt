use Rattle.std.proofs.Common.{length, ap, arith, inl, inr}
use Rattle.std.proofs.lemmas.Bool.{false≢true}
use Rattle.std.proofs.lemmas.List.{length-map}
use Rattle.text_model.proofs.CoordLemmas.{test_cases}
use Rattle.list_model.specs.Ranges.{Selected}
use Rattle.selection_set.specs.Inside.{range_of}
use Rattle.selection_set.specs.Held.{selected}
use Rattle.kak_world.specs.Flat.{text_of}
use Rattle.list_keys.specs.Changes.{change_adds}
use Rattle.normal_keys.proofs.FewLemmas.{unadding-few}
use Rattle.normal_keys.proofs.lists.change_list.Goals as goal

pub returns-in-Err-NoMemory-clause-few : goal.returns-in-Err-NoMemory-clause-few
returns-in-Err-NoMemory-clause-few g c = λ h k.
    elim (test_cases (change_adds c.args.change)) [
      | inl e ↦ e
      | inr e ↦ absurd (false≢true (c.in-Err-NoMemory.ensures.few
          (omega (arith, h, ap (λ (s : Selected). length s.list) c.sels.ensures.sels, length-map c.sels.result.now.list (range_of (text_of c.args.who c.args.world.now.flat))))
          (unadding-few c.args.change c.lines.result.now (selected c.lines.result.now c.sels.result.now) e
          (omega (arith, h, ap (λ (s : Selected). length s.list) c.sels.ensures.sels, length-map c.sels.result.now.list (range_of (text_of c.args.who c.args.world.now.flat)), length-map c.sels.result.now.list (range_of c.lines.result.now))))))
    ]
