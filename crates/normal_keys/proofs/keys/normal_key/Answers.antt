use Rattle.std.proofs.Common.{◌≡◌, true, false, ap, ◌∙◌, subst}
use Rattle.std.specs.declared.option.Option.{Option}
use Rattle.key_names.specs.declared.key.Key.{Key}
use Rattle.kak_world.specs.declared.own.Recording.{Recording}
use Rattle.kak_world.specs.Events.{has_hooks}
use Rattle.kak_world.proofs.EventLaws.{hooks_own}
use Rattle.normal_keys.specs.Growing.{key_grows}
use Rattle.normal_keys.specs.Recording.{recording_of}
use Rattle.normal_keys.proofs.FewLemmas.{cleared-few, cleared-records}
use Rattle.normal_keys.proofs.keys.normal_key.Goals as goal

pub returns-clause-few : goal.returns-clause-few
returns-clause-few g c = λ calm h k.
    let still : has_hooks c.take_prefix-pending.new.world.flat ≡ false = ap has_hooks c.take_prefix-pending.ensures.clears ∙ hooks_own c.args.who _ c.args.world.now.flat ∙ calm in
    let P : Option Key → Type 0 = λ p. key_grows (recording_of c.args.who c.args.world.now.flat) p c.args.key ≡ true in
    let Q : Option Recording → Type 0 = λ r. key_grows r c.take_prefix-pending.result.1 c.args.key ≡ true in
    subst P c.take_prefix-pending.ensures.pending
    (subst Q (cleared-records c.args.who c.args.world.now.flat c.take_prefix-pending.new.world.flat c.requires c.take_prefix-pending.ensures.clears)
    (c.run_pending.ensures.few still (cleared-few c.args.who c.args.world.now.flat c.take_prefix-pending.new.world.flat c.take_prefix-pending.ensures.clears h) k))
