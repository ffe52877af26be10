use Rattle.std.proofs.Common.{inr}
use Rattle.edit_ops.specs.declared.kinds.Erase.TheVariants.{Selection}
use Rattle.edit_ops.specs.Erasing.{erasures}
use Rattle.kak_world.specs.Flat.{sels_of}
use Rattle.key_rows.proofs.WantingLemmas.{behind-ready}
use Rattle.key_rows.proofs.edits.cut.Goals as goal

pub returns-clause-wanting : goal.returns-clause-wanting
returns-clause-wanting g c = λ h. inr (behind-ready (λ w. erasures Selection (sels_of c.args.who w).list) c.args.who c.args.world.now.flat _ c.keep.new.world.flat c.erase.new.world.flat c.in_ok-keep.ensures.sets (c.erase.ensures.wanting h))
