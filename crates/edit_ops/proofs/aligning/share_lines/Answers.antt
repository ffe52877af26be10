use Rattle.std.proofs.Common.{◌-◌, sym, ◌∙◌, arith}
use Rattle.edit_ops.proofs.EachLemmas.{no_sel}
use Rattle.edit_ops.proofs.AligningLemmas.{shares-last}
use Rattle.edit_ops.proofs.aligning.share_lines.Goals as goal

pub returns : goal.returns
returns c = sym (shares-last c.args.sels.now (c.loop-n.n - 1) no_sel (omega arith)) ∙ c.loop-n.invariant.goes_on
