use Rattle.std.proofs.Common.{arith}
use Rattle.regex_select.proofs.FlagLemmas.{set-below}
use Rattle.regex_select.proofs.keeping.main_place.Goals as goal

pub returns-then-flags-main-clause-below : goal.returns-then-flags-main-clause-below
returns-then-flags-main-clause-below c =
    omega (arith, c.count.ensures.value, c.requires.all, set-below c.args.flags.now c.args.main c.requires.main c.if-flags-main.true)
