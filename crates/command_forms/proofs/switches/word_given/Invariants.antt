use Rattle.std.proofs.Common.{◌≡◌, drop}
use Rattle.std.specs.Option.{option_or, option_copied}
use Rattle.command_forms.specs.Switches.{word_given}
use Rattle.command_forms.proofs.switches.word_given.Given as goal

abbrev pub invariant-loop-g : goal.invariant-loop-g
invariant-loop-g l = option_or (word_given l.switch (drop l.g-index l.given)) (option_copied l.found) ≡ word_given l.switch l.given
