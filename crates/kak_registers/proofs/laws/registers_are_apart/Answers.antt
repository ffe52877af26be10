use Rattle.std.proofs.Common.{refl}
use Rattle.kak_registers.proofs.RegisterLemmas.{set-same, set-other}
use Rattle.kak_registers.proofs.laws.registers_are_apart.Goals as goal

pub returns : goal.returns
returns c = record {
  same = set-same;
  others = set-other;
  nothing = λ rows. refl;
}
