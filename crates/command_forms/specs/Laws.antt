-- What holds of switches, proved as the contract of a function of `laws`.
use Rattle.std.specs.Prelude.{◌≡◌, true}
use Rattle.command_forms.specs.declared.switches.Switch.{Switch}
use Rattle.command_forms.specs.Switches.{is_same_switch}

pub record SwitchLaws : Type 0 where
  -- a switch is the same as itself, and as no other
  pub same : (switch : Switch) → is_same_switch switch switch ≡ true
  pub apart : (a b : Switch) → is_same_switch a b ≡ true → a ≡ b
