use Rattle.std.proofs.Common.{◌≡◌, drop}
use Rattle.std.specs.List.{list_any}
use Rattle.std.specs.Str.{bytes_eq}
use Rattle.regex_ports.proofs.refusing.is_listed.Given as goal

abbrev pub invariant-loop-n : goal.invariant-loop-n
invariant-loop-n l = list_any (λ word. bytes_eq word l.text) (drop l.n l.listed) ≡ list_any (λ word. bytes_eq word l.text) l.listed
