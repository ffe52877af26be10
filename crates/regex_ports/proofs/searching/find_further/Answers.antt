use Rattle.std.proofs.Common.{◌+◌, option_map, sym, ap, arith}
use Rattle.regex.specs.Patterns.{find_str}
use Rattle.regex.specs.Strings.{matcher_pattern}
use Rattle.regex_ports.specs.Searching.{found_span}
use Rattle.regex_ports.proofs.SearchLemmas.{past-end, none-located}
use Rattle.regex_ports.proofs.searching.find_further.Goals as goal

pub returns-then-byte-text-clause-found : goal.returns-then-byte-text-clause-found
returns-then-byte-text-clause-found c = sym (ap (option_map found_span) (past-end (matcher_pattern c.args.matcher.now) c.args.text.now c.args.byte (omega (arith, c.if-byte-text.true))))

pub returns-then-byte-text-clause-located : goal.returns-then-byte-text-clause-located
returns-then-byte-text-clause-located c = none-located (find_str (matcher_pattern c.args.matcher.now) c.args.text.now (c.args.byte + 1)) c.args.locations.now (past-end (matcher_pattern c.args.matcher.now) c.args.text.now c.args.byte (omega (arith, c.if-byte-text.true)))
