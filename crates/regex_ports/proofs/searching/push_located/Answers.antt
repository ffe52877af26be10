use Rattle.std.proofs.Common.{ℕ, [], ◌∷◌, ◌++◌, Option, option_map, ap, ◌∙◌, arith}
use Rattle.regex.specs.Locations.{location, location_count}
use Rattle.regex_ports.specs.declared.pattern.Span.{Span}
use Rattle.regex_ports.specs.Grouping.{numbered_from}
use Rattle.regex_ports.specs.Matching.{span_of}
use Rattle.regex_ports.proofs.SearchLemmas.{numbered-more}
use Rattle.regex_ports.proofs.searching.push_located.Goals as goal

pub loop-n-preserved : goal.loop-n-preserved
loop-n-preserved c =
    let f : ℕ → Option Span = λ n. option_map span_of (location c.args.locations.now n) in
    numbered-more f c.loop-n.out c.push_numbered-in-loop-n.new.out c.loop-n.n (location_count c.args.locations.now) (omega (arith, c.loop-n-test.true, c.len-n-end.ensures))
    (c.in_ok-push_numbered-2.ensures ∙ ap (λ x. c.loop-n.out ++ numbered_from c.loop-n.n (x ∷ [])) c.group_at.ensures)
    ∙ c.loop-n.invariant
