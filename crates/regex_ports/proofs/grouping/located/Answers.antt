use Rattle.std.proofs.Common.{◌≡◌, ℕ, ◌-◌, [], ◌∷◌, ◌++◌, map, Option, Some, option_map, sym, ap, ◌∙◌, arith, rules}
use Rattle.std.specs.List.{range_with_len}
use Rattle.regex.specs.Locations.{location, location_count}
use Rattle.regex_ports.specs.declared.pattern.Span.{Span}
use Rattle.regex_ports.specs.Matching.{span_of}
use Rattle.regex_ports.proofs.GroupLemmas.{located-more, located-all}
use Rattle.regex_ports.proofs.grouping.located.Goals as goal

pub loop-n-init : goal.loop-n-init
loop-n-init c =
    let pushed : c.push.new.self.items ≡ Some c.args.found ∷ [] = search rules in
    ap (λ xs. xs ++ map (λ n. option_map span_of (location c.args.locations.now n)) (range_with_len 1 (location_count c.args.locations.now - 1))) pushed

pub loop-n-preserved : goal.loop-n-preserved
loop-n-preserved c =
    let f : ℕ → Option Span = λ n. option_map span_of (location c.args.locations.now n) in
    let pushed : c.push-in-loop-n.new.self.items ≡ c.loop-n.spans.items ++ c.group_at.result ∷ [] = search rules in
    located-more f c.loop-n.spans.items c.push-in-loop-n.new.self.items c.loop-n.n (location_count c.args.locations.now) (omega (arith, c.loop-n-test.true, c.len-n-end.ensures)) (pushed ∙ ap (λ x. c.loop-n.spans.items ++ x ∷ []) c.group_at.ensures) ∙ c.loop-n.invariant

pub returns : goal.returns
returns c =
    let f : ℕ → Option Span = λ n. option_map span_of (location c.args.locations.now n) in
    sym (located-all f c.loop-n.spans.items c.loop-n.n (location_count c.args.locations.now) (omega (arith, c.loop-n-test.false, c.len-n-end.ensures))) ∙ c.loop-n.invariant
